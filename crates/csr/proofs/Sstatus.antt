-- What sstatus shows of mstatus: all that a read of mstatus gives, under one mask. So its SD tells whether FS, XS or VS is dirty; and UXL shows,
-- but no write of sstatus reaches it. Assumes nothing.
use mathlib.Core.Path.{◌≡◌, refl, sym, ap, ◌∙◌}
use mathlib.Core.Bool.{Bool, true, false, cond}
use mathlib.Core.List.{List}
use Prim.Native.Nat.{ℕ, ◌+◌, ◌-◌, ◌*◌, ◌%◌, ◌^◌, ◌<◌}
use native.Mathlib.Nat.{div-one}
use native.Mathlib.Omega.{arith}
use lib.Bits.{bit_and, bit_or, or_zero_r}
use lib.Dec.{eqb}
use Rattle.answers.specs.Answer.{done}
use Rattle.answers.specs.Bits.{bits}
use Rattle.answers.proofs.Determined.{same_value}
use Rattle.csr_list.specs.List.{place_of}
use Rattle.csr.specs.Views.{every, except, sstatus_mask, sstatus_read_mask, some_dirty, with_sd, read_through, write_through}
use Rattle.csr.specs.Registers.{mstatus_in, read_register, new_word}
use Rattle.csr.specs.declared.PrivMode.{PrivMode}
use Rattle.csr.proofs.Fields.{joined, shows, hides}
use Rattle.csr.proofs.Rules.{all_of}

-- ---- the word with SD

-- FS, XS and VS are the same
abbrev pub Alike : ℕ → ℕ → Type 0
Alike v w = (bits 14 13 v ≡ bits 14 13 w) × ((bits 16 15 v ≡ bits 16 15 w) × (bits 10 9 v ≡ bits 10 9 w))

-- the low 63 bits, and SD above them
abbrev topped : ℕ → Bool → ℕ
topped w sd = w % 2 ^ 63 + cond sd (2 ^ 63) 0

module _ (w : ℕ) where
  sd_fits : (sd : Bool) → topped w sd < 2 ^ 64
  sd_fits true = omega arith
  sd_fits false = omega arith

  sd_alone : (sd : Bool) → eqb (bits 63 63 (topped w sd)) 1 ≡ sd
  sd_alone true = ap (λ (n : ℕ). eqb n 1) {x = bits 63 63 (w % 2 ^ 63 + 2 ^ 63)} {y = 1} (omega arith)
  sd_alone false = ap (λ (n : ℕ). eqb n 1) {x = bits 63 63 (w % 2 ^ 63 + 0)} {y = 0} (omega arith)

  fields_below : (sd : Bool) → Alike (topped w sd) w
  fields_below true = (omega arith, (omega arith, omega arith))
  fields_below false = (omega arith, (omega arith, omega arith))

-- ---- the two reads

module _ (ws : List ℕ) (mode : PrivMode) where
  mstatus_read : read_register ws 0x300 mode ≡ done (with_sd (mstatus_in ws))
  unfolding read_through place_of
  mstatus_read = ap done (div-one (bit_and (with_sd (mstatus_in ws)) every) ∙ all_of (with_sd (mstatus_in ws)) (sd_fits (mstatus_in ws) (some_dirty (mstatus_in ws))))

  sstatus_read : read_register ws 0x100 mode ≡ done (bit_and (with_sd (mstatus_in ws)) sstatus_read_mask)
  unfolding read_through place_of
  sstatus_read = ap done (div-one (bit_and (with_sd (mstatus_in ws)) sstatus_read_mask))

-- what sstatus shows, in any mode, is what mstatus shows, in any mode, under the mask
pub sstatus_under_mask : (ws : List ℕ) (m n : PrivMode) {x : ℕ} → read_register ws 0x300 m ≡ done x → read_register ws 0x100 n ≡ done (bit_and x sstatus_read_mask)
sstatus_under_mask ws m n e = sstatus_read ws n ∙ ap (λ (y : ℕ). done (bit_and y sstatus_read_mask)) (same_value (sym (mstatus_read ws m) ∙ e))

-- SD is set there exactly if FS, XS or VS is 3; and S sees these three as they are
module _ (ws : List ℕ) (mode : PrivMode) {v : ℕ} (e : read_register ws 0x100 mode ≡ done v) where
  under_mask : v ≡ bit_and (with_sd (mstatus_in ws)) sstatus_read_mask
  under_mask = same_value (sym e ∙ sstatus_read ws mode)

  pub sd_in_sstatus : eqb (bits 63 63 v) 1 ≡ some_dirty (mstatus_in ws)
  sd_in_sstatus = ap (λ (n : ℕ). eqb (bits 63 63 n) 1) under_mask ∙ ap (λ (n : ℕ). eqb n 1) (shows 63 63 (with_sd (mstatus_in ws)) sstatus_read_mask refl) ∙ sd_alone (mstatus_in ws) (some_dirty (mstatus_in ws))

  pub fields_in_sstatus : Alike v (mstatus_in ws)
  fields_in_sstatus =
      let below : Alike (with_sd (mstatus_in ws)) (mstatus_in ws) = fields_below (mstatus_in ws) (some_dirty (mstatus_in ws))
      in (as_is 14 13 refl ∙ below.0, (as_is 16 15 refl ∙ below.1.0, as_is 10 9 refl ∙ below.1.1))
    where
      as_is : (hi lo : ℕ) → bits hi lo sstatus_read_mask ≡ 2 ^ (hi + 1 - lo) - 1 → bits hi lo v ≡ bits hi lo (with_sd (mstatus_in ws))
      as_is hi lo e = ap (bits hi lo) under_mask ∙ shows hi lo (with_sd (mstatus_in ws)) sstatus_read_mask e

-- ---- the write

-- UXL stays what it is
pub uxl_stays : (ws : List ℕ) (value : ℕ) (mode : PrivMode) {n : ℕ} → new_word ws 0x100 value mode ≡ done n → bits 33 32 n ≡ bits 33 32 (mstatus_in ws)
unfolding write_through place_of
uxl_stays ws value mode e =
    let old : ℕ = bit_and (mstatus_in ws) (except sstatus_mask)
    in ap (bits 33 32) (same_value (sym e))
    ∙ joined 33 32 old (bit_and (value * 2 ^ 0 % 2 ^ 64) sstatus_mask)
    ∙ ap (bit_or (bits 33 32 old)) (hides 33 32 (value * 2 ^ 0 % 2 ^ 64) sstatus_mask refl)
    ∙ or_zero_r (bits 33 32 old)
    ∙ shows 33 32 (mstatus_in ws) (except sstatus_mask) refl
