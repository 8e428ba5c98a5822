-- What a write of satp leaves: the value, if its mode is supported, and else the word as it was. Assumes nothing.
use mathlib.Core.Path.{◌≡◌, sym, ap, ◌∙◌}
use mathlib.Core.Bool.{Bool, true, false, cond, not, ◌&&◌}
use mathlib.Core.List.{List}
use Prim.Native.Nat.{ℕ, ◌*◌, ◌%◌, ◌^◌, ◌<◌}
use native.Mathlib.Nat.{mul-one, mod-eq_of_lt}
use native.Mathlib.Omega.{arith}
use lib.Bits.{bit_and, bit_or, and_zero_r}
use lib.Dec.{eqb}
use Rattle.answers.specs.Answer.{Answer, done, refused}
use Rattle.answers.specs.Bits.{bits}
use Rattle.answers.proofs.Determined.{same_value}
use Rattle.csr_list.specs.List.{place_of}
use Rattle.csr.specs.Modes.{is_s}
use Rattle.csr.specs.Satp.{supported}
use Rattle.csr.specs.Views.{every, write_through}
use Rattle.csr.specs.Registers.{mstatus_in, word_at, new_word}
use Rattle.csr.specs.declared.PrivMode.{PrivMode}
use Rattle.csr.proofs.Rules.{all_of}

-- what was done was not refused
done_so : (closed : Bool) {x n : ℕ} → ◌≡◌ {A = Answer ℕ} (cond closed (refused 3) (done x)) (done n) → x ≡ n
done_so true e = absurd (let z : 3 ≡ 0 = ap (λ (t : Answer ℕ). t.number) e in omega arith)
done_so false e = same_value e

module _ (ws : List ℕ) (value : ℕ) (mode : PrivMode) {n : ℕ} (e : new_word ws 0x180 value mode ≡ done n) where
  written : cond (not (supported value)) (word_at ws 0x180) (bit_or (bit_and (word_at ws 0x180) 0) (bit_and (value * 2 ^ 0 % 2 ^ 64) every)) ≡ n
  unfolding write_through place_of
  written = done_so (is_s mode && eqb (bits 20 20 (mstatus_in ws)) 1) e

  -- a write with another mode than 0 and 8 changes nothing
  pub mode_declined : supported value ≡ false → n ≡ word_at ws 0x180
  mode_declined h = sym (rw h at written)

  pub mode_taken : value < 2 ^ 64 → supported value ≡ true → n ≡ value
  mode_taken small h = sym (rw h at written) ∙ rw (and_zero_r (word_at ws 0x180), mul-one value, mod-eq_of_lt small) (all_of value small)
