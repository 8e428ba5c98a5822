-- A field of a word: the two ways of a test by its mask, and what a mask leaves of it; over the field's place. Assumes nothing.
use mathlib.Core.Path.{◌≡◌, sym, ap, ◌∙◌}
use mathlib.Core.Bool.{true, false, not}
use Prim.Native.Nat.{ℕ, ◌+◌, ◌-◌, ◌*◌, ◌/◌, ◌%◌, ◌^◌}
use native.Mathlib.Nat.{mod-lt, mod-eq_of_lt}
use native.Mathlib.Omega.{arith}
use borrow.Author.Tests.{eq-eqb, ne_eqb, eqb-true, eqb-false}
use lib.Bits.{bit_and, bit_or, and_high, and_mask, and_mod, and_shr, and_zero_r, or_mod, or_shr}
use lib.Dec.{eqb}
use lib.Pow.{pow_pos, shl-shr}
use Rattle.answers.specs.Bits.{bits}
use Rattle.answers.proofs.Orders.{by_test}

-- the j bits from k on are v exactly if v stands there under their mask
module _ (j k w v : ℕ) where
  in_field : bit_and w (2 ^ (j + k) - 2 ^ k) ≡ v * 2 ^ k → w / 2 ^ k % 2 ^ j ≡ v
  in_field e = sym (shl-shr (w / 2 ^ k % 2 ^ j) k) ∙ ap (λ (n : ℕ). n / 2 ^ k) (sym (and_high w j k) ∙ e) ∙ shl-shr v k

  under_mask : w / 2 ^ k % 2 ^ j ≡ v → bit_and w (2 ^ (j + k) - 2 ^ k) ≡ v * 2 ^ k
  under_mask e = and_high w j k ∙ ap (λ (n : ℕ). n * 2 ^ k) e

module _ (k w : ℕ) where
  -- two bits, all of whose mask is set
  full : bit_and w (2 ^ (2 + k) - 2 ^ k) ≡ 3 * 2 ^ k → eqb (w / 2 ^ k % 4) 3 ≡ true
  full e = eq-eqb _ 3 (in_field 2 k w 3 e)

  not_full : (bit_and w (2 ^ (2 + k) - 2 ^ k) ≡ 3 * 2 ^ k → ⊥) → eqb (w / 2 ^ k % 4) 3 ≡ false
  not_full f = ne_eqb _ 3 (λ e. f (under_mask 2 k w 3 e))

  pub all_full : eqb (bit_and w (2 ^ (2 + k) - 2 ^ k)) (3 * 2 ^ k) ≡ eqb (w / 2 ^ k % 4) 3
  all_full =
      by_test (eqb (bit_and w (2 ^ (2 + k) - 2 ^ k)) (3 * 2 ^ k))
      (λ e. e ∙ sym (full (eqb-true _ _ e)))
      (λ e. e ∙ sym (not_full (eqb-false _ _ e)))

  -- one bit
  on : (bit_and w (2 ^ (1 + k) - 2 ^ k) ≡ 0 → ⊥) → eqb (w / 2 ^ k % 2) 1 ≡ true
  on f =
      let z : w / 2 ^ k % 2 ≡ 0 → ⊥ = λ e. f (under_mask 1 k w 0 e ∙ omega arith)
      in eq-eqb (w / 2 ^ k % 2) 1 (omega arith)

  off : bit_and w (2 ^ (1 + k) - 2 ^ k) ≡ 0 → eqb (w / 2 ^ k % 2) 1 ≡ false
  off e =
      let z : w / 2 ^ k % 2 ≡ 0 = in_field 1 k w 0 (e ∙ omega arith)
      in ne_eqb (w / 2 ^ k % 2) 1 (λ g. omega arith)

  pub tested : not (eqb (bit_and w (2 ^ (1 + k) - 2 ^ k)) 0) ≡ eqb (w / 2 ^ k % 2) 1
  tested =
      by_test (eqb (bit_and w (2 ^ (1 + k) - 2 ^ k)) 0)
      (λ e. rw (e, off (eqb-true _ 0 e)))
      (λ e. rw (e, on (eqb-false _ 0 e)))

-- ---- a field of a word under a mask

module _ (hi lo : ℕ) where
  meets : (w m : ℕ) → bits hi lo (bit_and w m) ≡ bit_and (bits hi lo w) (bits hi lo m)
  meets w m = ap (λ (n : ℕ). n % 2 ^ (hi + 1 - lo)) (and_shr w m lo) ∙ and_mod (w / 2 ^ lo) (m / 2 ^ lo) (hi + 1 - lo)

  pub joined : (w v : ℕ) → bits hi lo (bit_or w v) ≡ bit_or (bits hi lo w) (bits hi lo v)
  joined w v = ap (λ (n : ℕ). n % 2 ^ (hi + 1 - lo)) (or_shr w v lo) ∙ or_mod (w / 2 ^ lo) (v / 2 ^ lo) (hi + 1 - lo)

  -- a mask that has all of it shows it as it is; of one that has nothing of it, it is 0
  pub shows : (w m : ℕ) → bits hi lo m ≡ 2 ^ (hi + 1 - lo) - 1 → bits hi lo (bit_and w m) ≡ bits hi lo w
  shows w m e = meets w m ∙ ap (bit_and (bits hi lo w)) e ∙ and_mask (bits hi lo w) (hi + 1 - lo) ∙ mod-eq_of_lt (mod-lt (w / 2 ^ lo) (pow_pos (hi + 1 - lo)))

  pub hides : (w m : ℕ) → bits hi lo m ≡ 0 → bits hi lo (bit_and w m) ≡ 0
  hides w m e = meets w m ∙ ap (bit_and (bits hi lo w)) e ∙ and_zero_r (bits hi lo w)
