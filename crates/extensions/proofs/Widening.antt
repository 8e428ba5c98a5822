-- Every atomic operation commutes with sign extension, over the width: of what it makes of two values of k bits that were extended to
-- 64, the low k bits are what it makes of the values. Assumes nothing.
use Rattle.std.proofs.Common.{◌≡◌, ℕ, ◌+◌, ◌-◌, ◌%◌, ◌^◌, ◌<◌, ◌≤◌, Bool, true, false, cond, ltb, pos, sym, ap, ◌∙◌, mod-lt, mod-eq_of_lt, arith, pow_pos, pow_mono}
use mathlib.Core.Path.{subst}
use native.Mathlib.Nat.{add-mod}
use lib.Bits.{and_mod, or_mod, xor_mod}
use lib.Pow.{mod-mod-pow}
use lib.Signed.{lt_z}
use Rattle.answers.specs.Bits.{signed, low, extended}
use Rattle.answers.proofs.Orders.{by_order}
use Rattle.answers.proofs.Signs.{signed_below, signed_above, low_extended}
use Rattle.extensions.proofs.SignedOrder.{same_order}
use Rattle.extensions.specs.Atomic.{amo_result}
use Rattle.extensions.specs.declared.Amo.{Amo}
use Rattle.extensions.specs.declared.Amo.TheVariants.{Swap, Add, Xor, And, Or, Min, Max, Minu, Maxu}
use Rattle.extensions.proofs.Words.{signed_wide}

-- the register that holds the low k bits of a, extended
abbrev wide : ℕ → ℕ → ℕ
wide k a = extended k (pos a)

module _ (k : ℕ) (some : 0 < k) (fits : k ≤ 64) where
  within : 2 ^ k ≤ 2 ^ 64
  within = pow_mono {i = k} {j = 64} fits

  all : 64 - k + k ≡ 64
  all = omega arith

  narrow : (a : ℕ) → wide k a % 2 ^ k ≡ a % 2 ^ k
  narrow a = low_extended (64 - k) k (pos a) all

  picked : (t : Bool) (a b : ℕ) → cond t (wide k b) (wide k a) % 2 ^ k ≡ cond t (b % 2 ^ k) (a % 2 ^ k)
  picked true a b = narrow b
  picked false a b = narrow a

  -- the unsigned order stays: the upper half moves up as one
  module _ (n : ℕ) (l : n < 2 ^ k) where
    below : n < 2 ^ (k - 1) → low 64 (signed k n) ≡ n
    below p = let w = within in rw (signed_below k n p) (mod-eq_of_lt (omega arith))

    above : 2 ^ (k - 1) ≤ n → low 64 (signed k n) ≡ n + (2 ^ 64 - 2 ^ k)
    above p = let w = within in rw (signed_above k n p) (omega arith)

  order_of : (n p : ℕ) → n < 2 ^ k → p < 2 ^ k → ltb (low 64 (signed k n)) (low 64 (signed k p)) ≡ ltb n p
  order_of n p ln lp =
      let w = within
      in let H = 2 ^ (k - 1)
      in let D = 2 ^ 64 - 2 ^ k
      in by_order n H
      (λ f. by_order p H
      (λ g. rw (below n ln f, below p lp g))
      (λ g. rw (below n ln f, above p lp g) (same_order n (p + D) n p (λ i. omega arith) (λ i. omega arith))))
      (λ f. by_order p H
      (λ g. rw (above n ln f, below p lp g) (same_order (n + D) p n p (λ i. omega arith) (λ i. omega arith)))
      (λ g. rw (above n ln f, above p lp g) (same_order (n + D) (p + D) n p (λ i. omega arith) (λ i. omega arith))))

  order_wide : (a b : ℕ) → ltb (wide k a) (wide k b) ≡ ltb (a % 2 ^ k) (b % 2 ^ k)
  order_wide a b = order_of (a % 2 ^ k) (b % 2 ^ k) (mod-lt a (pow_pos k)) (mod-lt b (pow_pos k))

  sum_wide : (a b : ℕ) → (wide k a + wide k b) % 2 ^ 64 % 2 ^ k ≡ (a % 2 ^ k + b % 2 ^ k) % 2 ^ k
  sum_wide a b =
      let s = wide k a + wide k b
      in ap (λ (x : ℕ). s % 2 ^ x % 2 ^ k) (sym all) ∙ mod-mod-pow s (64 - k) k ∙ add-mod (wide k a) (wide k b) (2 ^ k) ∙ rw (narrow a, narrow b)

  pub commutes : (op : Amo) (a b : ℕ) → amo_result 64 op (wide k a) (wide k b) % 2 ^ k ≡ amo_result k op (a % 2 ^ k) (b % 2 ^ k)
  commutes Swap a b = narrow b
  commutes Add a b = sum_wide a b
  commutes Xor a b = xor_mod (wide k a) (wide k b) k ∙ rw (narrow a, narrow b)
  commutes And a b = and_mod (wide k a) (wide k b) k ∙ rw (narrow a, narrow b)
  commutes Or a b = or_mod (wide k a) (wide k b) k ∙ rw (narrow a, narrow b)
  commutes Min a b = rw (signed_wide k some fits a, signed_wide k some fits b) (picked (lt_z (signed k (b % 2 ^ k)) (signed k (a % 2 ^ k))) a b)
  commutes Max a b = rw (signed_wide k some fits a, signed_wide k some fits b) (picked (lt_z (signed k (a % 2 ^ k)) (signed k (b % 2 ^ k))) a b)
  commutes Minu a b = rw (order_wide b a) (picked (ltb (b % 2 ^ k) (a % 2 ^ k)) a b)
  commutes Maxu a b = rw (order_wide a b) (picked (ltb (a % 2 ^ k) (b % 2 ^ k)) a b)

  -- and it is again a value of k bits
  pub made_fits : (op : Amo) (a b : ℕ) → amo_result k op (a % 2 ^ k) (b % 2 ^ k) < 2 ^ k
  made_fits op a b =
      subst (λ (n : ℕ). n < 2 ^ k) (commutes op a b) (mod-lt (amo_result 64 op (wide k a) (wide k b)) (pow_pos k))
