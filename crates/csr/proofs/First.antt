-- The first of some bits that is set, as a loop over them meets it: at a bit that is set, and past one that is not. Assumes nothing.
use mathlib.Core.Path.{◌≡◌, refl, sym, ap, ◌∙◌}
use mathlib.Core.Bool.{true, false}
use mathlib.Core.List.{List}
use Prim.Native.Nat.{ℕ, suc, ◌+◌, ◌-◌, ◌/◌, ◌%◌, ◌^◌, ◌<◌}
use native.Mathlib.Omega.{arith}
use borrow.Author.Tests.{eq-eqb, ne_eqb}
use lib.ListN.{length, get_or, drop}
use lib.Seq.{drop-cons}
use Rattle.answers.specs.Bits.{bits}
use Rattle.csr.specs.Interrupts.{is_set, first_set}

alone : (k w : ℕ) → w / 2 ^ k % 2 ≡ bits k k w
alone k w = ap (λ (n : ℕ). w / 2 ^ k % 2 ^ n) {x = 1} {y = k + 1 - k} (omega arith)

module _ (ks : List ℕ) (i w other : ℕ) (h : i < length ks) where
  pub at_set : w / 2 ^ get_or ks i 0 % 2 ≡ 1 → get_or ks i 0 ≡ first_set (drop i ks) w other
  at_set e =
      let s : is_set (get_or ks i 0) w ≡ true = eq-eqb _ 1 (sym (alone (get_or ks i 0) w) ∙ e)
      in rw (drop-cons ks i 0 h, s) refl

  pub past_clear : (w / 2 ^ get_or ks i 0 % 2 ≡ 1 → ⊥) → first_set (drop i ks) w other ≡ first_set (drop (i + 1) ks) w other
  past_clear f =
      let s : is_set (get_or ks i 0) w ≡ false = ne_eqb _ 1 (λ e. f (alone (get_or ks i 0) w ∙ e))
      in rw (drop-cons ks i 0 h, s) (ap (λ (j : ℕ). first_set (drop j ks) w other) {x = suc i} {y = i + 1} (omega arith))
