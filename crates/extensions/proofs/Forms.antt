-- What the forms of an atomic operation make, a word form and a doubleword form. Assumes nothing.
use Rattle.std.proofs.Common.{◌≡◌, ℕ, ◌%◌, ◌^◌, ◌<◌, pos, refl, mod-eq_of_lt}
use Rattle.answers.specs.Bits.{extended}
use Rattle.answers.proofs.Strong.{both}
use Rattle.extensions.specs.Atomic.{amo_result, amo}
use Rattle.extensions.specs.declared.Amo.{Amo}
use Rattle.extensions.proofs.Registers.{whole, extended_register}

-- of a word in memory and the low word of a register
pub word : (op : Amo) (m s : ℕ) → m < 2 ^ 32 → amo 32 op m s ≡ (extended 32 (pos m), amo_result 32 op m (s % 2 ^ 32))
word op m s lm = rw (mod-eq_of_lt lm) refl

-- of a doubleword and the whole register
pub doubleword : (op : Amo) (m s : ℕ) → m < 2 ^ 64 → s < 2 ^ 64 → amo 64 op m s ≡ (m, amo_result 64 op m s)
doubleword op m s lm ls = both (extended_register m lm) (rw (whole m lm, whole s ls) refl)
