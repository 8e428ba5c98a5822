-- A word's bits and fields by their masks, as the code tests them: one law a bit, so that a function can name those it needs. Assumes nothing.
use mathlib.Core.Path.{◌≡◌, refl}
use mathlib.Core.Bool.{not, ◌||◌}
use Prim.Native.Nat.{ℕ}
use lib.Bits.{bit_and}
use lib.Dec.{eqb}
use Rattle.answers.specs.Bits.{bits}
use Rattle.csr.specs.Views.{some_dirty}
use Rattle.csr.proofs.Fields.{tested, all_full}

module _ (w : ℕ) where
  pub bit_1 : not (eqb (bit_and w 0x2) 0) ≡ eqb (bits 1 1 w) 1
  bit_1 = tested 1 w

  pub bit_3 : not (eqb (bit_and w 0x8) 0) ≡ eqb (bits 3 3 w) 1
  bit_3 = tested 3 w

  pub bit_17 : not (eqb (bit_and w 0x2_0000) 0) ≡ eqb (bits 17 17 w) 1
  bit_17 = tested 17 w

  pub bit_18 : not (eqb (bit_and w 0x4_0000) 0) ≡ eqb (bits 18 18 w) 1
  bit_18 = tested 18 w

  pub bit_19 : not (eqb (bit_and w 0x8_0000) 0) ≡ eqb (bits 19 19 w) 1
  bit_19 = tested 19 w

  pub bit_20 : not (eqb (bit_and w 0x10_0000) 0) ≡ eqb (bits 20 20 w) 1
  bit_20 = tested 20 w

  -- what is dirty, by the masks of FS, XS and VS
  pub dirty_by_masks : (eqb (bit_and w 0x6000) 0x6000 || (eqb (bit_and w 0x1_8000) 0x1_8000 || eqb (bit_and w 0x600) 0x600)) ≡ some_dirty w
  dirty_by_masks = rw (all_full 13 w, all_full 15 w, all_full 9 w) refl
