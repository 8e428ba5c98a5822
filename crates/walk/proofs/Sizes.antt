-- How far a leaf reaches, in pages and in bytes. Assumes nothing.
use Rattle.std.proofs.Common.{◌≡◌, ℕ, ◌+◌, ◌*◌, ◌%◌, ◌^◌, eqb, ◌∙◌, add-zero, arith}
use Rattle.std.proofs.lemmas.Grind.{common_steps}
use native.Mathlib.Nat.{mul-mod_left}
use lib.Pow.{mod-pow-add, shl-shr}

-- a page p is a multiple of 2^l pages exactly if its first byte is one of 2^(l + 12) bytes
pub page_aligned : (p l : ℕ) → eqb (p * 4096 % 2 ^ (l + 12)) 0 ≡ eqb (p % 2 ^ l) 0
page_aligned p l =
    let e : p * 4096 % 2 ^ (l + 12) ≡ (p % 2 ^ l) * 4096 = mod-pow-add (p * 2 ^ 12) l 12 ∙ simp (shl-shr, mul-mod_left, add-zero) in
    rw e (scaled (p % 2 ^ l))
  where
    scaled : (n : ℕ) → eqb (n * 4096) 0 ≡ eqb n 0
    scaled n = grind (arith, common_steps)
