-- Signed integers of 128 bits, as the code has them: products of two numbers of 64 bits, one of them signed, and their upper halves. Assumes nothing.
use Rattle.std.proofs.Common.{◌≡◌, ℕ, zero, suc, ◌*◌, ◌^◌, ◌-◌, ◌<◌, ◌≤◌, ℤ, pos, negsuc, ◌*ℤ◌, neg_ℤ, nat_abs, sym, refl, lt_of_le_of_lt, mul-le-mul, arith}
use lib.Signed.{mag, shr_z, nat_abs-le}
use Rattle.answers.specs.Bits.{signed}
use mir.Syntax.{w64, w128}
use mir.Val.{to_z, of_z}
use Rattle.std.proofs.Math.Facts.{to_z-of_z}
use Rattle.answers.proofs.Signs.{low_machine, mag_signed}
use Rattle.extensions.specs.Multiply.{high}
use Rattle.extensions.specs.Operands.{uns, sgn}
use Rattle.extensions.proofs.Registers.{whole, passed}

held : (z : ℤ) → mag z < 2 ^ 127 → to_z w128 (of_z w128 z) ≡ z
held z h = to_z-of_z {w = w128} (record { sfits = h })

mag_shifted : (z : ℤ) → mag z < 2 ^ 127 → mag (shr_z z (2 ^ 64)) < 2 ^ 63
mag_shifted (pos n) h = omega arith
mag_shifted (negsuc n) h = omega arith

-- shifted down by 64, it fits 64 bits
pub shifted : (z : ℤ) → mag z < 2 ^ 127 → of_z w64 (to_z w64 (of_z w64 (to_z w128 (of_z w128 (shr_z (to_z w128 (of_z w128 z)) (2 ^ 64)))))) ≡ high z
shifted z h =
    let s = shr_z z (2 ^ 64)
    in let m = mag_shifted z h
    in rw (held z h, held s (omega (arith, m)), passed s m) (sym (low_machine w64 s (record { sfits = m })))

abs_neg : (n : ℕ) → nat_abs (neg_ℤ (pos n)) ≡ n
abs_neg zero = refl
abs_neg (suc n) = refl

abs_product : (x y : ℤ) → nat_abs (x *ℤ y) ≡ nat_abs x * nat_abs y
abs_product (pos a) (pos b) = refl
abs_product (pos a) (negsuc b) = abs_neg (a * suc b)
abs_product (negsuc a) (pos b) = abs_neg (suc a * b)
abs_product (negsuc a) (negsuc b) = refl

mag_abs : (z : ℤ) → mag z ≤ nat_abs z
mag_abs (pos n) = omega arith
mag_abs (negsuc n) = omega arith

held_abs : (z : ℤ) → nat_abs z < 2 ^ 127 → to_z w128 (of_z w128 z) ≡ z
held_abs z h = held z (lt_of_le_of_lt (mag_abs z) h)

product : (x y : ℤ) → nat_abs x ≤ 2 ^ 63 → nat_abs y ≤ 2 ^ 64 - 1 → to_z w128 (of_z w128 (to_z w128 (of_z w128 x) *ℤ to_z w128 (of_z w128 y))) ≡ x *ℤ y
product x y hx hy =
    let b : nat_abs x * nat_abs y ≤ 2 ^ 63 * (2 ^ 64 - 1) = mul-le-mul hx hy
    in let p : nat_abs (x *ℤ y) < 2 ^ 127 = rw (abs_product x y) (omega (arith, b))
    in rw (held_abs x (omega (arith, hx)), held_abs y (omega (arith, hy)), held_abs (x *ℤ y) p)

-- of a register read as signed and one read as either, as the code hands them on
reading : (a : ℕ) → a < 2 ^ 64 → to_z w64 (of_z w64 (to_z w64 a)) ≡ sgn 64 a
reading a l = rw (whole a l) (passed (to_z w64 a) (mag_signed 64 a (omega arith) l))

abs_reading : (a : ℕ) → a < 2 ^ 64 → nat_abs (sgn 64 a) ≤ 2 ^ 63
abs_reading a l = rw (whole a l) (nat_abs-le (signed 64 a) (mag_signed 64 a (omega arith) l))

pub by_signed : (a b : ℕ) → a < 2 ^ 64 → b < 2 ^ 64 →
    to_z w128 (of_z w128 (to_z w128 (of_z w128 (to_z w64 (of_z w64 (to_z w64 a)))) *ℤ to_z w128 (of_z w128 (to_z w64 (of_z w64 (to_z w64 b)))))) ≡ sgn 64 a *ℤ sgn 64 b
by_signed a b la lb =
    let s = abs_reading b lb
    in rw (reading a la, reading b lb) (product (sgn 64 a) (sgn 64 b) (abs_reading a la) (omega (arith, s)))

pub by_unsigned : (a b : ℕ) → a < 2 ^ 64 → b < 2 ^ 64 →
    to_z w128 (of_z w128 (to_z w128 (of_z w128 (to_z w64 (of_z w64 (to_z w64 a)))) *ℤ to_z w128 (of_z w128 (pos b)))) ≡ sgn 64 a *ℤ uns 64 b
by_unsigned a b la lb = rw (reading a la, whole b lb) (product (sgn 64 a) (pos b) (abs_reading a la) (omega (arith, lb)))
