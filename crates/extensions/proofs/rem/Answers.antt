-- `extensions::rem` meets its contract: the remainder of the magnitudes, with the dividend's sign; by zero the dividend. Assumes nothing.
use Rattle.std.proofs.Common.{◌≡◌, ◌%◌, ◌^◌, pos, sym, ap, ◌∙◌, mod-lt, pow_pos, w64, to_z}
use Rattle.answers.specs.Bits.{low, extended}
use Rattle.answers.proofs.Signs.{low_signed}
use Rattle.extensions.specs.Operands.{sgn}
use Rattle.extensions.specs.Divide.{remainder}
use Rattle.extensions.proofs.Registers.{passed}
use Rattle.extensions.proofs.Division.{remainder_of}
use Rattle.extensions.proofs.Words.{extended_again}
use Rattle.extensions.proofs.rem.Goals as goal

pub returns-then-d-eq0 : goal.returns-then-d-eq0
returns-then-d-eq0 g c =
    let k = g.T.Operand.bits
    in let z : c.signed-d.result ≡ pos 0 = sym (passed c.signed-d.result c.signed-d.type_inv) ∙ ap (to_z w64) c.if-d-eq0.true
    in rw (sym c.signed-d.ensures, z, low_signed k (c.args.lhs % 2 ^ k) (mod-lt c.args.lhs (pow_pos k))) c.extend.ensures

pub returns : goal.returns
returns g c =
    let k = g.T.Operand.bits
    in let n = passed c.signed-n.result c.signed-n.type_inv
    in let d = passed c.signed-d.result c.signed-d.type_inv
    in let r = remainder_of c.signed-n.result c.signed-d.result c.if-d-eq0.false
    in let e : c.extend-2.result ≡ extended k (pos (low 64 (remainder (sgn k c.args.lhs) (sgn k c.args.rhs)))) = rw (c.with_sign.ensures, c.is_negative.ensures, c.unsigned_abs.ensures.value, c.unsigned_abs-2.ensures.value, n, d, r, c.signed-n.ensures, c.signed-d.ensures) at c.extend-2.ensures
    in e ∙ extended_again k g.met.T.Operand.some g.met.T.Operand.within (remainder (sgn k c.args.lhs) (sgn k c.args.rhs))
