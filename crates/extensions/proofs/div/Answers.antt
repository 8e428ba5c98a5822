-- `extensions::div` meets its contract: the quotient of the magnitudes, with its sign. Assumes nothing.
use Rattle.std.proofs.Common.{◌≡◌, pos, ◌∙◌}
use Rattle.answers.specs.Bits.{low, extended}
use Rattle.extensions.specs.Operands.{sgn}
use Rattle.extensions.specs.Divide.{quotient}
use Rattle.extensions.proofs.Registers.{passed}
use Rattle.extensions.proofs.Division.{quotient_of}
use Rattle.extensions.proofs.Words.{extended_again}
use Rattle.extensions.proofs.div.Goals as goal

pub returns : goal.returns
returns g c =
    let k = g.T.Operand.bits
    in let n = passed c.signed-n.result c.signed-n.type_inv
    in let d = passed c.signed-d.result c.signed-d.type_inv
    in let q = quotient_of c.signed-n.result c.signed-d.result c.if-d-eq0.false
    in let e : c.extend.result ≡ extended k (pos (low 64 (quotient (sgn k c.args.lhs) (sgn k c.args.rhs)))) = rw (c.with_sign.ensures, c.is_negative.ensures, c.is_negative-2.ensures, c.unsigned_abs.ensures.value, c.unsigned_abs-2.ensures.value, n, d, q, c.signed-n.ensures, c.signed-d.ensures) at c.extend.ensures
    in e ∙ extended_again k g.met.T.Operand.some g.met.T.Operand.within (quotient (sgn k c.args.lhs) (sgn k c.args.rhs))
