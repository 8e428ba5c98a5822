-- `extensions::mul` meets its contract: the low bits of a product are those of the product of the low bits. Assumes nothing.
use Rattle.std.proofs.Common.{◌*◌, ◌^◌, pos, ◌∙◌}
use Rattle.std.proofs.lemmas.Nat.{mul-mod}
use Rattle.extensions.proofs.Words.{extended_again}
use Rattle.extensions.proofs.mul.Goals as goal

pub returns : goal.returns
returns g c =
    let k = g.T.Operand.bits
    in c.extend.ensures ∙ extended_again k g.met.T.Operand.some g.met.T.Operand.within (pos (c.args.lhs * c.args.rhs)) ∙ rw (mul-mod c.args.lhs c.args.rhs (2 ^ k))
