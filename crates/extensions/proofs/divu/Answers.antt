-- `extensions::divu` meets its contract: by zero all bits are set. Assumes nothing.
use Rattle.std.proofs.Common.{◌∙◌, negsuc, ne_eqb, sym}
use Rattle.extensions.proofs.Words.{extended_again}
use Rattle.extensions.proofs.divu.Goals as goal
use Rattle.extensions.proofs.divu.Goals.{then-d-eq0, else-d-eq0}

pub returns : goal.returns
returns g c =
    elim c.if-d-eq0.branch [
      | then-d-eq0 w ↦ c.extend.ensures ∙ rw (sym c.unsigned-d.ensures, w.if-d-eq0.true, w.quotient-is) (extended_again g.T.Operand.bits g.met.T.Operand.some g.met.T.Operand.within (negsuc 0))
      | else-d-eq0 w ↦ c.extend.ensures ∙ rw (sym c.unsigned-d.ensures, sym c.unsigned-n.ensures, w.quotient-is, ne_eqb c.unsigned-d.result 0 w.if-d-eq0.false)
    ]
