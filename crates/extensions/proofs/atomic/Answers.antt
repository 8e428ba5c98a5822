-- `extensions::atomic` meets its contract: every operation commutes with sign extension. Assumes nothing.
use Rattle.std.proofs.Common.{ap, ◌∙◌}
use Rattle.answers.proofs.Strong.{both}
use Rattle.extensions.proofs.Widening.{commutes}
use Rattle.extensions.proofs.atomic.Goals as goal

pub returns : goal.returns
returns g c =
    let w = commutes g.T.Operand.bits g.met.T.Operand.some g.met.T.Operand.within c.args.op (g.T.Operand.value c.args.memory_value) c.args.src
    in both (rw c.unsigned.ensures at c.extend-old.ensures) (c.low.ensures ∙ ap g.T.Operand.of (rw (c.apply-new.ensures, c.extend-old.ensures, c.extend.ensures, c.unsigned.ensures) w))
