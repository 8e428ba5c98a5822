-- `decode::extend` meets its contract: the law of the two shifts, at the bits of `val`. Assumes nothing.
use mathlib.Core.Path.{ap, ◌∙◌}
use mir.Syntax.{w64}
use mir.Val.{of_z}
use Rattle.answers.specs.Bits.{signed}
use Rattle.answers.proofs.Shifts.{by_shifts, of_machine}
use Rattle.decode.proofs.extend.Goals as goal

pub returns : goal.returns
returns c =
    by_shifts (of_z w64 c.args.val) c.args.bits c.requires.0 c.requires.1
    ∙ ap (signed c.args.bits) (of_machine c.args.val c.args.bits c.ranges.val.sfits c.requires.1)
