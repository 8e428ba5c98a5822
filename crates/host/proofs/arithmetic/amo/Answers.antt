-- `host::arithmetic::amo` meets its contract: what is stored is the number that the new value stands for. Assumes nothing.
use Rattle.std.proofs.Common.{◌%◌, ◌^◌, ap, ◌∙◌}
use Rattle.answers.proofs.Strong.{both}
use Rattle.extensions.specs.Atomic.{amo_result}
use Rattle.extensions.proofs.Widening.{made_fits}
use Rattle.host.specs.Pairs.{words}
use Rattle.host.proofs.arithmetic.amo.Goals as goal

pub returns : goal.returns
returns g c =
    let k = g.T.Operand.bits
    in let m = g.T.Operand.value c.args.memory_value
    in let fits = made_fits k g.met.T.Operand.some g.met.T.Operand.within c.args.op m c.args.src
    in let new = c.unsigned.ensures ∙ ap (λ x. g.T.Operand.value x.1) c.atomic-old.ensures ∙ g.met.T.Operand.kept (amo_result k c.args.op (m % 2 ^ k) (c.args.src % 2 ^ k)) fits
    in ap words (both (ap (λ x. x.0) c.atomic-old.ensures) new)
