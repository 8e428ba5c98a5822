-- `mmu::Call::walk` meets its contract where the walk leads nowhere. Assumes nothing.
use mathlib.Core.Path.{ap, ◌∙◌}
use Rattle.std.specs.Prelude.{Err}
use Rattle.mmu.specs.Cache.{asked}
use Rattle.mmu.specs.declared.Failure.{Failure}
use Rattle.mmu.specs.declared.Outcome.TheVariants.{Stay}
use Rattle.mmu.proofs.Walks.{walk_failed}
use Rattle.mmu.proofs.Call.walk.Goals as goal

pub returns-in-Err : goal.returns-in-Err
returns-in-Err c = ap (λ (f : Failure). Stay (Err f)) c.failure.ensures ∙ walk_failed (asked c.args.self) c.walk.ensures c.in-Err.is
