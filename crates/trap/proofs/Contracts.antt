-- The contract of each public function takes anything and allows one outcome. Assumes nothing.
use mathlib.Core.Path.{refl}
use Rattle.answers.specs.Strong.{Strong}
use Rattle.answers.proofs.Strong.{equation}
use Rattle.trap.proofs as fn

TrapCause-mcause_code : Strong _ fn.TrapCause.mcause_code.Kinds.ps fn.TrapCause.mcause_code.Kinds.r fn.TrapCause.mcause_code.Reads.Pre fn.TrapCause.mcause_code.Reads.Post
TrapCause-mcause_code = equation (λ κs a e f. refl)
