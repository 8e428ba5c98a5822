-- The contract of each public function takes anything and allows one outcome. Assumes nothing.
use mathlib.Core.Path.{refl}
use Rattle.answers.specs.Strong.{Strong}
use Rattle.answers.proofs.Strong.{equation}
use Rattle.answers.proofs as fn

Refusal-number : Strong _ fn.Refusal.number.Kinds.ps fn.Refusal.number.Kinds.r fn.Refusal.number.Reads.Pre fn.Refusal.number.Reads.Post
Refusal-number = equation (λ κs a e f. refl)
