-- The contract of each public function takes anything and allows one outcome. Assumes nothing.
use Rattle.std.proofs.Common.{sym, refl, ◌∙◌}
use Rattle.answers.specs.Strong.{Strong}
use Rattle.answers.proofs.Strong.{equation}
use Rattle.walk.proofs.Determined.{walkings}
use Rattle.walk.proofs as fn

walk : Strong _ fn.walk.Kinds.ps fn.walk.Kinds.r fn.walk.Reads.Pre fn.walk.Reads.Post
walk = record { total = λ κs a. tt; determined = λ κs a x y e f p q. (walkings a.0.kind x y (p ∙ sym q), refl) }

is_walkable : Strong _ fn.is_walkable.Kinds.ps fn.is_walkable.Kinds.r fn.is_walkable.Reads.Pre fn.is_walkable.Reads.Post
is_walkable = equation (λ κs a e f. refl)

VirtPagePartialEq-eq : Strong _ fn.VirtPagePartialEq.eq.Kinds.ps fn.VirtPagePartialEq.eq.Kinds.r fn.VirtPagePartialEq.eq.Reads.Pre fn.VirtPagePartialEq.eq.Reads.Post
VirtPagePartialEq-eq = equation (λ κs a e f. refl)
