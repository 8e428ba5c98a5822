-- The contract of each public function takes anything and allows one outcome. Assumes nothing.
use mathlib.Core.Path.{refl}
use Rattle.answers.specs.Strong.{Strong}
use Rattle.answers.proofs.Strong.{equation}
use Rattle.access.proofs as fn

Access-new : Strong _ fn.Access.new.Kinds.ps fn.Access.new.Kinds.r fn.Access.new.Reads.Pre fn.Access.new.Reads.Post
Access-new = equation (λ κs a e f. refl)

Access-is_machine : Strong _ fn.Access.is_machine.Kinds.ps fn.Access.is_machine.Kinds.r fn.Access.is_machine.Reads.Pre fn.Access.is_machine.Reads.Post
Access-is_machine = equation (λ κs a e f. refl)

Access-allows : Strong _ fn.Access.allows.Kinds.ps fn.Access.allows.Kinds.r fn.Access.allows.Reads.Pre fn.Access.allows.Reads.Post
Access-allows = equation (λ κs a e f. refl)

is_plain : Strong _ fn.is_plain.Kinds.ps fn.is_plain.Kinds.r fn.is_plain.Reads.Pre fn.is_plain.Reads.Post
is_plain = equation (λ κs a e f. refl)
