-- The contract of each public function takes anything and allows one outcome. Assumes nothing.
use mathlib.Core.Path.{refl, sym, ◌∙◌}
use Rattle.answers.specs.Strong.{Strong}
use Rattle.csr_list.proofs as fn

place_of : Strong _ fn.place_of.Kinds.ps fn.place_of.Kinds.r fn.place_of.Reads.Pre fn.place_of.Reads.Post
place_of = record { total = λ κs a. tt; determined = λ κs a x y e f p q. (p.0 ∙ sym q.0, refl) }
