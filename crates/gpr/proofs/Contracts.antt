-- The contract of each public function takes anything and allows one outcome. Assumes nothing.
use mathlib.Core.Path.{refl, sym, ◌∙◌}
use Rattle.answers.specs.Strong.{Strong}
use Rattle.answers.proofs.Determined.{readings}
use Rattle.gpr.proofs.Determined.{writings}
use Rattle.answers.proofs.Strong.{equation}
use Rattle.gpr.proofs as fn

Gpr-new : Strong _ fn.Gpr.new.Kinds.ps fn.Gpr.new.Kinds.r fn.Gpr.new.Reads.Pre fn.Gpr.new.Reads.Post
Gpr-new = equation (λ κs a e f. refl)

Gpr-read : Strong _ fn.Gpr.read.Kinds.ps fn.Gpr.read.Kinds.r fn.Gpr.read.Reads.Pre fn.Gpr.read.Reads.Post
Gpr-read = record { total = λ κs a. tt; determined = λ κs a x y e f p q. (readings x y (p ∙ sym q), refl) }

Gpr-read_masked : Strong _ fn.Gpr.read_masked.Kinds.ps fn.Gpr.read_masked.Kinds.r fn.Gpr.read_masked.Reads.Pre fn.Gpr.read_masked.Reads.Post
Gpr-read_masked = equation (λ κs a e f. refl)

Gpr-write_masked : Strong _ fn.Gpr.write_masked.Kinds.ps fn.Gpr.write_masked.Kinds.r fn.Gpr.write_masked.Reads.Pre fn.Gpr.write_masked.Reads.Post
Gpr-write_masked = equation (λ κs a e f. refl)

Gpr-read_f : Strong _ fn.Gpr.read_f.Kinds.ps fn.Gpr.read_f.Kinds.r fn.Gpr.read_f.Reads.Pre fn.Gpr.read_f.Reads.Post
Gpr-read_f = record { total = λ κs a. tt; determined = λ κs a x y e f p q. (readings x y (p ∙ sym q), refl) }

Gpr-write : Strong _ fn.Gpr.write.Kinds.ps fn.Gpr.write.Kinds.r fn.Gpr.write.Reads.Pre fn.Gpr.write.Reads.Post
Gpr-write = record { total = λ κs a. tt; determined = λ κs a x y e f p q. (writings x y (p.0 ∙ sym q.0) (p.1 ∙ sym q.1), refl) }

Gpr-write_f : Strong _ fn.Gpr.write_f.Kinds.ps fn.Gpr.write_f.Kinds.r fn.Gpr.write_f.Reads.Pre fn.Gpr.write_f.Reads.Post
Gpr-write_f = record { total = λ κs a. tt; determined = λ κs a x y e f p q. (writings x y (p.0 ∙ sym q.0) (p.1 ∙ sym q.1), refl) }

Gpr-write_f32 : Strong _ fn.Gpr.write_f32.Kinds.ps fn.Gpr.write_f32.Kinds.r fn.Gpr.write_f32.Reads.Pre fn.Gpr.write_f32.Reads.Post
Gpr-write_f32 = record { total = λ κs a. tt; determined = λ κs a x y e f p q. (writings x y (p.0 ∙ sym q.0) (p.1 ∙ sym q.1), refl) }

Gpr-read_f32 : Strong _ fn.Gpr.read_f32.Kinds.ps fn.Gpr.read_f32.Kinds.r fn.Gpr.read_f32.Reads.Pre fn.Gpr.read_f32.Reads.Post
Gpr-read_f32 = record { total = λ κs a. tt; determined = λ κs a x y e f p q. (readings x y (p ∙ sym q), refl) }

show : Strong _ fn.show.Kinds.ps fn.show.Kinds.r fn.show.Reads.Pre fn.show.Reads.Post
show = equation (λ κs a e f. refl)

nan_box : Strong _ fn.nan_box.Kinds.ps fn.nan_box.Kinds.r fn.nan_box.Reads.Pre fn.nan_box.Reads.Post
nan_box = equation (λ κs a e f. refl)

nan_unbox : Strong _ fn.nan_unbox.Kinds.ps fn.nan_unbox.Kinds.r fn.nan_unbox.Reads.Pre fn.nan_unbox.Reads.Post
nan_unbox = equation (λ κs a e f. refl)
