-- The contract of each public function takes anything and allows one outcome. Assumes nothing.
use mathlib.Core.Path.{refl, sym, ◌∙◌}
use Rattle.answers.specs.Strong.{Strong}
use Rattle.answers.proofs.Strong.{both}
use Rattle.mmu_words.proofs as fn

new : Strong _ fn.new.Kinds.ps fn.new.Kinds.r fn.new.Reads.Pre fn.new.Reads.Post
new = record { total = λ κs a. tt; determined = λ κs a x y e f p q. (refl, both (p ∙ sym q) refl) }

flush : Strong _ fn.flush.Kinds.ps fn.flush.Kinds.r fn.flush.Reads.Pre fn.flush.Reads.Post
flush = record { total = λ κs a. tt; determined = λ κs a x y e f p q. (refl, both (p ∙ sym q) refl) }

translate : Strong _ fn.translate.Kinds.ps fn.translate.Kinds.r fn.translate.Reads.Pre fn.translate.Reads.Post
translate = record { total = λ κs a. tt; determined = λ κs a x y e f p q. (p.answer.number ∙ sym q.answer.number, both (p.words ∙ sym q.words) (both refl (both (p.answer.out ∙ sym q.answer.out) refl))) }

translate_readable : Strong _ fn.translate_readable.Kinds.ps fn.translate_readable.Kinds.r fn.translate_readable.Reads.Pre fn.translate_readable.Reads.Post
translate_readable = record { total = λ κs a. tt; determined = λ κs a x y e f p q. (p.number ∙ sym q.number, both refl (both (p.out ∙ sym q.out) refl)) }
