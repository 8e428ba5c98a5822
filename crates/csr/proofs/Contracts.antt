-- The contract of each public function takes anything and allows one outcome. Assumes nothing.
use mathlib.Core.Path.{refl, sym, ◌∙◌}
use Rattle.answers.specs.Strong.{Strong}
use Rattle.answers.proofs.Determined.{readings}
use Rattle.csr.proofs.Determined.{choices, files, writings}
use Rattle.answers.proofs.Strong.{equation}
use Rattle.csr.proofs as fn

PrivModePartialEq-eq : Strong _ fn.PrivModePartialEq.eq.Kinds.ps fn.PrivModePartialEq.eq.Kinds.r fn.PrivModePartialEq.eq.Reads.Pre fn.PrivModePartialEq.eq.Reads.Post
PrivModePartialEq-eq = equation (λ κs a e f. refl)

PrivMode-from_bits : Strong _ fn.PrivMode.from_bits.Kinds.ps fn.PrivMode.from_bits.Kinds.r fn.PrivMode.from_bits.Reads.Pre fn.PrivMode.from_bits.Reads.Post
PrivMode-from_bits = equation (λ κs a e f. refl)

Csr-new : Strong _ fn.Csr.new.Kinds.ps fn.Csr.new.Kinds.r fn.Csr.new.Reads.Pre fn.Csr.new.Reads.Post
Csr-new = record { total = λ κs a. tt; determined = λ κs a x y e f p q. (files x y (p ∙ sym q), refl) }

Csr-read_register : Strong _ fn.Csr.read_register.Kinds.ps fn.Csr.read_register.Kinds.r fn.Csr.read_register.Reads.Pre fn.Csr.read_register.Reads.Post
Csr-read_register = record { total = λ κs a. tt; determined = λ κs a x y e f p q. (readings x y (p ∙ sym q), refl) }

Csr-write_register : Strong _ fn.Csr.write_register.Kinds.ps fn.Csr.write_register.Kinds.r fn.Csr.write_register.Reads.Pre fn.Csr.write_register.Reads.Post
Csr-write_register = record { total = λ κs a. tt; determined = λ κs a x y e f p q. (writings x y (p.0 ∙ sym q.0) (p.1 ∙ sym q.1), refl) }

Csr-pending_interrupt : Strong _ fn.Csr.pending_interrupt.Kinds.ps fn.Csr.pending_interrupt.Kinds.r fn.Csr.pending_interrupt.Reads.Pre fn.Csr.pending_interrupt.Reads.Post
Csr-pending_interrupt = record { total = λ κs a. tt; determined = λ κs a x y e f p q. (choices x y (p ∙ sym q), refl) }

Hart-of : Strong _ fn.Hart.of.Kinds.ps fn.Hart.of.Kinds.r fn.Hart.of.Reads.Pre fn.Hart.of.Reads.Post
Hart-of = equation (λ κs a e f. refl)

Hart-read_word : Strong _ fn.Hart.read_word.Kinds.ps fn.Hart.read_word.Kinds.r fn.Hart.read_word.Reads.Pre fn.Hart.read_word.Reads.Post
Hart-read_word = record { total = λ κs a. tt; determined = λ κs a x y e f p q. (readings x y (p ∙ sym q), refl) }

Hart-write_word : Strong _ fn.Hart.write_word.Kinds.ps fn.Hart.write_word.Kinds.r fn.Hart.write_word.Reads.Pre fn.Hart.write_word.Reads.Post
Hart-write_word = record { total = λ κs a. tt; determined = λ κs a x y e f p q. (readings x y (p ∙ sym q), refl) }

Hart-choose_interrupt : Strong _ fn.Hart.choose_interrupt.Kinds.ps fn.Hart.choose_interrupt.Kinds.r fn.Hart.choose_interrupt.Reads.Pre fn.Hart.choose_interrupt.Reads.Post
Hart-choose_interrupt = record { total = λ κs a. tt; determined = λ κs a x y e f p q. (choices x y (p ∙ sym q), refl) }
