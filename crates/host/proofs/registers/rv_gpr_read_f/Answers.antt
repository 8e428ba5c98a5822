-- `host::registers::rv_gpr_read_f` meets its contract: the 32 words that are looked at are the floats. Assumes nothing.
use mathlib.Core.Path.{ap, ◌∙◌, subst}
use mathlib.Core.List.{List}
use Prim.Native.Nat.{ℕ}
use Rattle.answers.specs.Answer.{Answer}
use Rattle.answers.specs.Gave.{Gave}
use Rattle.gpr.specs.Registers.{read_f}
use Rattle.host.proofs.Parts.{last_part}
use Rattle.host.proofs.registers.rv_gpr_read_f.Goals as goal

pub returns : goal.returns
returns c =
    let e = c.word_of.ensures ∙ ap (λ (fs : List ℕ). read_f fs c.args.reg) (last_part c.args.regs.now c.told-regs)
    in subst (λ (t : Answer ℕ). Gave t c.args.out.now c.give.result c.give.new.out) e c.give.ensures
