-- `host::registers::rv_gpr_read_f32` meets its contract: the 32 words that are looked at are the floats. Assumes nothing.
use mathlib.Core.Path.{◌≡◌, ap, ◌∙◌}
use mathlib.Core.List.{List}
use Prim.Native.Nat.{ℕ}
use Rattle.std.proofs.Common.{rules}
use Rattle.answers.specs.Answers.{reading}
use Rattle.gpr.specs.Registers.{read_f}
use Rattle.host.specs.Registers.{floats}
use Rattle.host.proofs.Parts.{last_part}
use Rattle.host.proofs.registers.rv_gpr_read_f32.Goals as goal

pub returns : goal.returns
returns c =
    let e : reading c.word_of.result ≡ read_f (floats c.args.regs.now) c.args.reg = c.word_of.ensures ∙ ap (λ (fs : List ℕ). read_f fs c.args.reg) (last_part c.args.regs.now c.told-regs)
    in search rules
