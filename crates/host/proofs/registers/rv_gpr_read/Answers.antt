-- `host::registers::rv_gpr_read` meets its contract: the 32 words that are looked at come first. Assumes nothing.
use mathlib.Core.Path.{◌≡◌, ◌∙◌}
use Rattle.std.proofs.Common.{rules}
use Rattle.answers.specs.Answers.{reading}
use Rattle.gpr.specs.Registers.{read_f}
use Rattle.host.proofs.Parts.{first_part}
use Rattle.host.proofs.registers.rv_gpr_read.Goals as goal

pub returns : goal.returns
returns c =
    let e : reading c.word_of.result ≡ read_f c.args.regs.now c.args.reg = c.word_of.ensures ∙ first_part c.args.regs.now c.args.reg
    in search rules
