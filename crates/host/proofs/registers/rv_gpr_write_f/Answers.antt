-- `host::registers::rv_gpr_write_f` meets its contract: the 32 words that are written are the floats. Assumes nothing.
use Rattle.host.proofs.Parts.{last_written}
use Rattle.host.proofs.registers.rv_gpr_write_f.Goals as goal

pub returns : goal.returns
returns c = (
  c.put.ensures.answer,
  last_written c.args.regs.now c.args.reg c.args.value c.told-regs c.put.ensures.regs,
)
