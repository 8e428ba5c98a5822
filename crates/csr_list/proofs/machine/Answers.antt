-- `csr_list::machine` meets its contract: what no arm of the table names is in no range of the list. Assumes nothing.
use native.Mathlib.Omega.{arith}
use Rattle.csr_list.proofs.Places.{nowhere}
use Rattle.csr_list.proofs.machine.Goals as goal

pub returns-in_default-address-3 : goal.returns-in_default-address-3
returns-in_default-address-3 c = nowhere (grind arith) c.at-in_default-address-3.ensures
