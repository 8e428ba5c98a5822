-- `csr_list::supervisor` meets its contract: what no arm of the table names is in no range of the list. Assumes nothing.
use native.Mathlib.Omega.{arith}
use Rattle.csr_list.proofs.Places.{nowhere}
use Rattle.csr_list.proofs.supervisor.Goals as goal

pub returns-in_default-address-2 : goal.returns-in_default-address-2
returns-in_default-address-2 c = nowhere (grind arith) c.at-in_default-address-2.ensures

pub returns-in_default-address-5 : goal.returns-in_default-address-5
returns-in_default-address-5 c = nowhere (grind arith) c.at-in_default-address-5.ensures

pub returns-in_default-address-7 : goal.returns-in_default-address-7
returns-in_default-address-7 c = nowhere (grind arith) c.at-in_default-address-7.ensures
