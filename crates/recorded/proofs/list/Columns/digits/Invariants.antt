-- `recorded::list::Columns::digits`: each turn goes one byte on.
use Rattle.std.proofs.Common.{length}
use Rattle.recorded.proofs.list.Columns.digits.Given as goal

abbrev pub decreases-loop-byte : goal.decreases-loop-byte
decreases-loop-byte l = length l.self.0.now
