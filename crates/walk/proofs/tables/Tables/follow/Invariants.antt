-- `walk::Tables::follow` meets its contract. The loop's invariant: what is left of the trail leads where the whole one leads. Assumes nothing.
use Rattle.walk.specs.Walk.{levels}
use Rattle.walk.proofs.Steps.{Onward}
use Rattle.walk.proofs.tables.Tables.follow.Given as goal

abbrev pub invariant-loop-number : goal.invariant-loop-number
invariant-loop-number l = Onward levels l.self.memory.now l.initial.table.number l.address l.number l.table.number
