-- `system_bus::copy_in` meets its contract. The invariant: the first i bytes have been copied over the part, and the rest is as it was.
-- Assumes nothing.
use mathlib.Core.Path.{◌≡◌}
use lib.ListN.{take, drop}
use Rattle.system_bus.proofs.copy_in.Given as goal

abbrev pub invariant-loop-i : goal.invariant-loop-i
invariant-loop-i l = record { copied : take l.i l.part ≡ take l.i l.bytes; kept : drop l.i l.part ≡ drop l.i l.initial.part }
