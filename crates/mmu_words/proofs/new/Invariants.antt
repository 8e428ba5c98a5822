-- `mmu_words::new` meets its contract. The invariant: the first i slots are empty, all else is zero. Assumes nothing.
use mathlib.Core.Path.{◌≡◌}
use Prim.Native.Nat.{◌-◌, ◌≤◌}
use Rattle.mmu.specs.Cache.{slot_count}
use Rattle.mmu_words.proofs.Emptied.{begun}
use Rattle.mmu_words.proofs.new.Given as goal

abbrev pub invariant-loop-i : goal.invariant-loop-i
invariant-loop-i l = (l.mmu ≡ begun l.i (slot_count - l.i)) × (l.i ≤ slot_count)
