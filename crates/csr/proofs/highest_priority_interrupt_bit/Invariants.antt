-- The loop of `csr::highest_priority_interrupt_bit`: what is chosen is so among the bits that are left. Assumes nothing.
use mathlib.Core.Path.{◌≡◌}
use Prim.Native.Nat.{◌-◌}
use lib.ListN.{drop}
use Rattle.std.specs.Int.Count.{count_leading_zeros}
use Rattle.csr.specs.Interrupts.{chosen, first_set}
use Rattle.csr.proofs.highest_priority_interrupt_bit.Given as goal

abbrev pub invariant-loop-bit : goal.invariant-loop-bit
invariant-loop-bit l = chosen l.fn.value ≡ first_set (drop l.bit-index l.bit-items) l.fn.value (63 - count_leading_zeros 64 l.fn.value)
