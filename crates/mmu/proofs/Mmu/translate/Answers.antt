-- `mmu::Mmu::translate` meets its contract: what the state tells of the call is put into it. Assumes nothing.
use mathlib.Core.Path.{refl, ap, ◌∙◌}
use Rattle.mmu.specs.Cache.{slot_count, asked, remember, remember_for}
use Rattle.mmu.specs.declared.Mmu.{Mmu}
use Rattle.mmu.proofs.Calls.{called_on, returned}
use Rattle.mmu.proofs.Mmu.translate.Goals as goal

pub returns-in-Stay : goal.returns-in-Stay
returns-in-Stay c =
    let o = called_on slot_count c.args.self (asked c.args.call) c.slot_index.ensures c.shortcut.ensures c.decide.ensures
    in returned slot_count c.args.self (asked c.args.call) c.in-Stay.is o refl

pub returns-in-Point : goal.returns-in-Point
unfolding remember
returns-in-Point c =
    let o = called_on slot_count c.args.self (asked c.args.call) c.slot_index.ensures c.shortcut.ensures c.decide.ensures
    in returned slot_count c.args.self (asked c.args.call) c.in-Point.is o c.remember.ensures

pub returns-in-Fill : goal.returns-in-Fill
unfolding remember
returns-in-Fill c =
    let o = called_on slot_count c.args.self (asked c.args.call) c.slot_index.ensures c.shortcut.ensures c.decide.ensures
    in let x = c.args.call
    in let m = c.in-Fill.mapping
    in returned slot_count c.args.self (asked x) c.in-Fill.is o (c.remember-in-Fill.ensures ∙ ap (λ (s : Mmu). remember_for x.access.kind s x.address x.satp m.frame m.leaf) c.fill.ensures)
