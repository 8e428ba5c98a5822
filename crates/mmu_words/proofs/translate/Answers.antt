-- `mmu_words::translate` meets its contract: a glance, and where that tells nothing, a call anew. Assumes nothing.
use Rattle.access.specs.Asked.{access_of}
use Rattle.mmu_words.specs.Words.{call_asked}
use Rattle.mmu_words.proofs.Decided.{straight_put, held_put, unusable_put}
use Rattle.mmu_words.proofs.translate.Goals as goal

pub returns-in-Straight : goal.returns-in-Straight
returns-in-Straight c = straight_put (call_asked c.args.asked) c.args.mmu.now c.args.out.now c.glance.result c.glance.ensures c.in-Straight.is c.arrive.ensures

pub returns-in-Held : goal.returns-in-Held
unfolding access_of
returns-in-Held c = held_put (call_asked c.args.asked) c.args.mmu.now c.args.out.now c.glance.result c.glance.ensures c.in-Held.is c.arrive-in-Held.ensures c.point.ensures

pub returns-in-Unusable : goal.returns-in-Unusable
returns-in-Unusable c = unusable_put (call_asked c.args.asked) c.args.mmu.now c.args.out.now c.glance.result c.glance.ensures c.in-Unusable.is c.number.ensures
