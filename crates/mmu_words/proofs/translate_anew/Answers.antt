-- `mmu_words::translate_anew` meets its contract: the outcome, put into the words. Assumes nothing.
use mathlib.Core.Path.{subst}
use Rattle.access.specs.Asked.{access_of}
use Rattle.mmu.specs.declared.Outcome.{Outcome}
use Rattle.mmu_words.specs.Words.{call_asked, PutsOutcome}
use Rattle.mmu_words.proofs.Looked.{outcome_read}
use Rattle.mmu_words.proofs.translate_anew.Goals as goal

pub returns : goal.returns
unfolding access_of
returns c =
    let o = outcome_read c.args.mmu.now (call_asked c.args.asked) c.call.ensures c.shortcut_of.ensures c.slot_of.ensures c.epoch_in.ensures c.decide-outcome.ensures
    in subst (λ (x : Outcome). PutsOutcome x c.args.asked.kind c.args.asked.address c.args.asked.satp c.args.mmu.now c.args.out.now c.put_outcome.result c.put_outcome.new.mmu c.put_outcome.new.out) o c.put_outcome.ensures
