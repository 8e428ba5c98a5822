-- `mmu::Call::peek` meets its contract: what the walk comes to, without what it would keep. Assumes nothing.
use mathlib.Core.Path.{◌≡◌, sym, ap, ◌∙◌}
use mathlib.Core.Bool.{true, false≢true}
use Rattle.mmu.specs.Answers.{translation}
use Rattle.mmu.specs.Cache.{asked, unpaged, accepts, answer_of, readable}
use Rattle.mmu.proofs.Walks.{walked_look}
use Rattle.mmu.proofs.Call.peek.Goals as goal
use Rattle.mmu.proofs.Call.peek.Goals.{else-is_unpaged-via-then-is_unpaged+else-usable, else-is_unpaged-via-else-is_unpaged}

pub returns-then-usable : goal.returns-then-usable
unfolding readable accepts
returns-then-usable c = rw (sym c.usable.ensures ∙ c.if-usable.true, sym c.is_unpaged.ensures ∙ c.if-is_unpaged.true)

pub returns : goal.returns
unfolding accepts
returns c =
    let call = asked c.args.self
    in let either : accepts call ≡ true → unpaged call.access call.satp ≡ true → ⊥ =
    elim c.else-is_unpaged.branch [
      | else-is_unpaged-via-then-is_unpaged+else-usable w ↦ λ u v. false≢true (sym w.if-usable.false ∙ w.usable.ensures ∙ u)
      | else-is_unpaged-via-else-is_unpaged w ↦ λ u v. false≢true (sym w.if-is_unpaged.false ∙ c.is_unpaged.ensures ∙ v)
    ]
    in ap translation (c.answer.ensures ∙ ap answer_of c.walk.ensures ∙ walked_look call either)
