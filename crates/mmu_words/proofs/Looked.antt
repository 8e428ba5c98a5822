-- An outcome on the words, from the parts that the code reads of them: a slot y, the epoch e and a shortcut q; and from the call d that it forms.
-- Assumes nothing.
use mathlib.Core.Path.{◌≡◌, ◌∙◌}
use mathlib.Core.List.{List}
use Prim.Native.Nat.{ℕ}
use Rattle.mmu.specs.Answers.{outcome}
use Rattle.mmu.specs.Cache.{Call, decide}
use Rattle.mmu.specs.declared.TlbEntry.{TlbEntry}
use Rattle.mmu.specs.declared.Shortcut.{Shortcut}
use Rattle.mmu.specs.declared.Outcome.{Outcome}
use Rattle.mmu.proofs.Determined.{outcomes}
use Rattle.mmu_words.specs.Words.{epoch_at, epoch_in, slot_in, shortcut_in, slot_place, shortcut_place, outcome_in}

pub outcome_read : (ws : List ℕ) (c : Call) {d : Call} {q : Shortcut} {e : ℕ} {y : TlbEntry} {o : Outcome} → d ≡ c
    → q ≡ shortcut_in ws (shortcut_place c.access.kind) → y ≡ slot_in ws (slot_place c.address) → e ≡ epoch_in ws epoch_at
    → outcome o ≡ outcome (decide y e q d) → o ≡ outcome_in ws c
unfolding outcome_in
outcome_read ws c {d} {q} {e} {y} {o} hd hq hy he h =
    outcomes o (decide y e q d) h ∙ (λ k. decide (hy k) (he k) (hq k) (hd k))
