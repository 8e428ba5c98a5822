-- A call on a state: the slot, the shortcut and the epoch give its outcome, which is put into the state. Assumes nothing.
use mathlib.Core.Path.{◌≡◌, sym, ap, ap₂, ◌∙◌}
use Prim.Native.Nat.{ℕ, ◌%◌}
use lib.ListN.{get_or}
use Rattle.mmu.specs.Answers.{translation, outcome}
use Rattle.mmu.specs.Cache.{Call, page_of, decide, answer_of, zero_slot, slot_at, shortcut_kind, shortcut_of, applied, outcome_on, translate}
use Rattle.mmu.specs.declared.Shortcut.{Shortcut}
use Rattle.mmu.specs.declared.Mmu.{Mmu}
use Rattle.mmu.specs.declared.Outcome.{Outcome}
use Rattle.mmu.proofs.Determined.{outcomes}

-- the outcome o that the code found, by a slot at i and a shortcut q
pub called_on : (n : ℕ) (s : Mmu) (c : Call) {i : ℕ} {q : Shortcut} {o : Outcome} → i ≡ (page_of c.address).0 % n → q ≡ shortcut_kind c.access.kind s
    → outcome o ≡ outcome (decide (get_or s.tlb i zero_slot) s.epoch q c) → o ≡ outcome_on n s c
unfolding outcome_on slot_at shortcut_of
called_on n s c {i} {q} {o} e f h =
    outcomes o (decide (get_or s.tlb i zero_slot) s.epoch q c) h
    ∙ ap₂ (λ (j : ℕ) (p : Shortcut). decide (get_or s.tlb j zero_slot) s.epoch p c) e f

-- and what is returned, once a match found it to be x
pub returned : (n : ℕ) (s : Mmu) (c : Call) {o x : Outcome} {m : Mmu} → o ≡ x → o ≡ outcome_on n s c → m ≡ applied n s c x
    → (translation (answer_of x) ≡ translation (translate n s c).answer) × (m ≡ (translate n s c).mmu)
unfolding translate
returned n s c e h g =
    (ap (λ (y : Outcome). translation (answer_of y)) (sym e ∙ h), g ∙ ap (λ (y : Outcome). applied n s c y) (sym e ∙ h))
