-- Demand 3, of the contracts: whatever meets the contract of the translation by value keeps the demand, for fetches, loads and stores. Assumes nothing.
use mathlib.Core.Path.{◌≡◌, sym, ap, ◌∙◌}
use mathlib.Core.Bool.{true, false}
use mathlib.Core.List.{List}
use Prim.Native.Nat.{ℕ, ◌^◌, ◌<◌}
use native.Mathlib.Omega.{arith}
use contract.Lifetimes.{Lfts}
use denote.Triple.Clauses.{AtExit}
use borrow.Fn.Kinds.{Out, Dens, ended_of}
use Rattle.answers.specs.Answer.{done}
use Rattle.access.specs.Allowed.{Closed}
use Rattle.walk.specs.Walk.{askable}
use Rattle.mmu.specs.Answers.{Translation, At, translation, without_reads}
use Rattle.mmu.specs.Cache.{slot_count, new_mmu, Call, asked, frame_of, in_frame, accepts, translate}
use Rattle.mmu.specs.History.{Event, run, paged, Undisturbed, fresh_answer, faulted, LeafOf}
use Rattle.mmu.specs.declared.Mmu.{Mmu}
use Rattle.mmu.specs.declared.Translated.{Translated}
use Rattle.mmu.proofs.Determined.{translations, calls}
use Rattle.mmu.proofs.Demand.{demand3}
use Rattle.mmu.proofs.Guarded.{kept_out}
use Rattle.mmu.proofs.Barred.{turned_away, barred}
use Rattle.mmu.proofs.Again.{Again, again_free}
use Rattle.mmu.proofs as fn

-- its signature: a state, and a call
abbrev Contract : Type 1
Contract = Out 1 fn.Mmu.translate.Kinds.ps fn.Mmu.translate.Kinds.r

abbrev Args : Lfts 1 → Type 0
Args κs = Dens κs fn.Mmu.translate.Kinds.ps

abbrev Exits : Lfts 1 → Type 0
Exits κs = AtExit (ended_of 1 fn.Mmu.translate.Kinds.ps fn.Mmu.translate.Kinds.r) κs

-- the call, whatever its kind, and a state that a history led to
abbrev call : (κs : Lfts 1) → Args κs → Call
call κs a = asked a.1.0

abbrev after : List Event → Mmu
after h = run slot_count (new_mmu slot_count) h

-- THE DEMAND: from a state that a history led to, under the conditions, the answer is the fresh walk's
abbrev pub Fresh : Contract → Type 0
Fresh Post = (κs : Lfts 1) (a : Args κs) (x : Translated) (e : Exits κs) → Post κs a x e
    → (h : List Event) → a.0 ≡ after h → (call κs a).address < 2 ^ 64 → paged (call κs a) ≡ true → Undisturbed h (call κs a)
    → without_reads x.answer ≡ fresh_answer (call κs a)

-- THE PRIVILEGE: and where the page is closed to the call, it is a page fault
abbrev pub Guarded : Contract → Type 0
Guarded Post = (κs : Lfts 1) (a : Args κs) (x : Translated) (e : Exits κs) → Post κs a x e
    → (h : List Event) → a.0 ≡ after h → (call κs a).address < 2 ^ 64 → paged (call κs a) ≡ true → Undisturbed h (call κs a)
    → (level leaf : ℕ) → LeafOf (call κs a) level leaf → Closed (call κs a).access leaf
    → without_reads x.answer ≡ faulted (call κs a)

-- WHAT MAY NOT BE ASKED FOR: after any history, an address that is not canonical, or a satp that names no tables, is a page fault without a read, and the
-- state stays
abbrev pub Barred : Contract → Type 0
Barred Post = (κs : Lfts 1) (a : Args κs) (x : Translated) (e : Exits κs) → Post κs a x e
    → (h : List Event) → a.0 ≡ after h → (call κs a).address < 2 ^ 64 → paged (call κs a) ≡ true → askable (call κs a).address (call κs a).satp ≡ false
    → x ≡ record { answer = turned_away (call κs a); mmu = a.0 }

-- THE LAST SENTENCE: made again at once after a success, it succeeds in the same frame and reads no table entry
abbrev pub Free : Contract → Type 0
Free Post = (κs : Lfts 1) (a : Args κs) (x : Translated) (e : Exits κs) → Post κs a x e
    → (κs' : Lfts 1) (b : Args κs') (y : Translated) (f : Exits κs') → Post κs' b y f
    → (h : List Event) → a.0 ≡ after h → b.0 ≡ x.mmu
    → (t : ℕ) → without_reads x.answer ≡ done t → Again (call κs a) (call κs' b) → accepts (call κs' b) ≡ true → (call κs' b).address < 2 ^ 64
    → y.answer ≡ At (in_frame (frame_of t) (call κs' b).address) 0

-- ---- each, of the definition

answered : (s s' : Mmu) (c : Call) (x : Translation) → s ≡ s' → translation x ≡ translation (translate slot_count s c).answer → x ≡ (translate slot_count s' c).answer
answered s s' c x e p = translations x (translate slot_count s c).answer p ∙ ap (λ (z : Mmu). (translate slot_count z c).answer) e

fresh : (s : Mmu) (c : Call) (x : Translation) → translation x ≡ translation (translate slot_count s c).answer
    → (h : List Event) → s ≡ after h → c.address < 2 ^ 64 → paged c ≡ true → Undisturbed h c → without_reads x ≡ fresh_answer c
fresh s c x p h e small g u = ap without_reads (answered s (after h) c x e p) ∙ demand3 slot_count h c small g u

guarded : (s : Mmu) (c : Call) (x : Translation) → translation x ≡ translation (translate slot_count s c).answer
    → (h : List Event) → s ≡ after h → c.address < 2 ^ 64 → paged c ≡ true → Undisturbed h c
    → (level leaf : ℕ) → LeafOf c level leaf → Closed c.access leaf → without_reads x ≡ faulted c
guarded s c x p h e small g u level leaf at shuts = ap without_reads (answered s (after h) c x e p) ∙ kept_out slot_count h c level leaf small g u at shuts

turned : (s : Mmu) (c : Call) (x : Translated) → translation x.answer ≡ translation (translate slot_count s c).answer → x.mmu ≡ (translate slot_count s c).mmu
    → (h : List Event) → s ≡ after h → c.address < 2 ^ 64 → paged c ≡ true → askable c.address c.satp ≡ false → x ≡ record { answer = turned_away c; mmu = s }
turned s c x p q h e small g b =
    calls x (translate slot_count s c) p q
    ∙ ap (λ (z : Mmu). translate slot_count z c) e
    ∙ barred slot_count h c small g b
    ∙ ap (λ (z : Mmu). record { answer = turned_away c; mmu = z }) (sym e)

free : (s s' : Mmu) (c d : Call) (x y : Translation) → translation x ≡ translation (translate slot_count s c).answer → translation y ≡ translation (translate slot_count s' d).answer
    → (h : List Event) → s ≡ after h → s' ≡ (translate slot_count s c).mmu → (t : ℕ) → without_reads x ≡ done t → Again c d → accepts d ≡ true → d.address < 2 ^ 64
    → y ≡ At (in_frame (frame_of t) d.address) 0
free s s' c d x y p q h e n t ok g u small =
    answered s' (translate slot_count (after h) c).mmu d y (n ∙ ap (λ (z : Mmu). (translate slot_count z c).mmu) e) q
    ∙ again_free slot_count h c d t (omega arith) (ap without_reads (sym (answered s (after h) c x e p)) ∙ ok) g u small

-- ---- and of the contract

pub translate_fresh : Fresh fn.Mmu.translate.Reads.Post
translate_fresh κs a x e p = fresh a.0 (call κs a) x.answer p.0

pub translate_guarded : Guarded fn.Mmu.translate.Reads.Post
translate_guarded κs a x e p = guarded a.0 (call κs a) x.answer p.0

pub translate_barred : Barred fn.Mmu.translate.Reads.Post
translate_barred κs a x e p = turned a.0 (call κs a) x p.0 p.1

pub translate_free : Free fn.Mmu.translate.Reads.Post
translate_free κs a x e p κs' b y f q h s n = free a.0 b.0 (call κs a) (call κs' b) x.answer y.answer p.0 q.0 h s (n ∙ p.1)
