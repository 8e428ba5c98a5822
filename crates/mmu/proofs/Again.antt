-- Demand 3's last sentence: what was just answered is answered again, in the same frame and with no table entry read. Assumes nothing.
use mathlib.Core.Path.{◌≡◌, refl, sym, ap, ◌∙◌}
use mathlib.Core.Bool.{Bool, true, false, ◌&&◌}
use mathlib.Core.List.{List, [], ◌∷◌}
use Prim.Native.Nat.{ℕ, ◌%◌, ◌^◌, ◌<◌}
use native.Mathlib.Nat.{mod-lt}
use native.Mathlib.Omega.{arith}
use borrow.Author.Tests.{eq-eqb}
use lib.ListN.{length, get_or, set, length-set, length-replicate}
use lib.Seq.{get_or-set_same}
use Rattle.answers.specs.Answer.{Answer, done}
use Rattle.answers.proofs.Determined.{same_value}
use Rattle.answers.proofs.Orders.{by_test}
use Rattle.access.specs.Allowed.{allows}
use Rattle.walk.specs.Walk.{Reached, found, lost, walkable, canonical, levels, trail_of}
use Rattle.access.specs.declared.Kind.{Kind}
use Rattle.access.specs.declared.Kind.TheVariants.{Fetch, Load, Store}
use Rattle.access.specs.declared.Access.{Access}
use Rattle.walk.proofs.Barred.{barred_lost}
use Rattle.walk.specs.declared.VirtPage.{VirtPage}
use Rattle.walk.specs.declared.PhysPage.{PhysPage}
use Rattle.mmu.specs.Answers.{At, fault_of, without_reads}
use Rattle.mmu.specs.Cache.{slot_of, shortcut_to, empty_slot, new_mmu, Call, page_of, frame_of, in_frame, unpaged, accepts, fresh_walk, live, held, matches, quick, after_walk, look_cache, look, decide, answer_of, zero_slot, slot_at, shortcut_of, with_shortcut, remember, fill, applied, outcome_on, translate, flush}
use Rattle.mmu.specs.History.{Event, flushed, called, peeked, step, run}
use Rattle.mmu.specs.declared.TlbEntry.{TlbEntry}
use Rattle.mmu.specs.declared.Mmu.{Mmu}
use Rattle.mmu.proofs.Determined.{code_positive}
use Rattle.mmu.proofs.Tests.{SameFrame, framed}
use Rattle.mmu.proofs.Sound.{slot_hit, short_hit, translate_ind, held_allows, sure}

-- a state finds a page for an access, and gives its addresses as the frame f does
pub data Finds (n : ℕ) (s : Mmu) (x : Access) (satp : ℕ) (page : VirtPage) (f : PhysPage) : Type 0 where
  by_shortcut : short_hit s x satp page ≡ true → SameFrame (shortcut_of x s).frame f → Finds n s x satp page f
  by_slot : short_hit s x satp page ≡ false → slot_hit n s x page ≡ true → SameFrame (slot_at n s page).frame f → Finds n s x satp page f

in_frame_lem : (n : ℕ) (s : Mmu) (x : Access) (satp : ℕ) (page : VirtPage) (f g : PhysPage) → SameFrame f g → Finds n s x satp page f → Finds n s x satp page g
in_frame_lem n s x satp page f g e (by_shortcut q h) = by_shortcut q (λ a. h a ∙ e a)
in_frame_lem n s x satp page f g e (by_slot q l h) = by_slot q l (λ a. h a ∙ e a)

cached : (n : ℕ) (s : Mmu) (d : Call) (f : PhysPage) → accepts d ≡ true → unpaged d.access d.satp ≡ false → walkable d.satp ≡ true
    → Finds n s d.access d.satp (page_of d.address) f → (translate n s d).answer ≡ At (in_frame f d.address) 0
unfolding translate outcome_on decide look look_cache
cached n s d f u v w (by_shortcut q h) = rw (u, v, w, q) (ap (λ (a : ℕ). At a 0) (h d.address))
cached n s d f u v w (by_slot q l h) = rw (u, v, w, q, l) (ap (λ (a : ℕ). At a 0) (h d.address))

-- ---- a call that succeeded leaves a state that finds its page

-- a shortcut that was just set, by a leaf that allows the access, is found; a fetch, which has none, is found if its slot is
remember_found : (n : ℕ) (s : Mmu) (x : Access) (satp : ℕ) (page : VirtPage) (frame : PhysPage) (leaf : ℕ) → allows x leaf ≡ true
    → (x.kind ≡ Fetch → (slot_hit n s x page ≡ true) × ((slot_at n s page).frame ≡ frame))
    → Finds n (with_shortcut x.kind s (shortcut_to page frame satp leaf)) x satp page frame
unfolding quick shortcut_of matches slot_at
remember_found n s x satp page frame leaf = go x.kind
  where
    y : Kind → Access
    y k = record { kind = k; mode = x.mode; sum = x.sum; mxr = x.mxr }

    go : (k : Kind) → allows (y k) leaf ≡ true → (k ≡ Fetch → (slot_hit n s (y k) page ≡ true) × ((slot_at n s page).frame ≡ frame))
        → Finds n (with_shortcut k s (shortcut_to page frame satp leaf)) (y k) satp page frame
    go Fetch al h = by_slot refl (h refl).0 (λ a. ap (λ (f : PhysPage). in_frame f a) (h refl).1)
    go Load al h = by_shortcut (rw (eq-eqb page.0 page.0 refl, eq-eqb satp satp refl) al) (λ a. refl)
    go Store al h = by_shortcut (rw (eq-eqb page.0 page.0 refl, eq-eqb satp satp refl) al) (λ a. refl)

fill_hit : (n : ℕ) (s : Mmu) (x : Access) (page : VirtPage) (frame : PhysPage) (leaf : ℕ) → 0 < n → length s.tlb ≡ n → allows x leaf ≡ true
    → (slot_hit n (fill n s page frame leaf) x page ≡ true) × ((slot_at n (fill n s page frame leaf) page).frame ≡ frame)
unfolding fill slot_at held live
fill_hit n s x page frame leaf pos size h =
    let y : TlbEntry = slot_of page frame leaf s.epoch in
    let at : get_or (set s.tlb (page.0 % n) y) (page.0 % n) zero_slot ≡ y = get_or-set_same s.tlb (page.0 % n) y zero_slot (rw size (mod-lt page.0 pos)) in
    (rw (at, eq-eqb page.0 page.0 refl, eq-eqb s.epoch s.epoch refl) h, ap (λ (z : TlbEntry). z.frame) at)

accepted_if_done : (n : ℕ) (s : Mmu) (c : Call) (t : ℕ) → without_reads (translate n s c).answer ≡ done t → accepts c ≡ true
unfolding translate outcome_on decide look
accepted_if_done n s c t ok = by_test (accepts c) (λ u. u) (λ u. absurd (let z : 4 ≡ 0 = ap (λ (w : Answer ℕ). w.number) (rw u at ok) in omega arith))

-- a success that was paged was under a satp that names tables
walked_if_done : (n : ℕ) (s : Mmu) (c : Call) (t : ℕ) → accepts c ≡ true → unpaged c.access c.satp ≡ false → without_reads (translate n s c).answer ≡ done t
    → walkable c.satp ≡ true
unfolding translate outcome_on decide look fresh_walk
walked_if_done n s c t u v ok =
    by_test (walkable c.satp) (λ w. w)
    (λ w.
    let gone = barred_lost c.access c.memory c.address c.satp (ap (λ (b : Bool). b && canonical levels c.address) w)
    in absurd (code_positive (fault_of c.access.kind c.address) (ap (λ (x : Answer ℕ). x.number) (rw (u, v, w, gone) at ok))))

found_again : (n : ℕ) (s : Mmu) (c : Call) (t : ℕ) → 0 < n → length s.tlb ≡ n → unpaged c.access c.satp ≡ false → without_reads (translate n s c).answer ≡ done t
    → Finds n (translate n s c).mmu c.access c.satp (page_of c.address) (frame_of t)
unfolding translate outcome_on decide look look_cache remember fresh_walk
found_again n s c t pos size v ok =
    let page = page_of c.address in
    let slot = (slot_at n s page).frame in
    let u = accepted_if_done n s c t ok in
    let w = walked_if_done n s c t u v ok in
    by_test (short_hit s c.access c.satp page)
    (λ q. rw (u, v, w, q) (by_shortcut q (rw (← same_value (rw (u, v, w, q) at ok)) (framed (shortcut_of c.access s).frame c.address))))
    (λ q. by_test (slot_hit n s c.access page)
    (λ l. rw (u, v, w, q, l) (in_frame_lem n _ c.access c.satp page slot (frame_of t) (rw (← same_value (rw (u, v, w, q, l) at ok)) (framed slot c.address)) (remember_found n s c.access c.satp page slot (slot_at n s page).leaf (held_allows (slot_at n s page) s.epoch c.access page l) (λ f. (l, refl)))))
    (λ l. rw (u, v, w, q, l) (on_walk (fresh_walk c) refl (rw (u, v, w, q, l) at ok))))
  where
    on_walk : (w : Reached) → fresh_walk c ≡ w → without_reads (answer_of (after_walk c w)) ≡ done t
        → Finds n (applied n s c (after_walk c w)) c.access c.satp (page_of c.address) (frame_of t)
    on_walk (found b e) h z =
        rw (← same_value z)
        (let al = (sure c.access c.address (trail_of c.memory c.address c.satp).stop b e h).allowed in
        remember_found n (fill n s (page_of c.address) (frame_of b) e) c.access c.satp (page_of c.address) (frame_of b) e al
        (λ f. fill_hit n s c.access (page_of c.address) (frame_of b) e pos size al))
    on_walk lost h z = absurd (code_positive (fault_of c.access.kind c.address) (ap (λ (w : Answer ℕ). w.number) z))

-- a state keeps its number of slots
size_remember : (s : Mmu) (d : Call) (frame : PhysPage) (leaf : ℕ) → length (remember s d frame leaf).tlb ≡ length s.tlb
unfolding remember
size_remember s d frame leaf = go d.access.kind
  where
    go : (k : Kind) → length (with_shortcut k s (shortcut_to (page_of d.address) frame d.satp leaf)).tlb ≡ length s.tlb
    go Fetch = refl
    go Load = refl
    go Store = refl

size_call : (n : ℕ) (s : Mmu) (d : Call) → length (translate n s d).mmu.tlb ≡ length s.tlb
unfolding fill
size_call n s d = translate_ind (λ t. length t.tlb ≡ length s.tlb) n s d refl
    (λ p l. size_remember s d _ _)
    (λ t e p w. size_remember (fill n s (page_of d.address) (frame_of t) e) d (frame_of t) e ∙ length-set s.tlb ((page_of d.address).0 % n) _)

size_run : (n : ℕ) (h : List Event) (s : Mmu) → length (run n s h).tlb ≡ length s.tlb
unfolding run step flush
size_run n [] s = refl
size_run n (flushed ∷ h) s = size_run n h (flush s)
size_run n (called c ∷ h) s = size_run n h (translate n s c).mmu ∙ size_call n s c
size_run n (peeked ∷ h) s = size_run n h s

-- ---- the second call

-- the same kind, effective privilege, SUM and MXR; page and satp
pub record Again (c d : Call) : Type 0 where
  pub access : d.access ≡ c.access
  pub satp : d.satp ≡ c.satp
  pub page : page_of d.address ≡ page_of c.address

-- where nothing is paged, an address leads to itself
straight : (n : ℕ) (s : Mmu) (d : Call) → accepts d ≡ true → unpaged d.access d.satp ≡ true → (translate n s d).answer ≡ At d.address 0
unfolding translate outcome_on decide look
straight n s d u v = rw (u, v)

again : (n : ℕ) (s : Mmu) (c d : Call) (t : ℕ) → 0 < n → length s.tlb ≡ n → without_reads (translate n s c).answer ≡ done t
    → Again c d → accepts d ≡ true → d.address < 2 ^ 64 → (translate n (translate n s c).mmu d).answer ≡ At (in_frame (frame_of t) d.address) 0
again n s c d t pos size ok g u small =
    by_test (unpaged c.access c.satp)
    (λ v.
    let e : t ≡ c.address = same_value (sym ok ∙ ap without_reads (straight n s c (accepted_if_done n s c t ok) v)) in
    let p = ap (λ (x : VirtPage). x.0) g.page in
    let z : d.address ≡ in_frame (frame_of t) d.address = rw e (omega arith) in
    straight n (translate n s c).mmu d u (rw (g.access, g.satp) v) ∙ ap (λ (a : ℕ). At a 0) z)
    (λ v.
    let w = walked_if_done n s c t (accepted_if_done n s c t ok) v ok in
    cached n (translate n s c).mmu d (frame_of t) u (rw (g.access, g.satp) v) (rw g.satp w) (rw (g.access, g.satp, g.page) (found_again n s c t pos size v ok)))

-- THE LAST SENTENCE. Made again at once after a success, of the same kind, page and satp, with equal privilege, SUM and MXR: it succeeds, in the same
-- frame, and reads no table entry.
pub again_free : (n : ℕ) (h : List Event) (c d : Call) (t : ℕ) → 0 < n → without_reads (translate n (run n (new_mmu n) h) c).answer ≡ done t
    → Again c d → accepts d ≡ true → d.address < 2 ^ 64 → (translate n (translate n (run n (new_mmu n) h) c).mmu d).answer ≡ At (in_frame (frame_of t) d.address) 0
unfolding new_mmu
again_free n h c d t pos ok g u small = again n (run n (new_mmu n) h) c d t pos (size_run n h (new_mmu n) ∙ length-replicate n empty_slot) ok g u small
