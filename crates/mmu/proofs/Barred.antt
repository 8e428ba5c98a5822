-- What may not be asked for, whatever was done before: no condition is on the history. A satp that names no tables is turned away before the cache is
-- asked. A hit does not look at the address's upper bits, so that no slot and no shortcut may ever be for a page whose addresses are not canonical.
-- Assumes nothing.
use Rattle.std.specs.Prelude.{Err}
use mathlib.Core.Path.{◌≡◌, sym, ap, ◌∙◌}
use mathlib.Core.Bool.{Bool, true, false, not, ◌&&◌, false≢true}
use mathlib.Core.List.{List, [], ◌∷◌}
use Prim.Native.Nat.{ℕ, zero, suc, ◌%◌, ◌^◌, ◌<◌}
use native.Mathlib.Omega.{arith}
use borrow.Author.Tests.{eqb-true, not-true}
use lib.Dec.{eqb}
use lib.ListN.{get_or, replicate}
use Rattle.std.proofs.lemmas.Bool.{and_parts}
use Rattle.answers.proofs.Orders.{by_test}
use Rattle.access.specs.Allowed.{allows}
use Rattle.walk.specs.Walk.{found, canonical, walkable, levels, askable}
use Rattle.walk.proofs.Agree.{canonical_page}
use Rattle.walk.proofs.Barred.{barred_lost, barred_unread, found_asked}
use Rattle.access.specs.declared.Kind.{Kind}
use Rattle.access.specs.declared.Kind.TheVariants.{Fetch, Load, Store}
use Rattle.access.specs.declared.Access.{Access}
use Rattle.walk.specs.declared.VirtPage.{VirtPage}
use Rattle.walk.specs.declared.PhysPage.{PhysPage}
use Rattle.mmu.specs.Answers.{Translation, fault_of}
use Rattle.mmu.specs.Cache.{virt, no_page, slot_of, shortcut_to, empty_slot, new_mmu, Call, page_of, frame_of, unpaged, accepts, fresh_walk, fresh_count, live, held, matches, quick_kind, quick, look_cache, look, decide, zero_slot, slot_at, shortcut_kind, shortcut_of, with_shortcut, remember, fill, outcome_on, translate, forget, flush}
use Rattle.mmu.specs.History.{Event, flushed, called, peeked, step, run, paged}
use Rattle.mmu.specs.declared.Lookup.TheVariants.{Missed}
use Rattle.mmu.specs.declared.Outcome.TheVariants.{Stay}
use Rattle.mmu.specs.declared.Failure.TheVariants.{Fault}
use Rattle.mmu.specs.declared.TlbEntry.{TlbEntry}
use Rattle.mmu.specs.declared.Shortcut.{Shortcut}
use Rattle.mmu.specs.declared.Mmu.{Mmu}
use Rattle.mmu.proofs.Sound.{slot_hit, short_hit, translate_ind, set_keeps, held_live}

-- a slot that is found has the page for its tag; a shortcut that is found is for it
tag_of : (y : TlbEntry) (epoch : ℕ) (x : Access) (pg : VirtPage) → held y epoch x pg ≡ true → y.tag ≡ pg
unfolding live
tag_of y epoch x pg h = ap virt (eqb-true y.tag.0 pg.0 (and_parts (eqb y.tag.0 pg.0) (eqb y.epoch epoch) (held_live y epoch x pg h)).0)

page_of_lem : (x : Access) (q : Shortcut) (satp : ℕ) (pg : VirtPage) → quick x q satp pg ≡ true → q.page ≡ pg
unfolding quick matches
page_of_lem x q satp pg = go x.kind
  where
    same : (b d : Bool) → ((eqb q.page.0 pg.0 && b) && d) ≡ true → q.page ≡ pg
    same b d h = ap virt (eqb-true q.page.0 pg.0 (and_parts (eqb q.page.0 pg.0) b (and_parts _ d h).0).0)

    go : (k : Kind) → quick_kind k ((eqb q.page.0 pg.0 && eqb q.satp satp) && allows x q.leaf) ≡ true → q.page ≡ pg
    go Fetch h = absurd (false≢true h)
    go Load h = same _ _ h
    go Store h = same _ _ h

-- nothing is kept for a page
pub record Unknown (n : ℕ) (page : VirtPage) (s : Mmu) : Type 0 where
  pub slot : (slot_at n s page).tag ≡ page → ⊥
  pub load : s.load.page ≡ page → ⊥
  pub store : s.store.page ≡ page → ⊥

-- ---- every event keeps that, of a page that has no canonical address

module _ (n : ℕ) (c : Call) (small : c.address < 2 ^ 64) (odd : canonical levels c.address ≡ false) where
  abbrev page : VirtPage
  page = page_of c.address

  -- the page of a call that found something is another
  other : (d : Call) (t e : ℕ) → fresh_walk d ≡ found t e → page_of d.address ≡ page → ⊥
  unfolding fresh_walk
  other d t e w p =
      let asked : canonical levels d.address ≡ true = (and_parts (walkable d.satp) (canonical levels d.address) (found_asked d.access d.memory d.address d.satp w)).1
      in false≢true (sym odd ∙ canonical_page levels c.address d.address (omega arith) (sym (ap (λ (q : VirtPage). q.0) p)) ∙ asked)

  not_none : no_page ≡ page → ⊥
  not_none e = let z : no_page.0 ≡ page.0 = ap (λ (p : VirtPage). p.0) e in omega arith

  not_zero : zero_slot.tag ≡ page → ⊥
  unfolding canonical
  not_zero e =
      let z : 0 ≡ page.0 = ap (λ (p : VirtPage). p.0) e
      in false≢true (sym odd ∙ canonical_page levels c.address 0 (omega arith) (sym z))

  unknown_remember : (s : Mmu) (d : Call) (frame : PhysPage) (leaf : ℕ) → (page_of d.address ≡ page → ⊥) → Unknown n page s → Unknown n page (remember s d frame leaf)
  unfolding remember slot_at
  unknown_remember s d frame leaf new h = go d.access.kind
    where
      go : (k : Kind) → Unknown n page (with_shortcut k s (shortcut_to (page_of d.address) frame d.satp leaf))
      go Fetch = h
      go Load = record { slot = h.slot; load = new; store = h.store }
      go Store = record { slot = h.slot; load = h.load; store = new }

  unknown_fill : (s : Mmu) (pg : VirtPage) (frame : PhysPage) (leaf : ℕ) → (pg ≡ page → ⊥) → Unknown n page s → Unknown n page (fill n s pg frame leaf)
  unfolding fill slot_at
  unknown_fill s pg frame leaf new h =
      record {
        slot = set_keeps (λ y. y.tag ≡ page → ⊥) s.tlb (pg.0 % n) (page.0 % n) (slot_of pg frame leaf s.epoch) zero_slot new h.slot;
        load = h.load;
        store = h.store;
      }

  unknown_call : (s : Mmu) (d : Call) → Unknown n page s → Unknown n page (translate n s d).mmu
  unknown_call s d h = translate_ind (Unknown n page) n s d h
      (λ p hit. unknown_remember s d _ _ (λ e. h.slot (tag_of _ s.epoch d.access page (rw e at hit))) h)
      (λ t x p w. unknown_remember _ d (frame_of t) x (other d t x w) (unknown_fill s (page_of d.address) (frame_of t) x (other d t x w) h))

  unknown_flush : (s : Mmu) → Unknown n page s → Unknown n page (flush s)
  unfolding flush forget slot_at
  unknown_flush s h = record { slot = h.slot; load = not_none; store = not_none }

  unknown_run : (h : List Event) (s : Mmu) → Unknown n page s → Unknown n page (run n s h)
  unfolding run step
  unknown_run [] s k = k
  unknown_run (flushed ∷ h) s k = unknown_run h (flush s) (unknown_flush s k)
  unknown_run (called d ∷ h) s k = unknown_run h (translate n s d).mmu (unknown_call s d k)
  unknown_run (peeked ∷ h) s k = unknown_run h s k

  unknown_new : Unknown n page (new_mmu n)
  unfolding new_mmu slot_at
  unknown_new = record { slot = at n (page.0 % n); load = not_none; store = not_none }
    where
      at : (m j : ℕ) → (get_or (replicate m empty_slot) j zero_slot).tag ≡ page → ⊥
      at zero j = not_zero
      at (suc m) zero = not_none
      at (suc m) (suc j) = at m j

-- ---- and what is unknown is walked for

-- the page fault without a read; nothing is kept of it
abbrev pub turned_away : Call → Translation
turned_away c = Err (Fault (fault_of c.access.kind c.address) 0)

module _ (n : ℕ) (s : Mmu) (c : Call) (p : paged c ≡ true) (bar : askable c.address c.satp ≡ false) where
  walked_away : look (slot_at n s (page_of c.address)) s.epoch (shortcut_of c.access s) c ≡ Missed → outcome_on n s c ≡ Stay (turned_away c)
  unfolding outcome_on decide fresh_walk fresh_count
  walked_away m = rw (m, barred_lost c.access c.memory c.address c.satp bar, barred_unread c.access c.memory c.address c.satp bar)

  u : accepts c ≡ true
  u = (and_parts (accepts c) (not (unpaged c.access c.satp)) p).0

  v : unpaged c.access c.satp ≡ false
  v = not-true (unpaged c.access c.satp) (and_parts (accepts c) (not (unpaged c.access c.satp)) p).1

  -- whatever the state, if satp names no tables
  no_tables : walkable c.satp ≡ false → outcome_on n s c ≡ Stay (turned_away c)
  unfolding look
  no_tables w = walked_away (rw (u, v, w))

  -- else if nothing is kept for the page
  no_entry : Unknown n (page_of c.address) s → walkable c.satp ≡ true → outcome_on n s c ≡ Stay (turned_away c)
  unfolding look look_cache shortcut_of
  no_entry k w = walked_away (rw (u, v, w, slow, free))
    where
      unknown : (i : Kind) → (shortcut_kind i s).page ≡ page_of c.address → ⊥
      unknown Fetch = k.load
      unknown Load = k.load
      unknown Store = k.store

      slow : short_hit s c.access c.satp (page_of c.address) ≡ false
      slow = by_test (short_hit s c.access c.satp (page_of c.address)) (λ h. absurd (unknown c.access.kind (page_of_lem c.access _ c.satp (page_of c.address) h))) (λ h. h)

      free : slot_hit n s c.access (page_of c.address) ≡ false
      free = by_test (slot_hit n s c.access (page_of c.address)) (λ h. absurd (k.slot (tag_of _ s.epoch c.access (page_of c.address) h))) (λ h. h)

pub barred_outcome : (n : ℕ) (h : List Event) (c : Call) → c.address < 2 ^ 64 → paged c ≡ true → askable c.address c.satp ≡ false
    → outcome_on n (run n (new_mmu n) h) c ≡ Stay (turned_away c)
barred_outcome n h c small p bar =
    by_test (walkable c.satp)
    (λ w.
    let odd : canonical levels c.address ≡ false = rw w at bar
    in no_entry n (run n (new_mmu n) h) c p bar (unknown_run n c small odd h (new_mmu n) (unknown_new n c small odd)) w)
    (λ w. no_tables n (run n (new_mmu n) h) c p bar w)

-- A load, store or fetch of an address whose bits 63 to 39 are not copies of bit 38, or under a satp whose mode is neither 0 nor 8: after any history it
-- is a page fault, no table entry is read, and the state stays as it was.
pub barred : (n : ℕ) (h : List Event) (c : Call) → c.address < 2 ^ 64 → paged c ≡ true → askable c.address c.satp ≡ false
    → translate n (run n (new_mmu n) h) c ≡ record { answer = turned_away c; mmu = run n (new_mmu n) h }
unfolding translate
barred n h c small p bar = rw (barred_outcome n h c small p bar)
