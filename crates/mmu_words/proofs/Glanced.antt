-- What a glance tells is what a look tells: each of its ways, from what the code has tested. Assumes nothing.
use mathlib.Core.Path.{◌≡◌, refl, ◌∙◌}
use mathlib.Core.Bool.{Bool, true, false, ◌&&◌}
use mathlib.Core.List.{List}
use Prim.Native.Nat.{ℕ}
use native.Mathlib.Omega.{arith}
use borrow.Author.Tests.{eqb-true, ne_eqb}
use lib.ListN.{length}
use Rattle.answers.specs.Bits.{bits}
use Rattle.answers.proofs.Orders.{by_test}
use Rattle.csr.specs.Modes.{is_m}
use Rattle.csr.specs.Satp.{is_bare}
use Rattle.csr.specs.declared.PrivMode.{PrivMode}
use Rattle.system_bus.specs.Memory.{usable}
use Rattle.access.specs.Asked.{access_of}
use Rattle.access.specs.Plain.{plain}
use Rattle.access.specs.declared.Kind.{Kind}
use Rattle.access.specs.declared.Kind.TheVariants.{Fetch, Load, Store}
use Rattle.access.proofs.Plain.{plain_allows}
use Rattle.walk.specs.Walk.{Memory, walkable}
use Rattle.mmu.specs.Cache.{Call, mapping, call_of, page_of, in_frame, unpaged, accepts, live, held, matches, quick_kind, quick, look_cache, look}
use Rattle.mmu.specs.declared.Shortcut.{Shortcut}
use Rattle.mmu.specs.declared.TlbEntry.{TlbEntry}
use Rattle.mmu.specs.declared.Lookup.TheVariants.{Straight, Held, Unusable}
use Rattle.mmu_words.specs.Words.{epoch_at, epoch_in, slot_in, shortcut_in, slot_place, shortcut_place, near, look_in}

-- a shortcut that is near serves what its leaf allows; one that is not serves nothing
near_quick : (k : Kind) (m a : Bool) → quick_kind k m ≡ true → a ≡ true → quick_kind k (m && a) ≡ true
near_quick Fetch m a h e = h
near_quick Load m a h e = rw (h, e)
near_quick Store m a h e = rw (h, e)

far_slow : (k : Kind) (m a : Bool) → quick_kind k m ≡ false → quick_kind k (m && a) ≡ false
far_slow Fetch m a h = refl
far_slow Load m a h = rw h
far_slow Store m a h = rw h

module _ (ws : List ℕ) (k : Kind) (m : Memory) (a satp : ℕ) (mode : PrivMode) (mstatus : ℕ) where
  abbrev c : Call
  c = call_of k m a satp mode mstatus

  pub unusable_told : usable (length m) ≡ false → Unusable ≡ look_in ws c
  unfolding look_in look accepts
  unusable_told u = rw u

  module _ (u : usable (length m) ≡ true) where
    pub bare_told : is_bare satp ≡ true → Straight a ≡ look_in ws c
    unfolding look_in look accepts unpaged
    bare_told b = rw u (by_test (is_m c.access.mode) (λ t. rw t) (λ t. rw (t, b)))

    module _ (w : walkable satp ≡ true) where
      -- a leaf that is plain is not asked for by M, and allows; and a satp that names tables is not bare
      paged_so : (e : ℕ) → plain k mode mstatus e ≡ true → unpaged c.access satp ≡ false
      unfolding unpaged walkable
      paged_so e p =
          let m = eqb-true (bits 63 60 satp) 8 w
          in rw (plain_allows k mode mstatus e p).0 (ne_eqb (bits 63 60 satp) 0 (λ z. omega arith))

      quick_so : (q : Shortcut) → near k q satp (page_of a) ≡ true → plain k mode mstatus q.leaf ≡ true → quick c.access q satp (page_of a) ≡ true
      unfolding quick access_of
      quick_so q n p = near_quick k (matches q satp (page_of a)) _ n (plain_allows k mode mstatus q.leaf p).1

      slow_so : (q : Shortcut) → near k q satp (page_of a) ≡ false → quick c.access q satp (page_of a) ≡ false
      unfolding quick access_of
      slow_so q n = far_slow k (matches q satp (page_of a)) _ n

      held_so : (y : TlbEntry) (n : ℕ) → live y n (page_of a) ≡ true → plain k mode mstatus y.leaf ≡ true → held y n c.access (page_of a) ≡ true
      unfolding held
      held_so y n l p = rw (l, (plain_allows k mode mstatus y.leaf p).1)

      -- on a slot y, an epoch n and a shortcut q
      short_look : (y : TlbEntry) (n : ℕ) (q : Shortcut) → unpaged c.access satp ≡ false → quick c.access q satp (page_of a) ≡ true
          → Straight (in_frame q.frame a) ≡ look y n q c
      unfolding look look_cache accepts
      short_look y n q v h = rw (u, v, w, h)

      slot_look : (y : TlbEntry) (n : ℕ) (q : Shortcut) → unpaged c.access satp ≡ false → quick c.access q satp (page_of a) ≡ false
          → held y n c.access (page_of a) ≡ true → Held (in_frame y.frame a) (mapping y.frame y.leaf) ≡ look y n q c
      unfolding look look_cache accepts
      slot_look y n q v h l = rw (u, v, w, h, l)

      -- as the code reads them of the words
      read : {n : ℕ} {y : TlbEntry} {q : Shortcut} → q ≡ shortcut_in ws (shortcut_place k) → y ≡ slot_in ws (slot_place a) → n ≡ epoch_in ws epoch_at → look y n q c ≡ look_in ws c
      unfolding look_in access_of
      read e hy hn = λ j. look (hy j) (hn j) (e j) c

      pub near_told : {q : Shortcut} → q ≡ shortcut_in ws (shortcut_place k) → near k q satp (page_of a) ≡ true → plain k mode mstatus q.leaf ≡ true
          → Straight (in_frame q.frame a) ≡ look_in ws c
      near_told {q} e n p =
          short_look (slot_in ws (slot_place a)) (epoch_in ws epoch_at) q (paged_so q.leaf p) (quick_so q n p)
          ∙ read e refl refl

      pub held_told : {n : ℕ} {y : TlbEntry} {q : Shortcut} → q ≡ shortcut_in ws (shortcut_place k) → near k q satp (page_of a) ≡ false
          → y ≡ slot_in ws (slot_place a) → n ≡ epoch_in ws epoch_at → live y n (page_of a) ≡ true → plain k mode mstatus y.leaf ≡ true
          → Held (in_frame y.frame a) (mapping y.frame y.leaf) ≡ look_in ws c
      held_told {n} {y} {q} e f hy hn l p =
          slot_look y n q (paged_so y.leaf p) (slow_so q f) (held_so y n l p) ∙ read e hy hn
