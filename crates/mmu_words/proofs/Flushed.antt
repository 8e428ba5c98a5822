-- Flushed words hold the flushed state. Assumes nothing.
use mathlib.Core.Path.{◌≡◌, ap, ◌∙◌}
use mathlib.Core.List.{List}
use mathlib.Core.Logic.{◌≢◌}
use Prim.Native.Nat.{ℕ, ◌+◌, ◌*◌, ◌%◌, ◌^◌}
use native.Mathlib.Omega.{arith}
use lib.Dec.{eqb}
use lib.ListN.{length, get_or, set, length-set}
use lib.Seq.{get_or-set_same, get_or-set_other}
use Rattle.answers.proofs.Orders.{by_test}
use Rattle.mmu.specs.Cache.{virt, phys, no_page, shortcut_to, next_epoch, forget, flush}
use Rattle.mmu.specs.declared.Mmu.{Mmu}
use Rattle.mmu_words.specs.Words.{epoch_at, load_at, store_at, slots_at, slot_word_count, word_count, epoch_in, flushed_words, Holds}
use Rattle.mmu_words.proofs.Held.{slot_same}

epoch_fits : (e : ℕ) → next_epoch e % 2 ^ 32 ≡ next_epoch e
unfolding next_epoch
epoch_fits e = by_test (eqb ((e + 1) % 2 ^ 32) 0) (λ t. rw t) (λ t. rw t (omega arith))

pub flush_held : (ws : List ℕ) (s : Mmu) → Holds ws s → Holds (flushed_words ws) (flush s)
unfolding flush forget
flush_held ws s h =
    let n = next_epoch (epoch_in ws epoch_at)
    in let p = no_page.0
    in let a = set ws epoch_at n
    in let b = set a load_at p
    in let la : length a ≡ word_count = length-set ws epoch_at n ∙ h.size
    in let lb : length b ≡ word_count = length-set a load_at p ∙ la
    in let sz = h.size
    in let keep : (i : ℕ) → i ≢ epoch_at → i ≢ load_at → i ≢ store_at → get_or (flushed_words ws) i 0 ≡ get_or ws i 0 =
    λ i x y z. get_or-set_other b store_at i p 0 z ∙ get_or-set_other a load_at i p 0 y ∙ get_or-set_other ws epoch_at i n 0 x
    in let epoch : get_or (flushed_words ws) epoch_at 0 ≡ n =
    get_or-set_other b store_at epoch_at p 0 (λ z. omega arith) ∙ get_or-set_other a load_at epoch_at p 0 (λ z. omega arith) ∙ get_or-set_same ws epoch_at n 0 (omega arith)
    in let load : get_or (flushed_words ws) load_at 0 ≡ p = get_or-set_other b store_at load_at p 0 (λ z. omega arith) ∙ get_or-set_same a load_at p 0 (omega arith)
    in let store : get_or (flushed_words ws) store_at 0 ≡ p = get_or-set_same b store_at p 0 (omega arith)
    in let l1 = keep (load_at + 1) (λ z. omega arith) (λ z. omega arith) (λ z. omega arith)
    in let l2 = keep (load_at + 2) (λ z. omega arith) (λ z. omega arith) (λ z. omega arith)
    in let l3 = keep (load_at + 3) (λ z. omega arith) (λ z. omega arith) (λ z. omega arith)
    in let s1 = keep (store_at + 1) (λ z. omega arith) (λ z. omega arith) (λ z. omega arith)
    in let s2 = keep (store_at + 2) (λ z. omega arith) (λ z. omega arith) (λ z. omega arith)
    in let s3 = keep (store_at + 3) (λ z. omega arith) (λ z. omega arith) (λ z. omega arith)
    in record {
      size = length-set b store_at p ∙ lb;
      count = h.count;
      epoch = ap (λ (e : ℕ). e % 2 ^ 32) epoch ∙ epoch_fits (epoch_in ws epoch_at) ∙ ap next_epoch h.epoch;
      load = ◌∙◌ {b = shortcut_to no_page (phys (get_or ws (load_at + 1) 0)) (get_or ws (load_at + 2) 0) (get_or ws (load_at + 3) 0)} (λ i. shortcut_to (virt (load i)) (phys (l1 i)) (l2 i) (l3 i)) (ap forget h.load);
      store = ◌∙◌ {b = shortcut_to no_page (phys (get_or ws (store_at + 1) 0)) (get_or ws (store_at + 2) 0) (get_or ws (store_at + 3) 0)} (λ i. shortcut_to (virt (store i)) (phys (s1 i)) (s2 i) (s3 i)) (ap forget h.store);
      slots = λ i q. slot_same (flushed_words ws) ws (slots_at + i * slot_word_count) (λ j x y. keep j (λ z. omega arith) (λ z. omega arith) (λ z. omega arith)) ∙ h.slots i q;
    }
