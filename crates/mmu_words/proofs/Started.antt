-- New words hold a new state. Assumes nothing.
use mathlib.Core.Path.{◌≡◌, refl, sym, ap, ◌∙◌}
use mathlib.Core.List.{◌++◌}
use Prim.Native.Nat.{ℕ, zero, suc, ◌+◌, ◌*◌, ◌%◌, ◌^◌, ◌<◌}
use native.Mathlib.Nat.{not-suc-le-zero}
use native.Mathlib.Omega.{arith}
use lib.ListN.{length, get_or, length-replicate, get_or-replicate, get_or-append}
use lib.Seq.{get_or-append-add}
use Rattle.answers.proofs.Orders.{by_order}
use Rattle.mmu.specs.Cache.{virt, phys, slot_count, slot_of, empty_slot, zero_slot, new_mmu}
use Rattle.mmu_words.specs.Words.{slots_at, slot_word_count, slot_words, empty_slots, new_words, Holds}
use Rattle.mmu_words.proofs.Emptied.{length_slots}

at_empty : (n i j : ℕ) → i < n → j < slot_word_count → get_or (empty_slots n) (i * slot_word_count + j) 0 ≡ get_or (slot_words empty_slot) j 0
unfolding empty_slots
at_empty zero i j b c = absurd (not-suc-le-zero b)
at_empty (suc n) i j b c = by_order i n
    (λ l.
    let m = length_slots n
    in get_or-append (empty_slots n) (slot_words empty_slot) 0 (i * slot_word_count + j) (omega arith) ∙ at_empty n i j l c)
    (λ g.
    let m = length_slots n
    in let e : i * slot_word_count + j ≡ length (empty_slots n) + j = omega arith
    in ap (λ (k : ℕ). get_or (empty_slots n ++ slot_words empty_slot) k 0) e ∙ get_or-append-add (empty_slots n) (slot_words empty_slot) j 0)

-- the slots stand behind the epoch and the shortcuts
behind : (k j : ℕ) → j ≡ slots_at + k → get_or new_words j 0 ≡ get_or (empty_slots slot_count) k 0
unfolding new_words
behind k j h =
    let e : j ≡ suc (suc (suc (suc (suc (suc (suc (suc (suc k)))))))) = omega arith
    in ap (λ (i : ℕ). get_or new_words i 0) e

pub new_held : Holds new_words (new_mmu slot_count)
unfolding new_words new_mmu
new_held =
    let at : (i j x : ℕ) → i < slot_count → j < slot_word_count → x ≡ slots_at + (i * slot_word_count + j) → get_or new_words x 0 ≡ get_or (slot_words empty_slot) j 0 =
    λ i j x b c e. behind (i * slot_word_count + j) x e ∙ at_empty slot_count i j b c
    in record {
      size = ap (λ (k : ℕ). suc (suc (suc (suc (suc (suc (suc (suc (suc k))))))))) (length_slots slot_count);
      count = length-replicate slot_count empty_slot;
      epoch = refl;
      load = refl;
      store = refl;
      slots = λ i b.
          let place = slots_at + i * slot_word_count
          in let p = at i 0 place b (omega arith) (omega arith)
          in let f = at i 1 (place + 1) b (omega arith) (omega arith)
          in let e = at i 2 (place + 2) b (omega arith) (omega arith)
          in let n = at i 3 (place + 3) b (omega arith) (omega arith)
          in ◌∙◌ {b = empty_slot} (λ k. slot_of (virt (p k)) (phys (f k)) (e k) (n k % 2 ^ 32)) (sym (get_or-replicate slot_count i empty_slot zero_slot b));
    }
