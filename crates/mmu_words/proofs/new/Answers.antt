-- `mmu_words::new` meets its contract. The invariant: the first i slots are empty, all else is zero. Assumes nothing.
use mathlib.Core.Path.{◌≡◌, ap, ◌∙◌}
use mathlib.Core.List.{List}
use Prim.Native.Nat.{ℕ, suc, ◌+◌, ◌-◌, ◌*◌}
use native.Mathlib.Omega.{arith}
use native.Mathlib.Numerals.{add-one}
use lib.ListN.{set}
use lib.Seq.{sets}
use Rattle.mmu.specs.Cache.{slot_count, no_page}
use Rattle.mmu_words.specs.Words.{epoch_at, load_at, store_at, slots_at, slot_word_count, shortcut_words}
use Rattle.mmu_words.proofs.Emptied.{begun, none_emptied, one_more, all_emptied}
use Rattle.mmu_words.proofs.new.Goals as goal

pub loop-i-init : goal.loop-i-init
loop-i-init c = (none_emptied, omega arith)

pub loop-i-preserved : goal.loop-i-preserved
loop-i-preserved c =
    let n : slot_count - c.loop-i.i ≡ suc (slot_count - suc c.loop-i.i) = omega arith
    in (
      ap (λ (x : List ℕ). set x (slots_at + slot_word_count * c.loop-i.i) no_page.0) (c.loop-i.invariant.0 ∙ ap (begun c.loop-i.i) n) ∙ one_more c.loop-i.i (slot_count - suc c.loop-i.i) ∙ rw (add-one c.loop-i.i),
      omega arith,
    )

pub returns : goal.returns
returns c =
    let e : c.loop-i.i ≡ slot_count = omega arith
    in let x : c.loop-i.mmu ≡ begun slot_count 0 = c.loop-i.invariant.0 ∙ ap (λ (k : ℕ). begun k (slot_count - k)) e
    in let y = c.put_shortcut.ensures ∙ (λ i. sets (set (x i) epoch_at 1) load_at (shortcut_words (c.empty.ensures i)))
    in c.put_shortcut-2.ensures ∙ (λ i. sets (y i) store_at (shortcut_words (c.empty-2.ensures i))) ∙ all_emptied
