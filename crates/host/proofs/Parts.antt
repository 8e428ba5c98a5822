-- The registers of one kind as a part of the 65 words: what a read of the part gives, and what a write of it leaves. Assumes nothing.
use mathlib.Core.Path.{◌≡◌, refl, sym, ap, ◌∙◌}
use mathlib.Core.List.{List, ◌++◌, append-nil}
use Prim.Native.Nat.{ℕ, ◌-◌}
use native.Mathlib.Omega.{arith}
use lib.ListN.{length, take, drop, drop_of_length-le}
use lib.Seq.{take-length}
use Rattle.std.proofs.lemmas.List.{length-drop, get_or-take}
use Rattle.std.proofs.lemmas.Bool.{lt-ltb, le-ltb}
use Rattle.answers.specs.Answer.{done}
use Rattle.answers.proofs.Orders.{by_order}
use Rattle.gpr.specs.Registers.{read_f, write_f}

-- of 65 words, the 32 from the word 33 on are all that is left
pub last_part : (ws : List ℕ) → length ws ≡ 65 → take 32 (drop 33 ws) ≡ drop 33 ws
last_part ws h =
    let l : length (drop 33 ws) ≡ 32 = length-drop 33 ws ∙ ap (λ (n : ℕ). n - 33) h
    in ap (λ (k : ℕ). take k (drop 33 ws)) (sym l) ∙ take-length (drop 33 ws)

-- what a register of the first 32 words holds, it holds among them all
pub first_part : (ws : List ℕ) (r : ℕ) → read_f (take 32 ws) r ≡ read_f ws r
first_part ws r = by_order 31 r (λ h. rw (lt-ltb 31 r h) refl) (λ h. rw (le-ltb 31 r h) (ap done (get_or-take 32 ws r 0 (omega arith))))

-- a write among the 32 words from the word 33 on is one among all that are left
pub last_written : (ws : List ℕ) (r v : ℕ) {xs : List ℕ} → length ws ≡ 65 → xs ≡ write_f (take 32 (drop 33 ws)) r v → take 33 ws ++ (xs ++ drop 32 (drop 33 ws)) ≡ take 33 ws ++ write_f (drop 33 ws) r v
last_written ws r v {xs} h e =
    let l : length (drop 33 ws) ≡ 32 = length-drop 33 ws ∙ ap (λ (n : ℕ). n - 33) h
    in ap (λ (l : List ℕ). take 33 ws ++ (xs ++ l)) (drop_of_length-le (drop 33 ws) {i = 32} (omega arith))
    ∙ ap (λ (l : List ℕ). take 33 ws ++ l) (append-nil xs ∙ e ∙ ap (λ (l : List ℕ). write_f l r v) (last_part ws h))
