-- The door and the registers by value agree: a call on the words of some registers leaves, and reads, the words of what the call
-- by value leaves, and reads. (The calls' definitions are the same; these are the laws of the layout.) Assumes nothing.
use mathlib.Core.Path.{◌≡◌, sym, ap, ◌∙◌}
use mathlib.Core.List.{List, [], ◌∷◌, ◌++◌, append_assoc}
use Prim.Native.Nat.{ℕ, ◌+◌, ◌%◌, ◌<◌}
use native.Mathlib.Omega.{arith}
use borrow.Author.Tests.{lt-ltb, le-ltb}
use lib.Dec.{eqb}
use lib.ListN.{length, get_or, take, set, length-append, length-set, get_or-append}
use lib.Seq.{set-append_left, take_at, drop_at}
use Rattle.answers.proofs.Orders.{by_order, by_test}
use Rattle.gpr.specs.Registers.{with_x, with_f, seen_x, read_x, read_f, read_f32, write_x, write_f, read_masked, write_masked}
use Rattle.gpr.specs.declared.Gpr.{Gpr}
use Rattle.host.specs.Registers.{words_of, floats, with_floats}

module _ (g : Gpr) (n : length g.x ≡ 32) where
  -- the float registers stand from word 33 on
  front : length (g.x ++ g.pc ∷ []) ≡ 33
  front = length-append g.x (g.pc ∷ []) ∙ ap (λ (k : ℕ). k + 1) n

  regrouped : words_of g ≡ (g.x ++ g.pc ∷ []) ++ g.f
  regrouped = sym (append_assoc g.x (g.pc ∷ []) g.f)

  pub floats_agree : floats (words_of g) ≡ g.f
  floats_agree = ap floats regrouped ∙ drop_at (g.x ++ g.pc ∷ []) g.f 33 front

  pub with_floats_agree : (fs : List ℕ) → with_floats (words_of g) fs ≡ words_of (with_f g fs)
  with_floats_agree fs =
      ap (λ (l : List ℕ). take 33 l ++ fs) regrouped
      ∙ ap (λ (l : List ℕ). l ++ fs) (take_at (g.x ++ g.pc ∷ []) g.f 33 front)
      ∙ append_assoc g.x (g.pc ∷ []) fs

  -- an integer register, read and set
  at : (r : ℕ) → r < 32 → get_or (words_of g) r 0 ≡ get_or g.x r 0
  at r h = get_or-append g.x (g.pc ∷ g.f) 0 r (rw n h)

  put : (r v : ℕ) → r < 32 → set (words_of g) r v ≡ words_of (with_x g (set g.x r v))
  put r v h = set-append_left g.x (g.pc ∷ g.f) r v (rw n h)

  pub read_agrees : (r : ℕ) → read_x (words_of g) r ≡ read_x g.x r
  read_agrees r = by_order 31 r
      (λ h. rw (lt-ltb 31 r h))
      (λ h. rw (le-ltb 31 r h, at r (omega arith)))

  pub read_masked_agrees : (r : ℕ) → read_masked (words_of g) r ≡ read_masked g.x r
  read_masked_agrees r = ap (seen_x (r % 32)) (at (r % 32) (omega arith))

  pub write_agrees : (r v : ℕ) → write_x (words_of g) r v ≡ words_of (with_x g (write_x g.x r v))
  write_agrees r v = by_order 31 r
      (λ h. rw (lt-ltb 31 r h))
      (λ h. rw (le-ltb 31 r h) (by_test (eqb r 0) (λ e. rw e) (λ e. rw e (put r v (omega arith)))))

pub write_masked_agrees : (g : Gpr) → length g.x ≡ 32 → (r v : ℕ) → write_masked (words_of g) r v ≡ words_of (with_x g (write_masked g.x r v))
write_masked_agrees g n r v =
    ap (λ (l : List ℕ). set l 0 0) (put g n (r % 32) v (omega arith))
    ∙ put (with_x g (set g.x (r % 32) v)) (length-set g.x (r % 32) v ∙ n) 0 0 (omega arith)

-- the float calls, by the two laws of their place
pub read_f_agrees : (g : Gpr) → length g.x ≡ 32 → (r : ℕ) → read_f (floats (words_of g)) r ≡ read_f g.f r
read_f_agrees g n r = ap (λ (fs : List ℕ). read_f fs r) (floats_agree g n)

pub read_f32_agrees : (g : Gpr) → length g.x ≡ 32 → (r : ℕ) → read_f32 (floats (words_of g)) r ≡ read_f32 g.f r
read_f32_agrees g n r = ap (λ (fs : List ℕ). read_f32 fs r) (floats_agree g n)

pub write_f_agrees : (g : Gpr) → length g.x ≡ 32 → (r v : ℕ) → with_floats (words_of g) (write_f (floats (words_of g)) r v) ≡ words_of (with_f g (write_f g.f r v))
write_f_agrees g n r v = ap (λ (fs : List ℕ). with_floats (words_of g) (write_f fs r v)) (floats_agree g n) ∙ with_floats_agree g n (write_f g.f r v)
