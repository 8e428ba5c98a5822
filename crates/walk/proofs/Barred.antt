-- What may not be asked for is lost, and no entry is read. Assumes nothing.
use Rattle.std.proofs.Common.{◌≡◌, ℕ, true, false}
use Rattle.answers.proofs.Orders.{by_test}
use Rattle.walk.specs.Walk.{Memory, found, lost, judge, askable, trail_of, walk_of, count_of}
use Rattle.access.specs.declared.Access.{Access}

module _ (x : Access) (m : Memory) (a satp : ℕ) where
  pub barred_lost : askable a satp ≡ false → walk_of x m a satp ≡ lost
  unfolding trail_of judge
  barred_lost h = rw h

  pub barred_unread : askable a satp ≡ false → count_of m a satp ≡ 0
  unfolding trail_of
  barred_unread h = rw h

  -- so what is found could be asked for
  pub found_asked : {t e : ℕ} → walk_of x m a satp ≡ found t e → askable a satp ≡ true
  found_asked {t} {e} h =
      by_test (askable a satp) (λ s. s) (λ s. let f = barred_lost s in cc)
