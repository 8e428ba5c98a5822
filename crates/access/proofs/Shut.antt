-- A page that is closed to an access allows it nothing. Assumes nothing.
use mathlib.Core.Path.{◌≡◌, ap, ◌∙◌}
use mathlib.Core.Bool.{Bool, false, cond, true, ◌&&◌}
use Prim.Native.Nat.{ℕ}
use Rattle.csr.specs.declared.PrivMode.{PrivMode}
use Rattle.csr.specs.declared.PrivMode.TheVariants.{S}
use Rattle.access.specs.Flags.{is_user}
use Rattle.access.specs.Allowed.{open_to, permits, marked, allows, Closed, to_user, to_supervisor, to_fetch}
use Rattle.access.specs.declared.Kind.{Kind}
use Rattle.access.specs.declared.Kind.TheVariants.{Fetch, Load, Store}
use Rattle.access.specs.declared.Access.{Access}

without_sum : (k : Kind) (e : ℕ) → is_user e ≡ true → open_to S k false e ≡ false
without_sum Fetch e h = rw h
without_sum Load e h = rw h
without_sum Store e h = rw h

shut_to : (x : Access) (e : ℕ) → open_to x.mode x.kind x.sum e ≡ false → allows x e ≡ false
unfolding allows
shut_to x e h = ap (λ (b : Bool). b && (permits x.kind x.mxr e && marked x.kind e)) h

pub shut : (x : Access) (e : ℕ) → Closed x e → allows x e ≡ false
shut x e (to_user m h) = shut_to x e (ap (λ (p : PrivMode). open_to p x.kind x.sum e) m ∙ h)
shut x e (to_supervisor m s h) =
    shut_to x e
    (ap (λ (p : PrivMode). open_to p x.kind x.sum e) m ∙ ap (λ (b : Bool). open_to S x.kind b e) s ∙ without_sum x.kind e h)
shut x e (to_fetch m k h) =
    shut_to x e
    (ap (λ (p : PrivMode). open_to p x.kind x.sum e) m
    ∙ ap (λ (z : Kind). open_to S z x.sum e) k
    ∙ ap (λ (b : Bool). cond b false true) h)
