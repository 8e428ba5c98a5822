-- The common case is a case of what a leaf allows. Assumes nothing.
use mathlib.Core.Path.{◌≡◌, refl}
use mathlib.Core.Bool.{Bool, true, false, not, ◌&&◌, false≢true}
use Prim.Native.Nat.{ℕ}
use Rattle.std.proofs.lemmas.Bool.{and_parts}
use Rattle.answers.proofs.Orders.{by_test}
use Rattle.csr.specs.Modes.{is_m}
use Rattle.csr.specs.declared.PrivMode.{PrivMode}
use Rattle.csr.specs.declared.PrivMode.TheVariants.{U, S, M}
use Rattle.access.specs.Flags.{is_r, is_user}
use Rattle.access.specs.Asked.{is_sum, is_mxr, lends, access_of}
use Rattle.access.specs.Allowed.{open_to, permits, marked, allows}
use Rattle.access.specs.Plain.{own_page, plain}
use Rattle.access.specs.declared.Kind.{Kind}
use Rattle.access.specs.declared.Kind.TheVariants.{Fetch, Load, Store}

own : (k : Kind) (mode : PrivMode) (s : ℕ) → lends k s ≡ false → access_of k mode s ≡ record { kind = k; mode = mode; sum = is_sum s; mxr = is_mxr s }
unfolding access_of
own k mode s h = rw h

own_open : (mode : PrivMode) (k : Kind) (sum : Bool) (e : ℕ) → own_page mode e ≡ true → (is_m mode ≡ false) × (open_to mode k sum e ≡ true)
own_open U k sum e h = (refl, h)
own_open S k sum e h = by_test (is_user e) (λ t. absurd (false≢true (rw t at h))) (λ t. (refl, rw t))
own_open M k sum e h = absurd (false≢true h)

more_permits : (k : Kind) (mxr : Bool) (e : ℕ) → permits k false e ≡ true → permits k mxr e ≡ true
more_permits Fetch mxr e h = h
more_permits Load mxr e h = by_test (is_r e) (λ t. rw t) (λ t. absurd (false≢true (rw t at h)))
more_permits Store mxr e h = h

pub plain_allows : (k : Kind) (mode : PrivMode) (s e : ℕ) → plain k mode s e ≡ true → (is_m (access_of k mode s).mode ≡ false) × (allows (access_of k mode s) e ≡ true)
unfolding allows
plain_allows k mode s e h =
    by_test (lends k s)
    (λ t. absurd (false≢true (rw t at h)))
    (λ t.
    let all = (and_parts (not (lends k s)) (own_page mode e && (permits k false e && marked k e)) h).1 in
    let o = own_open mode k (is_sum s) e (and_parts (own_page mode e) (permits k false e && marked k e) all).0 in
    let leaf = (and_parts (own_page mode e) (permits k false e && marked k e) all).1 in
    let p = more_permits k (is_mxr s) e (and_parts (permits k false e) (marked k e) leaf).0 in
    rw (own k mode s t) (o.0, rw (o.1, p) (and_parts (permits k false e) (marked k e) leaf).1))
