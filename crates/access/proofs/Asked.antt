-- Whose mode an access has: the hart's own, unless MPRV lends a load or a store another. Assumes nothing.
use mathlib.Core.Path.{◌≡◌, refl}
use mathlib.Core.Bool.{false}
use Prim.Native.Nat.{ℕ}
use Rattle.csr.specs.declared.PrivMode.{PrivMode}
use Rattle.access.specs.Asked.{is_mprv, access_of}
use Rattle.access.specs.declared.Kind.{Kind}
use Rattle.access.specs.declared.Kind.TheVariants.{Fetch, Load, Store}

-- a fetch is made in the hart's own mode, whatever mstatus is
pub fetch_own : (mode : PrivMode) (mstatus : ℕ) → (access_of Fetch mode mstatus).mode ≡ mode
unfolding access_of
fetch_own mode mstatus = refl

-- so is all else while MPRV is clear
pub own : (k : Kind) (mode : PrivMode) (mstatus : ℕ) → is_mprv mstatus ≡ false → (access_of k mode mstatus).mode ≡ mode
unfolding access_of
own Fetch mode mstatus h = refl
own Load mode mstatus h = rw h
own Store mode mstatus h = rw h
