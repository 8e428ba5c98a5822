-- What a leaf entry allows (Volume II, "Virtual Address Translation Process", and SUM and MXR in "Memory Privilege in mstatus Register").
use Rattle.std.specs.Prelude.{◌≡◌, Bool, true, false, cond, ◌&&◌, ◌||◌, ℕ}
use Rattle.csr.specs.declared.PrivMode.{PrivMode}
use Rattle.csr.specs.declared.PrivMode.TheVariants.{U, S, M}
use Rattle.access.specs.Flags.{is_r, is_w, is_x, is_user, is_a, is_d}
use Rattle.access.specs.declared.Kind.{Kind}
use Rattle.access.specs.declared.Kind.TheVariants.{Fetch, Load, Store}
use Rattle.access.specs.declared.Access.{Access}

-- a user's page, to S: with SUM, and never to fetch
abbrev pub shared : Kind → Bool → Bool
shared Fetch sum = false
shared Load sum = sum
shared Store sum = sum

-- whose page it is. No table is asked for M, and no leaf is open to it.
abbrev pub open_to : PrivMode → Kind → Bool → ℕ → Bool
open_to U k sum e = is_user e
open_to S k sum e = cond (is_user e) (shared k sum) true
open_to M k sum e = false

abbrev pub opens : Access → ℕ → Bool
opens x e = open_to x.mode x.kind x.sum e

-- what it may be used for: X for fetch; R for load or, with MXR, X; W for store
abbrev pub permits : Kind → Bool → ℕ → Bool
permits Fetch mxr e = is_x e
permits Load mxr e = is_r e || (mxr && is_x e)
permits Store mxr e = is_w e

-- A is set and, for a store, D (step 7, as the extension Svade has it: no entry is ever updated)
abbrev pub marked : Kind → ℕ → Bool
marked Fetch e = is_a e
marked Load e = is_a e
marked Store e = is_a e && is_d e

-- steps 5 and 7
unfoldable pub allows : Access → ℕ → Bool
allows x e = opens x e && (permits x.kind x.mxr e && marked x.kind e)

-- a page that is closed to an access, whatever R, W and X it has: a page of S to U; a user's page to S without SUM, and to S that fetches
pub data Closed (x : Access) (e : ℕ) : Type 0 where
  to_user : x.mode ≡ U → is_user e ≡ false → Closed x e
  to_supervisor : x.mode ≡ S → x.sum ≡ false → is_user e ≡ true → Closed x e
  to_fetch : x.mode ≡ S → x.kind ≡ Fetch → is_user e ≡ true → Closed x e
