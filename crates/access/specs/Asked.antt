-- What is asked for: a kind, with what is in force at the call (Volume II, "Memory Privilege in mstatus Register").
use Rattle.std.specs.Prelude.{Bool, false, cond, ℕ, eqb}
use Rattle.answers.specs.Bits.{bits}
use Rattle.csr.specs.Modes.{mode_of}
use Rattle.csr.specs.declared.PrivMode.{PrivMode}
use Rattle.access.specs.declared.Kind.{Kind}
use Rattle.access.specs.declared.Kind.TheVariants.{Fetch, Load, Store}
use Rattle.access.specs.declared.Access.{Access}

-- ---- fields of mstatus

abbrev pub mpp : ℕ → ℕ
mpp mstatus = bits 12 11 mstatus

abbrev pub is_mprv : ℕ → Bool
is_mprv mstatus = eqb (bits 17 17 mstatus) 1

abbrev pub is_sum : ℕ → Bool
is_sum mstatus = eqb (bits 18 18 mstatus) 1

abbrev pub is_mxr : ℕ → Bool
is_mxr mstatus = eqb (bits 19 19 mstatus) 1

-- ---- the effective privilege: with MPRV set, loads and stores are made as if in the mode that MPP names; fetches never are

abbrev pub lends : Kind → ℕ → Bool
lends Fetch mstatus = false
lends Load mstatus = is_mprv mstatus
lends Store mstatus = is_mprv mstatus

abbrev pub effective_mode : Kind → PrivMode → ℕ → PrivMode
effective_mode k mode mstatus = cond (lends k mstatus) (mode_of (mpp mstatus)) mode

-- what a hart in this mode, with this mstatus, asks for
unfoldable pub access_of : Kind → PrivMode → ℕ → Access
access_of k mode mstatus = record { kind = k; mode = effective_mode k mode mstatus; sum = is_sum mstatus; mxr = is_mxr mstatus }
