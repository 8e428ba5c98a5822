-- satp's mode (Volume II, "Supervisor Address Translation and Protection Register (satp)"): which tables it names, if any.
use Rattle.std.specs.Prelude.{Bool, ◌||◌, ℕ, eqb}
use Rattle.answers.specs.Bits.{bits}

-- no translation
abbrev pub is_bare : ℕ → Bool
is_bare satp = eqb (bits 63 60 satp) 0

-- 39-bit virtual addresses, three levels of tables
abbrev pub is_sv39 : ℕ → Bool
is_sv39 satp = eqb (bits 63 60 satp) 8

-- a mode that a hart like this one has: a write of satp with another has no effect
abbrev pub supported : ℕ → Bool
supported satp = is_bare satp || is_sv39 satp
