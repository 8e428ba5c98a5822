-- The flags of a page table entry (Volume II, "Sv39: Page-Based 39-bit Virtual-Memory System").
use Rattle.std.specs.Prelude.{Bool, ℕ, eqb}
use Rattle.answers.specs.Bits.{bits}

abbrev pub is_v : ℕ → Bool
is_v e = eqb (bits 0 0 e) 1

abbrev pub is_r : ℕ → Bool
is_r e = eqb (bits 1 1 e) 1

abbrev pub is_w : ℕ → Bool
is_w e = eqb (bits 2 2 e) 1

abbrev pub is_x : ℕ → Bool
is_x e = eqb (bits 3 3 e) 1

-- a user's page
abbrev pub is_user : ℕ → Bool
is_user e = eqb (bits 4 4 e) 1

-- it was accessed, and it was written to
abbrev pub is_a : ℕ → Bool
is_a e = eqb (bits 6 6 e) 1

abbrev pub is_d : ℕ → Bool
is_d e = eqb (bits 7 7 e) 1
