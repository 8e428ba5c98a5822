-- The starred cases of document 01's inspection list: what the definitions give, beside what the list asks, and the theorem
-- that these are equal in every case. Assumes nothing.
use Rattle.std.specs.Prelude.{◌≡◌, refl, List, [], ◌∷◌, map, ℕ, ◌+◌, ◌-◌, ◌^◌, ℤ, pos, neg_ℤ, replicate}
use Rattle.std.specs.Int.Count.{count_leading_zeros}
use Rattle.std.proofs.lemmas.List.Edits.{sets}
use Rattle.answers.specs.Answer.{Answer, done}
use Rattle.answers.specs.Bits.{bits}
use Rattle.decode.specs.Immediates.{imm_i, imm_b, imm_j}
use Rattle.extensions.specs.Multiply.{mulh_of, mulhu_of, mulhsu_of}
use Rattle.extensions.specs.Divide.{div_of, remu_of}
use Rattle.csr.specs.Interrupts.{chosen, pending_interrupt}
use Rattle.csr.specs.declared.PrivMode.TheVariants.{U, S}
use Rattle.system_bus.specs.Bytes.{value_at, bytes_of}
use Rattle.system_bus.specs.Memory.{power_up_to, usable}
use Rattle.access.specs.Asked.{access_of}
use Rattle.access.specs.Allowed.{allows}
use Rattle.access.specs.declared.Kind.TheVariants.{Load}
use Rattle.walk.specs.Entries.{valid, leaf, aligned}
use Rattle.walk.specs.Walk.{Memory, entry, index_at, trail, judge, canonical, walkable, trail_of}
use Rattle.mmu.specs.Answers.{translation}
use Rattle.mmu.specs.Cache.{slot_count, new_mmu, call_of, unpaged, accepts, fresh_walk, fresh_count, live, held, matches, quick, look_cache, look, decide, slot_at, shortcut_of, outcome_on, translate}

pub record Case : Type 0 where
  pub found : Answer ℤ
  pub asked : Answer ℤ

-- a number, and an integer, where nothing is refused
abbrev number : ℕ → ℕ → Case
number f a = record { found = done (pos f); asked = done (pos a) }

abbrev integer : ℤ → ℤ → Case
integer f a = record { found = done f; asked = done a }

-- what a call tells, of numbers
abbrev naturals : Answer ℕ → Answer ℕ → Case
naturals f a = record { found = record { number = f.number; values = map pos f.values }; asked = record { number = a.number; values = map pos a.values } }

-- a load that is the first call on a new cache, made in S with SUM and MXR 0, the root table at 0x1000: the address or the fault's value, then the
-- entries read
abbrev load : Memory → ℕ → Answer ℕ
load m a = translation (translate slot_count (new_mmu slot_count) (call_of Load m a 0x8000_0000_0000_0001 S 0)).answer

abbrev answer : ℕ → ℕ → ℕ → Answer ℕ
answer number value reads = record { number = number; values = value ∷ reads ∷ [] }

-- 16384 bytes, zero, and an entry put into them
abbrev cleared : Memory
cleared = replicate 16384 0

abbrev put : Memory → ℕ → ℕ → Memory
put m at e = sets m at (bytes_of 8 e)

-- a leaf in the root table; a leaf behind two pointers
abbrev one_leaf : Memory
one_leaf = put cleared 0x1000 0xcf

abbrev three_levels : Memory
three_levels = put (put (put cleared 0x1000 0x801) 0x2000 0xc01) 0x3000 0x14cf

abbrev pub starred : List Case
starred =
    -- 0xFFF00093: opcode 0x13, rd 1, rs1 0, I-immediate -1
    number (bits 6 0 0xfff0_0093) 0x13
    ∷ number (bits 11 7 0xfff0_0093) 1
    ∷ number (bits 19 15 0xfff0_0093) 0
    ∷ integer (imm_i 0xfff0_0093) (neg_ℤ (pos 1))
    -- 0xFE000EE3: B-immediate -4; 0x80000063: -4096
    ∷ integer (imm_b 0xfe00_0ee3) (neg_ℤ (pos 4))
    ∷ integer (imm_b 0x8000_0063) (neg_ℤ (pos 4096))
    -- 0x8000006F: J-immediate -1048576
    ∷ integer (imm_j 0x8000_006f) (neg_ℤ (pos 1048576))
    -- of 2^64-1 twice: mulhu 2^64-2, mulh 0, mulhsu 2^64-1
    ∷ number (mulhu_of (2 ^ 64 - 1) (2 ^ 64 - 1)) (2 ^ 64 - 2)
    ∷ number (mulh_of (2 ^ 64 - 1) (2 ^ 64 - 1)) 0
    ∷ number (mulhsu_of (2 ^ 64 - 1) (2 ^ 64 - 1)) (2 ^ 64 - 1)
    -- divw of 0x180000000 by 0xFFFFFFFF: 0xFFFFFFFF80000000; remuw of 0x80000000 by 0: the same
    ∷ number (div_of 32 0x1_8000_0000 0xffff_ffff) 0xffff_ffff_8000_0000
    ∷ number (remu_of 32 0x8000_0000 0) 0xffff_ffff_8000_0000
    -- pending and enabled, in U, none delegated: bits 13 and 1 give 1; bits 12 and 13 give 13
    ∷ naturals (pending_interrupt (2 ^ 13 + 2 ^ 1) (2 ^ 13 + 2 ^ 1) 0 0xa_0000_0000 U) (done 1)
    ∷ naturals (pending_interrupt (2 ^ 12 + 2 ^ 13) (2 ^ 12 + 2 ^ 13) 0 0xa_0000_0000 U) (done 13)
    -- 0xCF at 0x1000: a load of 0x3FFFFFFF gives it after 1 read; one of 0x40000000 faults
    ∷ naturals (load one_leaf 0x3fff_ffff) (answer 0 0x3fff_ffff 1)
    ∷ naturals (load one_leaf 0x4000_0000) (answer 13 0x4000_0000 1)
    -- 0x801 at 0x1000, 0xC01 at 0x2000, 0x14CF at 0x3000: a load of 0x123 gives 0x5123 after 3 reads
    ∷ naturals (load three_levels 0x123) (answer 0 0x5123 3)
    ∷ []

pub as_asked : map (λ (c : Case). c.found) starred ≡ map (λ (c : Case). c.asked) starred
unfolding chosen count_leading_zeros power_up_to usable value_at bytes_of valid leaf access_of allows aligned entry index_at trail judge canonical walkable trail_of new_mmu unpaged accepts fresh_walk fresh_count live held matches quick look_cache look decide slot_at shortcut_of outcome_on translate
as_asked = refl
