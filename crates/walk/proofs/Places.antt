-- The entry at an index of a table, as memory is read for it: a doubleword at a multiple of 8 is never refused in a usable memory. Assumes nothing.
use Rattle.std.proofs.Common.{◌≡◌, ℕ, ◌+◌, ◌*◌, Result, Ok, true, length, ap, ◌∙◌, arith}
use Rattle.std.specs.Result.{result_unwrap_or}
use Rattle.answers.specs.Answer.{done}
use Rattle.answers.specs.Answers.{reading}
use Rattle.answers.specs.declared.Refusal.{Refusal}
use Rattle.answers.proofs.Determined.{readings}
use Rattle.system_bus.specs.Memory.{usable, read_as, read_of}
use Rattle.system_bus.proofs.Entries.{read_aligned}
use Rattle.walk.specs.Walk.{Memory, entry, place}

pub read_entry : (m : Memory) (table i : ℕ) → usable (length m) ≡ true → read_of 8 m (table * 4096 + i * 8) ≡ done (entry m (place table i))
unfolding entry
read_entry m table i u =
    let e : table * 4096 + i * 8 ≡ 8 * (table * 512 + i) = omega arith
    in rw e (read_aligned m (table * 512 + i) u)

-- so what is read is the entry, whatever stands in for a refusal
pub entry_read : (r : Result ℕ Refusal) (m : Memory) (table i at d : ℕ) → usable (length m) ≡ true → at ≡ table * 4096 → reading r ≡ read_as (λ (v : ℕ). v) 8 m (at + i * 8)
    → result_unwrap_or r d ≡ entry m (place table i)
entry_read r m table i at d u s h =
    ap (λ (x : Result ℕ Refusal). result_unwrap_or x d) (readings r (Ok _) (h ∙ rw s (read_entry m table i u)))
