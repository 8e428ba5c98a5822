-- What privilege keeps out, whatever was cached before, for whom and under which SUM and MXR. Assumes nothing.
use mathlib.Core.Path.{◌≡◌, ap, ◌∙◌}
use mathlib.Core.Bool.{Bool, true, cond, ◌&&◌}
use mathlib.Core.List.{List}
use Prim.Native.Nat.{ℕ, ◌^◌, ◌<◌}
use Rattle.access.specs.Allowed.{Closed}
use Rattle.access.proofs.Shut.{shut}
use Rattle.walk.specs.Entries.{aligned}
use Rattle.walk.specs.Walk.{found, lost, target, judge, Stop}
use Rattle.mmu.specs.Answers.{without_reads}
use Rattle.mmu.specs.Cache.{new_mmu, Call, fresh_walk, translate}
use Rattle.mmu.specs.History.{Event, run, paged, Undisturbed, reached_answer, fresh_answer, faulted, LeafOf}
use Rattle.mmu.proofs.Demand.{demand3}

-- a fresh walk to such a leaf is lost
pub fresh_shut : (c : Call) (level e : ℕ) → LeafOf c level e → Closed c.access e → fresh_answer c ≡ faulted c
unfolding fresh_walk judge
fresh_shut c level e at h =
    ap (λ (s : Stop). reached_answer c (judge c.access c.address s)) at
    ∙ ap (λ (b : Bool). reached_answer c (cond (b && aligned level e) (found (target level e c.address) e) lost)) (shut c.access e h)

-- A load, store or fetch made in U gets no address on a page whose leaf has U clear, and one made in S with SUM 0 none on a page with U set, nor one that S
-- fetches: after any history under demand 3's conditions it is a page fault.
pub kept_out : (n : ℕ) (h : List Event) (c : Call) (level e : ℕ) → c.address < 2 ^ 64 → paged c ≡ true → Undisturbed h c
    → LeafOf c level e → Closed c.access e → without_reads (translate n (run n (new_mmu n) h) c).answer ≡ faulted c
kept_out n h c level e small p g at shuts = demand3 n h c small p g ∙ fresh_shut c level e at shuts
