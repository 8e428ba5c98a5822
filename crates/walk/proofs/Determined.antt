-- A walk's answer is known by its number and values. Assumes nothing.
use Rattle.answers.specs.declared.Refusal.{Refusal}
use Rattle.std.proofs.Common.{Ok, Err, ◌≡◌, ℕ, List, [], ◌∷◌, refl, ap}
use Rattle.answers.proofs.Determined.{told_apart, named, named_undone}
use Rattle.walk.specs.Walked.{Walked, found_at, walked}
use Rattle.access.specs.declared.Kind.{Kind}
use Rattle.walk.specs.declared.Failure.TheVariants.{Fault, Refused}

abbrev walked_by : ℕ → List ℕ → Walked
walked_by k [] = Err (Refused (named k))
walked_by k (n ∷ []) = Err (Fault n)
walked_by k (a ∷ e ∷ []) = Err (Refused (named k))
walked_by k (a ∷ e ∷ n ∷ vs) = found_at a e n

walked_undone : (k : Kind) (x : Walked) → walked_by (walked k x).number (walked k x).values ≡ x
walked_undone k (Ok f) = refl
walked_undone k (Err (Fault n)) = refl
walked_undone k (Err (Refused e)) = ap (λ (y : Refusal). Err (Refused y)) (named_undone e)

pub walkings : (k : Kind) (x y : Walked) → walked k x ≡ walked k y → x ≡ y
walkings k = told_apart (walked k) (λ t. walked_by t.number t.values) (walked_undone k)
