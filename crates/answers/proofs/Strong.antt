-- Laws by which a contract is shown to be strong. Assumes nothing.
use mathlib.Core.Path.{◌≡◌, sym, ◌∙◌}
use mathlib.Core.List.{List}
use Prim.Native.Nat.{ℕ}
use contract.Lifetimes.{Lfts}
use denote.Triple.Clauses.{Lasts}
use borrow.Fn.Kinds.{ParamKind, ResultKind, In, Dens, res_t, ended_of}
use Rattle.answers.specs.Strong.{Strong}

-- one that takes anything and names its answer by an equation, where nothing is lent to be changed
pub equation : {n : ℕ} {ps : List (ParamKind n)} {r : ResultKind n} {v : (κs : Lfts n) (a : Dens κs ps) → (res_t r κs).Denot}
    → ((κs : Lfts n) (a : Dens κs ps) (e f : Lasts (ended_of n ps r) κs a) → e ≡ f)
    → Strong n ps r (λ κs a. Unit {0}) (λ κs a x e. x ≡ v κs a)
equation none = record { total = λ κs a. tt; determined = λ κs a x y e f p q. (p ∙ sym q, none κs a e f) }

-- the same of a generic function, which asks that its types outlive the call
pub generic : {n : ℕ} {ps : List (ParamKind n)} {r : ResultKind n} {P : In n ps} {v : (κs : Lfts n) (a : Dens κs ps) → (res_t r κs).Denot}
    → ((κs : Lfts n) (a : Dens κs ps) → P κs a)
    → ((κs : Lfts n) (a : Dens κs ps) (e f : Lasts (ended_of n ps r) κs a) → e ≡ f)
    → Strong n ps r P (λ κs a x e. x ≡ v κs a)
generic lives none = record { total = lives; determined = λ κs a x y e f p q. (p ∙ sym q, none κs a e f) }

-- last values, one behind the other
pub both : {A B : Type 0} {a a' : A} {b b' : B} → a ≡ a' → b ≡ b' → ◌≡◌ {A = A × B} (a, b) (a', b')
both p q i = (p i, q i)
