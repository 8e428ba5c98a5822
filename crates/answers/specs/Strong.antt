-- How strong a public function's contract is to be ("How strong each statement has to be"). `Pre` and `Post` are the contract as the prover reads
-- it: of the arguments a; and of these, the answer, and the last values of what is lent.
use Rattle.std.specs.Prelude.{◌≡◌, List, ℕ}
use contract.Lifetimes.{Lfts}
use denote.Triple.Clauses.{Lasts, at_exit}
use borrow.Fn.Kinds.{ParamKind, ResultKind, In, Out, Dens, res_t, ended_of}
use contract.BorrowLft.{◌⊑◌}
use base.Fml.{Lft}
use denote.RattleType.{RattleType}

pub record Strong (n : ℕ) (ps : List (ParamKind n)) (r : ResultKind n) (Pre : In n ps) (Post : Out n ps r) : Type 0 where
  -- it takes anything
  pub total : (κs : Lfts n) (a : Dens κs ps) → Pre κs a
  -- any two outcomes that it allows coincide: the answers x and y, and the last values e and f
  pub determined : (κs : Lfts n) (a : Dens κs ps) (x y : (res_t r κs).Denot) (e f : Lasts (ended_of n ps r) κs a)
      → Post κs a x (at_exit (ended_of n ps r) κs a e) → Post κs a y (at_exit (ended_of n ps r) κs a f) → (x ≡ y) × (e ≡ f)

-- What a generic function's contract asks of a type by itself: that the type outlives the call. One that holds no reference does. The contract of such
-- a function is to be strong at every such type, whatever the type's impl of the bounds says.
abbrev pub Lasting : RattleType → Type 0
Lasting T = (κ : Lft) → κ ⊑ T.lives
