-- Which mode it is, by the derived equality and by cases. Assumes nothing.
use mathlib.Core.Path.{◌≡◌, refl}
use denote.Enum.Bare.{sameb}
use Rattle.csr.specs.Modes.{is_s, is_m}
use Rattle.csr.specs.contracts.PrivMode.{the_type}
use Rattle.csr.specs.declared.PrivMode.{PrivMode}
use Rattle.csr.specs.declared.PrivMode.TheVariants.{U, S, M}

pub same_s : (m : PrivMode) → sameb the_type m S ≡ is_s m
same_s U = refl
same_s S = refl
same_s M = refl

pub same_m : (m : PrivMode) → sameb the_type m M ≡ is_m m
same_m U = refl
same_m S = refl
same_m M = refl
