-- The common case of what a leaf allows: what it does whatever SUM and MXR are, to a hart whose own mode counts.
use Rattle.std.specs.Prelude.{Bool, false, not, ◌&&◌, ℕ}
use Rattle.csr.specs.declared.PrivMode.{PrivMode}
use Rattle.csr.specs.declared.PrivMode.TheVariants.{U, S, M}
use Rattle.access.specs.Flags.{is_user}
use Rattle.access.specs.Asked.{lends}
use Rattle.access.specs.Allowed.{permits, marked}
use Rattle.access.specs.declared.Kind.{Kind}

-- a page of the mode's own: a user's to U, another to S
abbrev pub own_page : PrivMode → ℕ → Bool
own_page U e = is_user e
own_page S e = not (is_user e)
own_page M e = false

abbrev pub plain : Kind → PrivMode → ℕ → ℕ → Bool
plain k mode mstatus e = not (lends k mstatus) && (own_page mode e && (permits k false e && marked k e))
