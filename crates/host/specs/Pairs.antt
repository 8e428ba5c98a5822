-- What an atomic operation leaves in two words: what it returns, and the new memory value.
use Rattle.std.specs.Prelude.{List, [], ◌∷◌, ℕ}

abbrev pub words : ℕ × ℕ → List ℕ
words a = a.0 ∷ a.1 ∷ []
