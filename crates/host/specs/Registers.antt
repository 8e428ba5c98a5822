-- The registers as 65 words: x0 to x31, pc, f0 to f31.
use Rattle.std.specs.Prelude.{List, ◌∷◌, ◌++◌, ℕ, take, drop}
use Rattle.gpr.specs.declared.Gpr.{Gpr}

abbrev pub words_of : Gpr → List ℕ
words_of g = g.x ++ g.pc ∷ g.f

-- the words from f0 on
abbrev pub floats : List ℕ → List ℕ
floats ws = drop 33 ws

-- the words with others from f0 on
abbrev pub with_floats : List ℕ → List ℕ → List ℕ
with_floats ws fs = take 33 ws ++ fs
