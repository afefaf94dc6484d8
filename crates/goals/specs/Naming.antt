-- Numbers that a list names.
use Rattle.std.specs.Prelude.{ℕ, Bool, true, false, not, ◌&&◌, ◌||◌, List, [], ◌∷◌, ◌==◌}

-- the list names d
abbrev pub names : List ℕ → ℕ → Bool
names [] d = false
names (x ∷ xs) d = x == d || names xs d

-- none is named twice
abbrev pub all_once : List ℕ → Bool
all_once [] = true
all_once (x ∷ xs) = not (names xs x) && all_once xs
