-- The lines of a text and the words of a line.
use Rattle.std.specs.Prelude.{ℕ, ◌-◌, Bool, cond, not, ◌||◌, List, map, filter, length, take, ◌==◌, slice_index}
use Rattle.std.specs.List.{slice_split}
use denote.Bor.{Bor}

-- the bytes of each part of a text that is lent
abbrev pub texts : List (Bor (List ℕ)) → List (List ℕ)
texts ps = map (λ p. p.now) ps

-- a space or a tab
abbrev pub blank : ℕ → Bool
blank b = b == 32 || b == 9

-- the line without a carriage return at its end
abbrev pub bare : List ℕ → List ℕ
bare bs = cond (slice_index bs (length bs - 1) == 13) (take (length bs - 1) bs) bs

-- the words of a line: what stands between its blanks, where that is not empty
abbrev pub words_of : List ℕ → List (List ℕ)
words_of bs = filter (λ w. not (length w == 0)) (slice_split blank bs)

-- the lines of a text: what stands between its line feeds
abbrev pub lines_of : List ℕ → List (List ℕ)
lines_of bs = slice_split (λ b. b == 10) bs
