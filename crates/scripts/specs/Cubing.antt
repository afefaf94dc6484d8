-- Which cube a word of letters is.
use Rattle.std.specs.Prelude.{ℕ, Bool, cond, ◌&&◌, ◌||◌, List, length, None, Option, ◌==◌, nat_eq, nat_lt, slice_index}
use Rattle.std.specs.List.{list_all}
use Rattle.cubes.specs.Masks.{mask_of}
use Rattle.cubes.specs.Cubes.{of_masks}
use Rattle.cubes.specs.declared.cube.Cube.{Cube}

-- the byte is 0, 1 or X
abbrev pub is_letter : ℕ → Bool
is_letter b = b == 48 || (b == 49 || b == 88)

-- every byte is 0, 1 or X
abbrev pub letters_only : List ℕ → Bool
letters_only bs = list_all is_letter bs

-- the inputs whose letter is this: input i has the letter at place i
abbrev pub inputs_of : ℕ → List ℕ → ℕ → ℕ
inputs_of letter bs n = mask_of (λ i. nat_eq (slice_index bs i) letter) n

-- the letters say which inputs are 0 and which are 1; an input with an X or with no letter is unknown
abbrev pub lettered : List ℕ → Option Cube
lettered bs = cond (letters_only bs) (of_masks (inputs_of 48 bs (length bs)) (inputs_of 49 bs (length bs))) None

-- a dash alone is the cube that knows nothing
abbrev pub dash : List ℕ → Bool
dash bs = length bs == 1 && slice_index bs 0 == 45

-- one to 16 letters, or a dash
abbrev pub cube_of : List ℕ → Option Cube
cube_of bs = cond (length bs == 0 || nat_lt 16 (length bs)) None (cond (dash bs) (of_masks 0 0) (lettered bs))
