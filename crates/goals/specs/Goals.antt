-- What a goal means, and the law that every goal keeps.
use Rattle.std.specs.Prelude.{◌≡◌, ℕ, ◌^◌, ◌<◌, ◌≤◌, Bool, true, false, List, length, slice_index_or}
use Rattle.cubes.specs.Masks.{most_inputs}
use Rattle.cubes.specs.Cubes.{Refines, Agree, vector}
use Rattle.cubes.specs.declared.cube.Cube.{Cube}

-- a goal means: how many inputs its cubes have, how many duties there are (numbered from 0), which of them are
-- wanted, and which cubes cover which
pub record Meaning : Type 0 where
  pub inputs : ℕ
  pub duties : ℕ
  pub wanted : ℕ → Bool
  pub covers : Cube → ℕ → Bool

-- the most duties that a goal can have
abbrev pub most_duties : ℕ
most_duties = 65535

-- the law of a goal
pub record Lawful (m : Meaning) : Type 0 where
  pub few_inputs : m.inputs ≤ most_inputs
  pub few_duties : m.duties ≤ most_duties
  -- a duty number at or above the count is neither wanted nor covered
  pub none_wanted_above : (d : ℕ) → m.duties ≤ d → m.wanted d ≡ false
  pub none_covered_above : (c : Cube) (d : ℕ) → m.duties ≤ d → m.covers c d ≡ false
  -- if a cube covers a duty, every cube that refines it covers it too
  pub refined : (a b : Cube) (d : ℕ) → Refines a b → m.covers b d ≡ true → m.covers a d ≡ true
  -- only inputs below the goal's matter
  pub own_inputs : (a b : Cube) (d : ℕ) → Agree m.inputs a b → m.covers a d ≡ m.covers b d

-- how many vectors a goal has; they are numbered from 0
abbrev pub vectors : Meaning → ℕ
vectors m = 2 ^ m.inputs

-- the vector with number v covers duty d
abbrev pub covered_at : Meaning → ℕ → ℕ → Bool
covered_at m d v = m.covers (vector m.inputs v) d

-- a duty is coverable: some vector covers it
abbrev pub Coverable : Meaning → ℕ → Type 0
Coverable m d = (v : ℕ) × (v < vectors m) × (covered_at m d v ≡ true)

-- each entry of a list says whether the cube covers the duty of its place; so it is false at and above the count
abbrev pub Marked : Meaning → Cube → List Bool → Type 0
Marked m c marks = (d : ℕ) → d < length marks → slice_index_or marks d false ≡ m.covers c d
