-- When a claim is accepted, and what an accepted claim says.
use Rattle.std.specs.Prelude.{◌≡◌, ℕ, ◌<◌, ◌≤◌, Bool, true, false, ◌||◌, List, [], ◌∷◌, length, Ok, Result, ◌≢◌, slice_index}
use Rattle.cubes.specs.declared.cube.Cube.{Cube}
use Rattle.goals.specs.Goals.{Meaning, vectors, covered_at, Coverable}
use Rattle.claims.specs.declared.refusal.ClaimRefusal.{ClaimRefusal}

-- at most 256 duties, none named twice, each wanted and coverable, and no vector covers two of them
pub record Independent (m : Meaning) (ds : List ℕ) : Type 0 where
  pub few : length ds ≤ 256
  pub none_twice : (q p : ℕ) → q < p → p < length ds → slice_index ds q ≢ slice_index ds p
  pub each_wanted : (p : ℕ) → p < length ds → m.wanted (slice_index ds p) ≡ true
  pub each_coverable : (p : ℕ) → p < length ds → Coverable m (slice_index ds p)
  pub no_two : (v : ℕ) → v < vectors m → (q p : ℕ) → q < p → p < length ds → covered_at m (slice_index ds q) v ≡ true → covered_at m (slice_index ds p) v ≢ true

-- one of the cubes covers the duty
abbrev pub covered_by : Meaning → List Cube → ℕ → Bool
covered_by m [] d = false
covered_by m (c ∷ cs) d = m.covers c d || covered_by m cs d

-- the cubes cover all duties that are wanted and coverable
abbrev pub Complete : Meaning → List Cube → Type 0
Complete m cubes = (d : ℕ) → m.wanted d ≡ true → Coverable m d → covered_by m cubes d ≡ true

-- a verdict on a claim: it is accepted exactly when its duties are independent, with how many they are; and then every
-- list of cubes that covers all wanted coverable duties has at least that many cubes
pub record Bound (m : Meaning) (ds : List ℕ) (verdict : Result ℕ ClaimRefusal) : Type 0 where
  pub accepted : Independent m ds → verdict ≡ Ok (length ds)
  pub only_then : (n : ℕ) → verdict ≡ Ok n → Independent m ds × (n ≡ length ds)
  pub no_shorter : (n : ℕ) → verdict ≡ Ok n → (cubes : List Cube) → Complete m cubes → n ≤ length cubes
