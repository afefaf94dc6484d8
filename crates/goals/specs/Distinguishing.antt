-- Distinction: the duties are the pairs of faulty machines, and a pair is covered by what tells the two apart; all are wanted.
use Rattle.std.specs.Prelude.{◌≡◌, ℕ, zero, suc, ◌+◌, ◌-◌, ◌<◌, ◌≤◌, Bool, false, ◌⊎◌, List, [], ◌∷◌, ◌++◌, length, Some, None, Option, nat_lt, slice_index_or}
use Rattle.std.specs.List.{slice_get}
use Rattle.cubes.specs.declared.cube.Cube.{Cube}
use Rattle.devices.specs.Devices as device
use Rattle.devices.specs.Devices.{told_apart, unknown}
use Rattle.devices.specs.declared.answer.Answer.{Answer}
use Rattle.goals.specs.Goals.{Meaning}

-- i with each of n machines from j on: (i, j), (i, j + 1), ...
abbrev pub with_each : ℕ → ℕ → ℕ → List (ℕ × ℕ)
with_each i j zero = []
with_each i j (suc n) = (i, j) ∷ with_each i (j + 1) n

-- the pairs of the machines from i to i + n: those with i first, then the others
abbrev pub pairs : ℕ → ℕ → List (ℕ × ℕ)
pairs i zero = []
pairs i (suc n) = with_each i (i + 1) (suc n) ++ pairs (i + 1) n

-- the pairs of a device's faulty machines, which are all but machine 0
abbrev pub faulty_pairs : device.Meaning → List (ℕ × ℕ)
faulty_pairs m = pairs 1 (m.machines - 2)

abbrev pub tells_pair : device.Meaning → Cube → Option (ℕ × ℕ) → Bool
tells_pair m c None = false
tells_pair m c (Some x) = told_apart (m.answer x.0 c) (m.answer x.1 c)

abbrev pub distinction : device.Meaning → Meaning
distinction m = record {
  inputs = m.inputs;
  duties = length (faulty_pairs m);
  wanted = λ d. nat_lt d (length (faulty_pairs m));
  covers = λ c d. tells_pair m c (slice_get (faulty_pairs m) d);
}

-- what the answers in a list tell of a pair
abbrev pub tells_by : List Answer → Option (ℕ × ℕ) → Bool
tells_by answers None = false
tells_by answers (Some x) = told_apart (slice_index_or answers x.0 unknown) (slice_index_or answers x.1 unknown)

-- the list begins with the answers of all machines
pub record Answered (m : device.Meaning) (c : Cube) (answers : List Answer) : Type 0 where
  pub each : (k : ℕ) (d : Answer) → k < m.machines → slice_index_or answers k d ≡ m.answer k c

-- the list has just the pairs of the machines a to z, the smaller first, in rising order
pub record InOrder (a z : ℕ) (ps : List (ℕ × ℕ)) : Type 0 where
  pub each : (d : ℕ) (x : ℕ × ℕ) → slice_get ps d ≡ Some x → (a ≤ x.0) × (x.0 < x.1) × (x.1 ≤ z)
  pub all : (i j : ℕ) → a ≤ i → i < j → j ≤ z → (d : ℕ) × (slice_get ps d ≡ Some (i, j))
  pub rising : (d e : ℕ) (x y : ℕ × ℕ) → d < e → slice_get ps d ≡ Some x → slice_get ps e ≡ Some y → ((x.0 < y.0) ⊎ ((x.0 ≡ y.0) × (x.1 < y.1)))
