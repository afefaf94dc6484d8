-- Telling machines apart: what decide and labels promise.
use Rattle.std.specs.Prelude.{◌≡◌, ℕ, ◌^◌, ◌<◌, ◌≤◌, Bool, List, length, Some, None, Option, Ok, Err, Result, slice_index}
use Rattle.cubes.specs.Cubes.{vector}
use Rattle.cubes.specs.Searching.{NoneBelow, Smallest}
use Rattle.devices.specs.Devices.{Meaning, told_apart}
use Rattle.devices.specs.declared.refusal.Refusal.{Refusal}
use Rattle.devices.specs.declared.refusal.Refusal.TheVariants.{NoSuchMachine, ListTooShort}

-- the number of a refusal
abbrev pub number : Refusal → ℕ
number NoSuchMachine = 10
number ListTooShort = 11

-- how many vectors a device has; they are numbered from 0
abbrev pub vectors : Meaning → ℕ
vectors m = 2 ^ m.inputs

-- the vector with this number tells machines i and j apart
abbrev pub tells : Meaning → ℕ → ℕ → ℕ → Bool
tells m i j v = told_apart (m.answer i (vector m.inputs v)) (m.answer j (vector m.inputs v))

-- two machines are equivalent: no vector tells them apart
abbrev pub EquivalentMachines : Meaning → ℕ → ℕ → Type 0
EquivalentMachines m i j = NoneBelow (vectors m) (tells m i j)

-- both machines exist
abbrev pub Exist : Meaning → ℕ → ℕ → Type 0
Exist m i j = (i < m.machines) × (j < m.machines)

-- a verdict that is true of machines i and j: none where they are equivalent, or the smallest vector that tells them apart
abbrev pub TrueVerdict : Meaning → ℕ → ℕ → Option ℕ → Type 0
TrueVerdict m i j None = EquivalentMachines m i j
TrueVerdict m i j (Some v) = Smallest (vectors m) (tells m i j) v

-- what decide answers
abbrev pub Decided : Meaning → ℕ → ℕ → Result (Option ℕ) Refusal → Type 0
Decided m i j (Ok v) = Exist m i j × TrueVerdict m i j v
Decided m i j (Err e) = (Exist m i j → ⊥) × (e ≡ NoSuchMachine)

-- r is the smallest machine that is equivalent to machine k
abbrev pub Label : Meaning → ℕ → ℕ → Type 0
Label m k r = (r < m.machines) × EquivalentMachines m r k × ((j : ℕ) → j < r → EquivalentMachines m j k → ⊥)

-- what labels answers, and what the list then holds: the label of each machine, and beyond what it held;
-- where it is refused, just what it held
abbrev pub Labelled : Meaning → List ℕ → List ℕ → Result (Unit {0}) Refusal → Type 0
Labelled m before after (Ok _) =
    (m.machines ≤ length before) × (length after ≡ length before)
    × ((k : ℕ) → k < m.machines → Label m k (slice_index after k))
    × ((k : ℕ) → m.machines ≤ k → slice_index after k ≡ slice_index before k)
Labelled m before after (Err e) = (length before < m.machines) × (after ≡ before) × (e ≡ ListTooShort)
