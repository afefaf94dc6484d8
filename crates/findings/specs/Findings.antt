-- What the program prints of a device.
use Rattle.std.specs.Prelude.{◌≡◌, ℕ, ◌<◌, List, [], ◌∷◌, ◌++◌, length, Some, None, codes, decimal, Option, slice_index_or}
use Rattle.std.specs.List.{flat_map}
use Rattle.cubes.specs.Cubes.{vector, IsVector, letters}
use Rattle.cubes.specs.Searching.{First}
use Rattle.devices.specs.Devices.{Meaning}
use Rattle.devices.specs.Deciding.{vectors, tells, Label}
use Rattle.findings.specs.declared.finding.Finding.{Finding}

-- what is found out about machine k: its label, and the smallest vector that tells it from the good card, if one does
pub record Found (m : Meaning) (k : ℕ) (f : Finding) : Type 0 where
  pub machine : f.machine ≡ k
  pub label : Label m k f.label
  pub shown : First (vectors m) (tells m 0 k) f.shown

-- what stands for a finding past the end of a list
abbrev pub no_finding : Finding
no_finding = record { machine = 0; label = 0; shown = None }

-- what is found out about each machine, from machine 0 up
abbrev pub FoundAll : Meaning → List Finding → Type 0
FoundAll m fs = (length fs ≡ m.machines) × ((k : ℕ) → k < m.machines → Found m k (slice_index_or fs k no_finding))

-- there is a vector with the number that is to be shown, if one is
abbrev pub IsShown : ℕ → Option ℕ → Type 0
IsShown n None = Unit {0}
IsShown n (Some v) = IsVector n v

-- the letters of a vector, or `-` where there is none
abbrev pub shown_as : ℕ → Option ℕ → List ℕ
shown_as n None = codes "-"
shown_as n (Some v) = letters n (vector n v)

-- the line of a machine: number and label in decimal, then the letters, parted by blanks, and a line feed
abbrev pub line : ℕ → Finding → List ℕ
line n f = decimal f.machine ++ (32 ∷ (decimal f.label ++ (32 ∷ (shown_as n f.shown ++ (10 ∷ [])))))

-- the text is the lines of all machines of the device, from machine 0 up
abbrev pub Report : Meaning → List ℕ → Type 0
Report m text = (fs : List Finding) × FoundAll m fs × (text ≡ flat_map (line m.inputs) fs)
