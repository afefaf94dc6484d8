-- What a device means, and the laws that every device shows.
use Rattle.std.specs.Prelude.{◌≡◌, ℕ, ◌^◌, ◌<◌, ◌≤◌, Bool, ◌||◌, ◌⊎◌, ◌≢◌}
use Rattle.cubes.specs.Masks.{most_inputs, bit, share}
use Rattle.cubes.specs.Cubes.{Refines, Agree, vector}
use Rattle.cubes.specs.declared.cube.Cube.{Cube}
use Rattle.devices.specs.declared.answer.Answer.{Answer}

-- a device means four things: how many inputs, outputs and machines it has, and what each machine answers to
-- each cube; machine 0 is the good card, each other has one fault
pub record Meaning : Type 0 where
  pub inputs : ℕ
  pub outputs : ℕ
  pub machines : ℕ
  pub answer : ℕ → Cube → Answer

-- output o is 0 or 1 in the answer
abbrev pub Known : Answer → ℕ → Type 0
Known a o = (bit a.zeros o ≡ 1) ⊎ (bit a.ones o ≡ 1)

-- the answer that says nothing
abbrev pub unknown : Answer
unknown = record { zeros = 0; ones = 0 }

-- two answers are told apart: some output is 0 in one and 1 in the other (unknown against 1 is not told apart)
abbrev pub told_apart : Answer → Answer → Bool
told_apart a b = share a.zeros b.ones || share a.ones b.zeros

-- the laws of a device
pub record Lawful (m : Meaning) : Type 0 where
  -- the limits of its counts
  pub few_inputs : m.inputs ≤ most_inputs
  pub few_outputs : m.outputs ≤ 32
  pub some_machine : 0 < m.machines
  pub few_machines : m.machines ≤ 256
  -- a machine that does not exist answers nothing
  pub no_machine : (k : ℕ) (c : Cube) → m.machines ≤ k → m.answer k c ≡ unknown
  -- no output is both 0 and 1
  pub not_both : (k : ℕ) (c : Cube) (o : ℕ) → bit (m.answer k c).zeros o ≡ 1 → bit (m.answer k c).ones o ≢ 1
  -- no output at or above the count is known
  pub none_above : (k : ℕ) (c : Cube) (o : ℕ) → m.outputs ≤ o → Known (m.answer k c) o → ⊥
  -- only inputs below the count matter
  pub own_inputs : (k : ℕ) (a b : Cube) → Agree m.inputs a b → m.answer k a ≡ m.answer k b
  -- where a cube is refined, each known output stays known with its value
  pub refined : (k : ℕ) (a b : Cube) (o : ℕ) → Refines a b →
      (bit (m.answer k b).zeros o ≡ 1 → bit (m.answer k a).zeros o ≡ 1) × (bit (m.answer k b).ones o ≡ 1 → bit (m.answer k a).ones o ≡ 1)
  -- at a vector, all machines have the same outputs unknown
  pub alike : (i j v o : ℕ) → i < m.machines → j < m.machines → v < 2 ^ m.inputs →
      Known (m.answer i (vector m.inputs v)) o → Known (m.answer j (vector m.inputs v)) o
