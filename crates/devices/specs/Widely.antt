-- Answers at 64 vectors at once, in machine words.
use Rattle.std.specs.Prelude.{◌≡◌, ℕ, zero, suc, ◌<◌, Bool, false, ◌&&◌, ◌||◌, List, slice_index}
use Rattle.cubes.specs.Masks.{has}
use Rattle.cubes.specs.Cubes.{vector}
use Rattle.cubes.specs.Blocks.{number_at}
use Rattle.devices.specs.Devices.{Meaning}
use Rattle.devices.specs.declared.answer.Answer.{Answer}
use Rattle.devices.specs.declared.wide.WideAnswer.{WideAnswer}

-- what a machine answers to the k-th vector of input words
abbrev pub answer_at : Meaning → ℕ → List ℕ → ℕ → Answer
answer_at m machine words k = m.answer machine (vector m.inputs (number_at m.inputs words k))

-- what words of 32 outputs say of the k-th vector is a mask of outputs
abbrev pub Column : List ℕ → ℕ → ℕ → Type 0
Column words k mask = (o : ℕ) → o < 32 → has (slice_index words o) k ≡ has mask o

-- what a wide answer says of each of the 64 vectors is what the machine answers to it
abbrev pub Answers : Meaning → ℕ → List ℕ → WideAnswer → Type 0
Answers m machine words w = (k : ℕ) → k < 64 → Column w.zeros k (answer_at m machine words k).zeros × Column w.ones k (answer_at m machine words k).ones

-- at the k-th vector, one of the first n outputs is 0 in one wide answer and 1 in the other
abbrev pub opposed : WideAnswer → WideAnswer → ℕ → ℕ → Bool
opposed a b zero k = false
opposed a b (suc o) k =
    opposed a b o k
    || ((has (slice_index a.zeros o) k && has (slice_index b.ones o) k) || (has (slice_index a.ones o) k && has (slice_index b.zeros o) k))
