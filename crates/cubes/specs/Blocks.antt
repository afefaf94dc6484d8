-- Sixty-four vectors at once, in machine words: one word for each input, whose bit k is that input of the k-th vector; and
-- words that mark some of the 64.
use Rattle.std.specs.Prelude.{◌≡◌, ℕ, ◌+◌, ◌*◌, ◌^◌, ◌<◌, ◌≤◌, Bool, List, Some, None, Option, nat_lt, slice_index}
use Rattle.cubes.specs.Masks.{most_inputs, has, mask_of}
use Rattle.cubes.specs.Cubes.{vector}
use Rattle.cubes.specs.declared.cube.Cube.{Cube}
use Rattle.cubes.specs.declared.block.Block.{Block}

-- the number of the k-th vector that the words of n inputs hold
abbrev pub number_at : ℕ → List ℕ → ℕ → ℕ
number_at n words k = mask_of (λ i. has (slice_index words i) k) n

-- the word marks just those of the 64 vectors that pass the test
abbrev pub Marks : (ℕ → Bool) → ℕ → Type 0
Marks test word = (k : ℕ) → k < 64 → has word k ≡ test k

-- what asking for the k-th vector answers: it, or none where there are too many inputs or not so many vectors
abbrev pub VectorAt : ℕ → List ℕ → ℕ → Option Cube → Type 0
VectorAt n words k (Some c) = (n ≤ most_inputs) × (k < 64) × (c ≡ vector n (number_at n words k))
VectorAt n words k None = (n ≤ most_inputs) × (k < 64) → ⊥

-- the b-th block of the vectors of n inputs, in the order of their numbers: the words hold the vectors from 64 b on, and
-- those that there are, are marked (below 6 inputs there are fewer than 64)
pub record BlockOf (n b : ℕ) (block : Block) : Type 0 where
  pub numbered : (k : ℕ) → k < 64 → 64 * b + k < 2 ^ n → number_at n block.words k ≡ 64 * b + k
  pub present : Marks (λ k. nat_lt (64 * b + k) (2 ^ n)) block.present
