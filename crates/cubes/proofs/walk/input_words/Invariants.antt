use Rattle.std.proofs.Common.{ℕ, ◌+◌, ◌*◌, ◌<◌, get_or}
use Rattle.cubes.specs.Masks.{has}
use Rattle.cubes.specs.Blocks.{Marks}
use Rattle.cubes.proofs.walk.input_words.Given as goal

abbrev pub invariant-loop-input : goal.invariant-loop-input
invariant-loop-input l = (i : ℕ) → i < l.input → Marks (λ k. has (64 * l.block + k) i) (get_or l.word-items i 0)
