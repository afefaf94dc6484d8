use Rattle.std.proofs.Common.{◌≡◌, ℕ, ◌<◌, ◌≤◌, List, get_or, Some, None, Option, ap, ◌∙◌, arith}
use Rattle.cubes.specs.declared.cube.Cube.{Cube}
use Rattle.cubes.specs.Masks.{has}
use Rattle.cubes.specs.Cubes.{vector, Numbered}
use Rattle.cubes.specs.Blocks.{number_at, VectorAt}
use Rattle.cubes.proofs.Bits.{mask_of_lt}
use Rattle.cubes.proofs.wide.vector_at.Goals as goal

-- a number that words hold is that of a vector
numbered : (n : ℕ) (words : List ℕ) (k v : ℕ) (o : Option Cube) → n ≤ 16 → k < 64 → v ≡ number_at n words k → Numbered n v o → VectorAt n words k o
numbered n words k v (Some c) few h e is = (few, h, is.1 ∙ ap (vector n) e)
numbered n words k v None few h e is = λ _. is (few, let l = mask_of_lt (λ i. has (get_or words i 0) k) n in omega arith)

pub returns : goal.returns
returns c = numbered c.args.inputs c.args.words.now c.args.k c.number_at.result c.vector.result (omega arith) (omega arith) c.number_at.ensures c.vector.ensures
