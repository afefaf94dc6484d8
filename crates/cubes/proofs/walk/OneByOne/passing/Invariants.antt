-- The word marks just those of the vectors so far that pass.
use Rattle.std.proofs.Common.{◌≡◌}
use Rattle.cubes.specs.Masks.{mask_of}
use Rattle.cubes.specs.Blocks.{number_at}
use Rattle.cubes.proofs.walk.OneByOne.passing.Given as goal

abbrev pub invariant-loop-k : goal.invariant-loop-k
invariant-loop-k g l =
    let asks = g.Self.OneByOne.asks l.self in
    l.word ≡ mask_of (λ k. asks.passes (number_at asks.inputs l.words k)) l.k
