use Rattle.std.proofs.Common.{◌≡◌}
use Rattle.cubes.specs.Blocks.{number_at}
use Rattle.cubes.proofs.wide.number_at.Given as goal

abbrev pub invariant-loop-input : goal.invariant-loop-input
invariant-loop-input l = l.number ≡ number_at l.input l.words l.k
