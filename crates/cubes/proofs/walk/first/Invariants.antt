-- No vector below passes.
use Rattle.cubes.specs.Searching.{NoneBelow}
use Rattle.cubes.proofs.walk.first.Given as goal

abbrev pub invariant-loop-number : goal.invariant-loop-number
invariant-loop-number g l = NoneBelow l.number (g.Q.OneByOne.asks l.question).passes
