use Rattle.std.proofs.Common.{◌*◌, ◌^◌}
use Rattle.cubes.proofs.Walks.{NoneYet}
use Rattle.cubes.proofs.walk.smallest.Given as goal

abbrev pub invariant-loop-number : goal.invariant-loop-number
invariant-loop-number g l = NoneYet (g.Q.Question.asks l.question).passes (2 ^ (g.Q.Question.asks l.question).inputs) (64 * l.number)
