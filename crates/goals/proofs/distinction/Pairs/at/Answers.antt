use Rattle.std.proofs.Common.{◌+◌, ◌-◌, sym, ap, ◌∙◌, arith}
use Rattle.std.specs.List.{slice_get}
use Rattle.goals.specs.Distinguishing.{pairs}
use Rattle.goals.specs.Pairs.{pairs_in, pairs_past}
use Rattle.goals.proofs.distinction.Pairs.at.Goals as goal

pub returns-then-beyond-left : goal.returns-then-beyond-left
returns-then-beyond-left c = sym (pairs_in (c.loop-passed.passed + 1) (c.args.self.now.n - c.loop-passed.passed) c.loop-passed.beyond (omega arith)) ∙ c.loop-passed.invariant

pub loop-passed-preserved : goal.loop-passed-preserved
loop-passed-preserved c =
    let first = c.loop-passed.passed + 1 in
    let left = c.args.self.now.n - c.loop-passed.passed in
    let fewer = c.args.self.now.n - first in
    ap (λ k. slice_get (pairs (first + 1) fewer) (c.loop-passed.beyond - k)) c.from-left.ensures
    ∙ sym (pairs_past first left fewer c.loop-passed.beyond (omega arith) (omega arith))
    ∙ c.loop-passed.invariant
