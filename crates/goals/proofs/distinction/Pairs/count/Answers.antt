use Rattle.std.proofs.Common.{◌+◌, ◌*◌, ◌/◌, ap, ◌∙◌}
use Rattle.goals.specs.Pairs.{pairs_length}
use Rattle.goals.proofs.distinction.Pairs.count.Goals as goal

pub returns : goal.returns
returns c = ap (λ k. k * (k + 1) / 2) c.from-n.ensures ∙ pairs_length c.args.self.now.n 1
