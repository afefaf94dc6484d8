use Rattle.std.proofs.Common.{ap, ◌∙◌}
use Rattle.std.specs.List.{slice_get}
use Rattle.goals.specs.Distinguishing.{pairs, tells_by}
use Rattle.goals.proofs.Walks.{by_answers}
use Rattle.goals.proofs.distinction.DistinctionGoal.mark.Goals as goal

pub returns : goal.returns
returns g c = λ d h.
    let m = g.D.Device.means c.args.self.now.device in
    c.mark.ensures d h ∙ ap (λ k. tells_by c.ask_all.new.answers (slice_get (pairs 1 k) d)) c.of.ensures ∙ by_answers m c.args.cube c.ask_all.new.answers c.ask_all.ensures (g.met.D.Device.lawful c.args.self.now.device).some_machine d
