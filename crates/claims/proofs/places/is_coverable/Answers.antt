-- Whether a duty is coverable is whether the search finds a vector.
use Rattle.std.proofs.Common.{is_some, ap, ◌∙◌}
use Rattle.cubes.proofs.Searches.{first_least}
use Rattle.goals.specs.Goals.{vectors, covered_at}
use Rattle.claims.proofs.places.is_coverable.Goals as goal

pub returns : goal.returns
returns g c =
    let m = g.G.Goal.means c.args.goal.now in
    c.is_some.ensures ∙ ap is_some (first_least (vectors m) (covered_at m c.args.duty) c.smallest_covering.result c.smallest_covering.ensures)
