use Rattle.std.proofs.Common.{◌∙◌}
use Rattle.scripts.proofs.Masking.{made_cube}
use Rattle.scripts.proofs.cubing.cube_with.Goals as goal

pub returns : goal.returns
returns c = c.ok.ensures.value ∙ made_cube c.args.zeros c.args.ones c.from_masks.result c.from_masks.ensures
