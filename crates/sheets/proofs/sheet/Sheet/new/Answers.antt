use Rattle.sheets.proofs.Whole.{all_kept}
use Rattle.sheets.proofs.sheet.Sheet.new.Goals as goal

pub returns-in_err-rows-clause-kept : goal.returns-in_err-rows-clause-kept
returns-in_err-rows-clause-kept g c = all_kept _ (g.met.G.Goal.lawful c.args.goal)

pub returns-in_err-memory-clause-kept : goal.returns-in_err-memory-clause-kept
returns-in_err-memory-clause-kept g c = all_kept _ (g.met.G.Goal.lawful c.args.goal)

pub returns-clause-kept : goal.returns-clause-kept
returns-clause-kept g c = all_kept _ (g.met.G.Goal.lawful c.args.goal)
