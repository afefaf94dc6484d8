-- Where the text has no such place, a write there would change nothing either.
use Rattle.std.proofs.Common.{◌≤◌, length, arith}
use Rattle.std.proofs.lemmas.List.{set_past}
use Rattle.texts.proofs.writing.put.Goals as goal

pub returns-else-at-text : goal.returns-else-at-text
returns-else-at-text c = let past : length c.args.text.now ≤ c.args.at = omega arith in rw set_past
