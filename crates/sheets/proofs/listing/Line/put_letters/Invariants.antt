use Rattle.std.proofs.Common.{◌≡◌}
use Rattle.texts.specs.Texts.{placed}
use Rattle.sheets.specs.Listing.{row_letters}
use Rattle.sheets.proofs.listing.Line.put_letters.Given as goal

abbrev pub invariant-loop-input : goal.invariant-loop-input
invariant-loop-input l = l.text ≡ placed l.initial.text l.at (row_letters l.input l.self.row.now)
