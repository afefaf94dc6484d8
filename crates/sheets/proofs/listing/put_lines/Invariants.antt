use Rattle.std.proofs.Common.{◌≡◌, ◌+◌, length, drop}
use Rattle.texts.specs.Texts.{placed}
use Rattle.sheets.specs.Listing.{lines}
use Rattle.sheets.proofs.listing.put_lines.Given as goal

abbrev pub invariant-loop-row : goal.invariant-loop-row
invariant-loop-row l = (placed l.text l.at (lines l.inputs (drop l.row-index l.rows)) ≡ placed l.initial.text 0 (lines l.inputs l.rows)) × (l.at + length (lines l.inputs (drop l.row-index l.rows)) ≡ length (lines l.inputs l.rows))
