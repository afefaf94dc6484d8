use Rattle.std.proofs.Common.{◌+◌, get_or, drop, arith}
use Rattle.texts.proofs.Placing.{placed_append}
use Rattle.std.proofs.lemmas.List.{length-append}
use Rattle.sheets.specs.Sheets.{no_row}
use Rattle.sheets.specs.Listing.{row_line, lines}
use Rattle.sheets.proofs.Lines.{lines_out, lines_in}
use Rattle.sheets.proofs.listing.put_lines.Goals as goal
use Rattle.sheets.proofs.listing.put_lines.Goals.{then-not-row, else-not-row}

pub loop-row-preserved : goal.loop-row-preserved
loop-row-preserved c =
    let n = c.args.inputs in
    let i = c.loop-row.row-index in
    let rows = c.args.rows.now in
    let line = row_line n (get_or rows i no_row) in
    let rest = lines n (drop (i + 1) rows) in
    elim c.if-not-row.branch [
      | then-not-row w ↦
          (let e = lines_in n rows i c.loop-row-test.true w.if-not-row.true in
          let p = placed_append c.loop-row.text c.loop-row.at line rest in
          let l = length-append line rest in
          grind arith)
      | else-not-row w ↦ (let e = lines_out n rows i c.loop-row-test.true w.if-not-row.false in grind arith)
    ]
