use Rattle.std.proofs.Common.{not, length, filter, rules}
use borrow.Author.Tests.{tests}
use Rattle.std.proofs.lemmas.Iterator.{YieldsList-from_slice, YieldsList-from_map}
use Rattle.std.proofs.lemmas.Iterator.Consumers.{YieldsList-at, YieldsList-from_filter, sum_by_from_yields_List}
use Rattle.std.proofs.lemmas.List.Concat.{length-flat_map}
use Rattle.sheets.specs.Listing.{row_line}
use Rattle.sheets.proofs.listing.lines_length.Goals as goal

pub returns : goal.returns
returns c =
    let n = c.args.inputs in
    let rows = c.args.rows.now in
    rw length-flat_map
    (sum_by_from_yields_List (λ r. length (row_line n r)) (filter (λ r. not r.out) rows) c.map.result c.sum.result c.sum.ensures.ran
    (YieldsList-from_map _ (λ r. length (row_line n r)) (YieldsList-at c.map.ensures.source (YieldsList-from_filter _ (λ r. not r.out) (YieldsList-from_slice rows cc) c.filter.ensures.closure (λ x r q k. search (rules, tests)))) c.map.ensures.closure (λ x r q k. search rules)))
