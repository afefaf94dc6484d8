use Rattle.std.proofs.Common.{rules, vec_items}
use Rattle.std.proofs.lemmas.Iterator.{YieldsList-from_slice, IsFirst-from_position}
use borrow.Author.Tests.{tests}
use Rattle.sheets.proofs.Standing.{HasSerial, HasOther, found_first}
use Rattle.sheets.proofs.sheet.Sheet.place_of.Goals as goal

pub returns : goal.returns
returns g c =
    let n = c.args.serial in
    let xs = vec_items c.args.self.now.rows in
    found_first n xs c.position.result
    (IsFirst-from_position _ _ _ (HasSerial n) (HasOther n) c.position.ensures.ran (YieldsList-from_slice xs cc) (λ x q k. search (rules, tests)) (λ x q k. search (rules, tests)))
