use Rattle.std.proofs.Common.{◌<◌, List, length, vec_items, refl, subst, rules}
use Rattle.std.specs.List.{AllWithin, HoldsAt}
use Rattle.std.specs.Option.{MatchOption}
use Rattle.std.proofs.lemmas.Iterator.{YieldsList-from_slice, IsFirst-from_position}
use borrow.Author.Tests.{tests}
use Rattle.sheets.specs.declared.slip.Slip.{Slip}
use Rattle.runs.proofs.Slips.{HasSerial, HasOther, holds_none, taken_at}
use Rattle.runs.proofs.hands.take_slip.Goals as goal
use Rattle.runs.proofs.hands.take_slip.Goals.{After-position}

-- the first slip of the serial, if there is one
first : (c : After-position) → let ps : List Slip = vec_items c.args.slips.now in let n = c.args.serial in MatchOption c.position.result (AllWithin (HasOther n) ps 0 (length ps)) (λ i. (i < length ps) × HoldsAt (HasSerial n) ps i × AllWithin (HasOther n) ps 0 i)
first c =
    let n = c.args.serial in
    IsFirst-from_position _ _ _ (HasSerial n) (HasOther n) c.position.ensures.ran (YieldsList-from_slice (vec_items c.args.slips.now) cc) (λ x q k. search (rules, tests)) (λ x q k. search (rules, tests))

pub returns-in_err-i-clause-taken : goal.returns-in_err-i-clause-taken
returns-in_err-i-clause-taken c =
    let ps = vec_items c.args.slips.now in
    let n = c.args.serial in
    let none = subst (λ o. MatchOption o (AllWithin (HasOther n) ps 0 (length ps)) (λ i. (i < length ps) × HoldsAt (HasSerial n) ps i × AllWithin (HasOther n) ps 0 i)) c.in_err-i.was (first (goal.at.returns-in_err-i-clause-taken c).After-position) in
    rw c.from_residual.ensures (holds_none n ps none, refl)

pub returns-clause-taken : goal.returns-clause-taken
returns-clause-taken c =
    let ps = vec_items c.args.slips.now in
    let n = c.args.serial in
    let at = subst (λ o. MatchOption o (AllWithin (HasOther n) ps 0 (length ps)) (λ i. (i < length ps) × HoldsAt (HasSerial n) ps i × AllWithin (HasOther n) ps 0 i)) c.in_ok-i.was (first (goal.at.returns-clause-taken c).After-position) in
    taken_at ps (vec_items c.remove.new.self) c.in_ok-i.i n c.remove.result at.0 at.1 c.remove.ensures.value c.remove.ensures.items
