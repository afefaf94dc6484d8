use Rattle.std.proofs.Common.{Some, None, false, sym, refl, ap, ◌∙◌}
use Rattle.sheets.specs.Sheets.{Outcome, state}
use Rattle.sheets.proofs.Handing.{in_its_place, struck}
use Rattle.sheets.proofs.sheet.Sheet.strike.Goals as goal

pub returns-in-Some : goal.returns-in-Some
returns-in-Some g c =
    let m = g.G.Goal.means c.args.self.now.goal in
    let s = state c.args.self.now in
    let n = c.args.slip.serial in
    let st = c.in_ok-i.ensures.0 in
    let e = struck m s n c.in_ok-i.i st c.in_ok-i.ensures.1 c.index.result.now c.index.ensures c.as_slice.result.now c.as_slice.ensures.value (Some c.in-Some.duty) c.in-Some.ensures in
    let back = in_its_place m s n c.in_ok-i.i st c.in_ok-i.ensures.1 c.index.result.now c.index.ensures c.as_slice.result.now c.as_slice.ensures.value c.index_mut.result.now c.index_mut.ensures.value false in
    record { answer = ap (λ (o : Outcome). o.answer) e; after = ap (λ xs. record { rows = xs; given = s.given }) back ∙ ap (λ (o : Outcome). o.after) e; same = refl }

pub returns-in-None : goal.returns-in-None
returns-in-None g c =
    let m = g.G.Goal.means c.args.self.now.goal in
    let s = state c.args.self.now in
    let st = c.in_ok-i.ensures.0 in
    let e = struck m s c.args.slip.serial c.in_ok-i.i st c.in_ok-i.ensures.1 c.index.result.now c.index.ensures c.as_slice.result.now c.as_slice.ensures.value None c.in-None.ensures in
    record { answer = ap (λ (o : Outcome). o.answer) e; after = ap (λ xs. record { rows = xs; given = s.given }) (c.remove.ensures.items ∙ sym st.remove) ∙ ap (λ (o : Outcome). o.after) e; same = refl }
