use Rattle.std.proofs.Common.{Some, None, false, set, sym, refl, ap, ◌∙◌}
use Rattle.sheets.specs.Sheets.{Outcome, state, row_in}
use Rattle.sheets.proofs.Handing.{in_its_place, exchanged}
use Rattle.sheets.proofs.sheet.Sheet.exchange.Goals as goal

pub returns-in-Some : goal.returns-in-Some
returns-in-Some g c =
    let m = g.G.Goal.means c.args.self.now.goal in
    let s = state c.args.self.now in
    let n = c.args.slip.serial in
    let st = c.in_ok-i.ensures.0 in
    let e = exchanged m s n c.in_ok-i.i st c.in_ok-i.ensures.1 c.index.result.now c.index.ensures c.as_slice.result.now c.as_slice.ensures.value c.args.cube c.if-is_above.ensures (Some c.in-Some.duty) c.in-Some.ensures in
    let back = in_its_place m s n c.in_ok-i.i st c.in_ok-i.ensures.1 c.index.result.now c.index.ensures c.as_slice.result.now c.as_slice.ensures.value c.index_mut-in-Some.result.now c.index_mut-in-Some.ensures.value false in
    record { answer = ap (λ (o : Outcome). o.answer) e; after = ap (λ xs. record { rows = xs; given = s.given }) back ∙ ap (λ (o : Outcome). o.after) e; same = refl }

pub returns-in-None : goal.returns-in-None
returns-in-None g c =
    let m = g.G.Goal.means c.args.self.now.goal in
    let s = state c.args.self.now in
    let n = c.args.slip.serial in
    let i = c.in_ok-i.i in
    let st = c.in_ok-i.ensures.0 in
    let e = exchanged m s n i st c.in_ok-i.ensures.1 c.index.result.now c.index.ensures c.as_slice.result.now c.as_slice.ensures.value c.args.cube c.if-is_above.ensures None c.in-None.ensures in
    record { answer = ap (λ (o : Outcome). o.answer) e; after = ap (λ xs. record { rows = xs; given = s.given }) (ap (set s.rows i) c.of.ensures ∙ sym (st.change (row_in n c.args.cube))) ∙ ap (λ (o : Outcome). o.after) e; same = refl }
