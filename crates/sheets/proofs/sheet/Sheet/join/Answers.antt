use Rattle.std.proofs.Common.{◌≡◌, Some, Ok, set, refl, ap, ◌∙◌, subst, arith}
use lib.Bits.{bit_or}
use Rattle.std.specs.List.{remove}
use Rattle.cubes.specs.Cubes.{Made}
use Rattle.sheets.specs.Sheets.{Outcome, state}
use Rattle.sheets.specs.Places.{Stands, Found}
use Rattle.sheets.proofs.Joins.{joined}
use Rattle.sheets.proofs.sheet.Sheet.join.Goals as goal

pub returns : goal.returns
returns g c =
    let s = state c.args.self.now in
    let p : c.place_of.result ≡ Some c.in_ok-i.i = grind arith in
    let q : c.place_of-2.result ≡ Some c.in_ok-j.j = grind arith in
    let sa : Stands s.rows c.args.first c.in_ok-i.i = subst (Found s.rows c.args.first) p c.place_of.ensures in
    let sb : Stands s.rows c.args.second c.in_ok-j.j = subst (Found s.rows c.args.second) q c.place_of-2.ensures in
    let x = c.index-x.result.now in
    let y = c.index-y.result.now in
    let made : c.from_masks.result ≡ Ok c.in_ok-cube.cube = grind arith in
    let h = subst (Made (bit_or x.zeros y.zeros) (bit_or x.ones y.ones)) made c.from_masks.ensures in
    let e = joined s c.args.first c.args.second c.in_ok-i.i c.in_ok-j.j sa sb x y c.index-x.ensures c.index-y.ensures c.if-x.false c.if-y.false c.if-first-second.false
    c.in_ok-cube.cube h _ (c.remove.ensures.items ∙ ap (λ r. remove (set s.rows c.in_ok-i.i r) c.in_ok-j.j) c.of.ensures) in
    record { answer = ap (λ (o : Outcome). o.answer) e; after = ap (λ (o : Outcome). o.after) e; same = refl }
