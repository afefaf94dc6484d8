use Rattle.std.proofs.Common.{◌<◌, true, false, List, length, vec_items, sym, refl, subst, arith}
use Rattle.std.proofs.lemmas.List.{get_or_read}
use Rattle.sheets.specs.Sheets.{no_row}
use Rattle.sheets.specs.Sweeping.{Tallied}
use Rattle.sheets.specs.declared.row.Row.{Row}
use Rattle.sheets.proofs.Tallies.{Judged, judged_so, counted, untallied}
use Rattle.sheets.proofs.sheet.Sheet.sweep_row.Given as given
use Rattle.sheets.proofs.sheet.Sheet.sweep_row.Goals as goal
use Rattle.sheets.proofs.sheet.Sheet.sweep_row.Goals.{After-mark}

-- the row is judged by the sheet's own counts and marks
judged : (g : given.Over) (c : After-mark g) → Judged (g.G.Goal.means c.args.self.now.goal) (vec_items c.args.self.now.rows) c.args.i c.index.result.now (vec_items c.mark.new.self.counts) (vec_items c.mark.new.self.marks)
judged g c =
    let s = c.args.self.now in
    let xs = vec_items s.rows in
    let w = c.mark.new.self in
    let h : c.args.i < length xs = omega (arith, s.rows.ok.0, c.requires.within) in
    record {
      within = h;
      here = get_or_read xs c.args.i c.index.result.now h c.index.ensures no_row;
      stands = c.if-row.false;
      even = omega (arith, w.counts.ok.0, w.marks.ok.0, w.all_counts, w.all_marks);
      all = omega (arith, w.counts.ok.0, w.all_counts, (g.met.G.Goal.lawful s.goal).few_duties);
      tallied = subst (λ v. Tallied (g.G.Goal.means s.goal) xs (vec_items v)) (sym c.mark.ensures.same) c.requires.tallied;
      marked = c.mark.ensures.marked;
    }

pub returns-then-is_sole-clause-rows : goal.returns-then-is_sole-clause-rows
returns-then-is_sole-clause-rows g c =
    let s = c.args.self.now in
    judged_so (g.G.Goal.means s.goal) (judged g (goal.at.returns-then-is_sole-clause-rows g c).After-mark) (g.met.G.Goal.lawful s.goal) true c.if-is_sole.ensures (vec_items s.rows) refl

pub untally-requires : goal.untally-requires
untally-requires g c d l = counted (g.G.Goal.means c.args.self.now.goal) (judged g (goal.at.untally-requires g c).After-mark) d (omega arith)

pub returns-clause-rows : goal.returns-clause-rows
returns-clause-rows g c =
    let s = c.args.self.now in
    judged_so (g.G.Goal.means s.goal) (judged g (goal.at.returns-clause-rows g c).After-mark) (g.met.G.Goal.lawful s.goal) false c.if-is_sole.ensures (vec_items c.remove.new.self) c.remove.ensures.items

pub returns-clause-tallied : goal.returns-clause-tallied
returns-clause-tallied g c =
    let m = g.G.Goal.means c.args.self.now.goal in
    let w = c.untally.new.self in
    let u = c.mark.new.self in
    subst (λ xs. Tallied m xs (vec_items w.counts)) (sym {A = List Row} c.remove.ensures.items)
    (untallied m (judged g (goal.at.returns-clause-tallied g c).After-mark) (vec_items w.counts) (omega (arith, w.counts.ok.0, w.all_counts, u.counts.ok.0, u.all_counts)) (λ d l. c.untally.ensures d (omega (arith, w.counts.ok.0, w.all_counts))))
