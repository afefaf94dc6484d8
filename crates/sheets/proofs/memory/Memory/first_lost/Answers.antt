use Rattle.std.proofs.Common.{◌≡◌, ℕ, ◌<◌, Bool, false, not, ◌&&◌, ◌||◌, length, get_or, sym, ap, ◌∙◌, arith}
use Rattle.sheets.specs.Sheets.{row_covers, some_covers, in_place, loses}
use Rattle.sheets.proofs.Losses.{apart_all, lost_further}
use Rattle.sheets.proofs.memory.Memory.first_lost.Goals as goal
use Rattle.sheets.proofs.memory.Memory.first_lost.Goals.{in-Some, in_default}

-- what is left of what the row covers and is wanted, without what the cube and the rows cover
parts : (v k w r s p : Bool) → v ≡ (k && not s) → k ≡ (w && r) → (v && not p) ≡ (w && (r && not (s || p)))
parts v k w r s p e f = grind arith

pub returns : goal.returns
returns g c =
    let m = g.G.Goal.means c.args.goal.now in
    let rows = c.args.rows.now in
    let left = c.match-by.left in
    let had : ℕ → Bool = row_covers m c.args.row.now in
    let has : ℕ → Bool = λ d. some_covers m c.args.by d || in_place m rows d in
    let passes : ℕ → Bool = λ d. get_or left d false && not (in_place m rows d) in
    let wants : (d : ℕ) → d < length left → get_or c.keep_wanted.new.left d false ≡ (m.wanted d && had d) =
    λ d l. c.keep_wanted.ensures d (omega arith) ∙ ap (λ (b : Bool). m.wanted d && b) (c.mark_row.ensures d (omega arith)) in
    let start : (d : ℕ) → d < length left → passes d ≡ loses m had has d =
    elim c.match-by.branch [
      | in-Some w ↦ λ d l. (let n = ap length w.left-is in parts (get_or left d false) (get_or c.keep_wanted.new.left d false) (m.wanted d) (had d) (some_covers m c.args.by d) (in_place m rows d)
          (ap (λ xs. get_or xs d false) w.left-is ∙ w.take_off.ensures d (omega arith)
          ∙ ap (λ (b : Bool). get_or c.keep_wanted.new.left d false && not b) (w.mark.ensures d (omega arith) ∙ sym (ap (λ o. some_covers m o d) w.in-Some.is)))
          (wants d l))
      | in_default w ↦ λ d l. parts (get_or left d false) (get_or c.keep_wanted.new.left d false) (m.wanted d) (had d) (some_covers m c.args.by d) (in_place m rows d)
          (let e = ap (λ xs. get_or xs d false) w.left-is in let o = ap (λ o. some_covers m o d) w.in_default.is in grind arith) (wants d l)
    ] in
    let each : (d : ℕ) → d < length c.loop-other.left → get_or c.loop-other.left d false ≡ loses m had has d =
    λ d l. apart_all m passes rows c.loop-other.other-index c.loop-other.left c.loop-other-test.false c.loop-other.invariant d l ∙ start d (omega arith) in
    let law = g.met.G.Goal.lawful c.args.goal.now in
    c.first_left.ensures ∙ lost_further m law had has c.loop-other.left (omega (arith, law.few_duties)) each
