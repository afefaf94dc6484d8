use Rattle.std.proofs.Common.{true, false, length, Some, None, sym, refl, arith}
use Rattle.std.proofs.lemmas.Bool.{lt-ltb, le-ltb}
use Rattle.claims.proofs.Bounding.{bound}
use Rattle.claims.proofs.Verdicts.{judged_is}
use Rattle.claims.proofs.claiming.claim.Goals as goal

pub returns-then-duties-gt-MOST : goal.returns-then-duties-gt-MOST
returns-then-duties-gt-MOST g c =
    let m = g.G.Goal.means c.args.goal.now in
    let ds = c.args.duties.now in
    let e = judged_is m ds true _ _ _ _ _ (sym (lt-ltb 256 (length ds) (omega (arith, c.if-duties-gt-MOST.true)))) refl refl refl refl refl in
    record { answer = e; bound = bound m (g.met.G.Goal.lawful c.args.goal.now) ds _ e }

pub returns-in-Some : goal.returns-in-Some
returns-in-Some g c =
    let m = g.G.Goal.means c.args.goal.now in
    let ds = c.args.duties.now in
    let e = judged_is m ds false (Some c.in-Some.place) _ _ _ _ (sym (le-ltb 256 (length ds) (omega (arith, c.if-duties-gt-MOST.false)))) c.in-Some.ensures refl refl refl refl in
    record { answer = e; bound = bound m (g.met.G.Goal.lawful c.args.goal.now) ds _ e }

pub returns-in-Some-first_named_before : goal.returns-in-Some-first_named_before
returns-in-Some-first_named_before g c =
    let m = g.G.Goal.means c.args.goal.now in
    let ds = c.args.duties.now in
    let e = judged_is m ds false None (Some c.in-Some-first_named_before.place) _ _ _ (sym (le-ltb 256 (length ds) (omega (arith, c.if-duties-gt-MOST.false)))) c.in_default.ensures c.in-Some-first_named_before.ensures refl refl refl in
    record { answer = e; bound = bound m (g.met.G.Goal.lawful c.args.goal.now) ds _ e }

pub returns-in-Some-first_unwanted : goal.returns-in-Some-first_unwanted
returns-in-Some-first_unwanted g c =
    let m = g.G.Goal.means c.args.goal.now in
    let ds = c.args.duties.now in
    let e = judged_is m ds false None None (Some c.in-Some-first_unwanted.place) _ _ (sym (le-ltb 256 (length ds) (omega (arith, c.if-duties-gt-MOST.false)))) c.in_default.ensures c.in_default-first_named_before.ensures c.in-Some-first_unwanted.ensures refl refl in
    record { answer = e; bound = bound m (g.met.G.Goal.lawful c.args.goal.now) ds _ e }

pub returns-in-Some-first_uncoverable : goal.returns-in-Some-first_uncoverable
returns-in-Some-first_uncoverable g c =
    let m = g.G.Goal.means c.args.goal.now in
    let ds = c.args.duties.now in
    let e = judged_is m ds false None None None (Some c.in-Some-first_uncoverable.place) _ (sym (le-ltb 256 (length ds) (omega (arith, c.if-duties-gt-MOST.false)))) c.in_default.ensures c.in_default-first_named_before.ensures c.in_default-first_unwanted.ensures c.in-Some-first_uncoverable.ensures refl in
    record { answer = e; bound = bound m (g.met.G.Goal.lawful c.args.goal.now) ds _ e }

pub returns-in-Some-first_clash : goal.returns-in-Some-first_clash
returns-in-Some-first_clash g c =
    let m = g.G.Goal.means c.args.goal.now in
    let ds = c.args.duties.now in
    let e = judged_is m ds false None None None None (Some c.in-Some-first_clash.x) (sym (le-ltb 256 (length ds) (omega (arith, c.if-duties-gt-MOST.false)))) c.in_default.ensures c.in_default-first_named_before.ensures c.in_default-first_unwanted.ensures c.in_default-first_uncoverable.ensures c.in-Some-first_clash.ensures in
    record { answer = e; bound = bound m (g.met.G.Goal.lawful c.args.goal.now) ds _ e }

pub returns-in-None : goal.returns-in-None
returns-in-None g c =
    let m = g.G.Goal.means c.args.goal.now in
    let ds = c.args.duties.now in
    let e = judged_is m ds false None None None None None (sym (le-ltb 256 (length ds) (omega (arith, c.if-duties-gt-MOST.false)))) c.in_default.ensures c.in_default-first_named_before.ensures c.in_default-first_unwanted.ensures c.in_default-first_uncoverable.ensures c.in-None.ensures in
    record { answer = e; bound = bound m (g.met.G.Goal.lawful c.args.goal.now) ds _ e }
