use Rattle.std.proofs.Common.{◌≡◌, ℕ, length, subst, arith}
use Rattle.cubes.proofs.Bits.{vectors_counted}
use Rattle.goals.specs.Goals.{vectors}
use Rattle.claims.specs.Claims.{Earliest}
use Rattle.claims.proofs.Clashes.{Both, both_more, clash_is}
use Rattle.claims.proofs.named.Named.first_clash.Goals as goal

pub overflow_cast-number : goal.overflow_cast-number
overflow_cast-number g c =
    let k = vectors_counted _ _ c.inputs.ensures (g.met.G.Goal.lawful c.args.self.now.goal.now).few_inputs in
    omega (arith, k.0, k.1, c.loop-number-test.true)

pub loop-number-preserved : goal.loop-number-preserved
loop-number-preserved g c =
    let m = g.G.Goal.means c.args.self.now.goal.now in
    let ds = c.args.self.now.duties.now in
    both_more m ds c.loop-number.number c.loop-number.best c.two_at.result c.the_sooner-best.result c.loop-number.invariant c.two_at.ensures c.the_sooner-best.ensures

pub returns : goal.returns
returns g c =
    let m = g.G.Goal.means c.args.self.now.goal.now in
    let ds = c.args.self.now.duties.now in
    let k = vectors_counted _ _ c.inputs.ensures (g.met.G.Goal.lawful c.args.self.now.goal.now).few_inputs in
    let all : c.loop-number.number ≡ vectors m = omega (arith, k.0, c.loop-number-test.false) in
    let P : ℕ → Type 0 = λ n. Earliest (length ds) (Both m ds n) c.loop-number.best in
    clash_is m ds c.loop-number.best (subst P all c.loop-number.invariant)
