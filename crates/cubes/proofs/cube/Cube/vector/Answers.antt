use Rattle.std.proofs.Common.{◌≡◌, ◌*◌, ◌%◌, ◌^◌, ◌<◌, arith, pow_pos}
use Rattle.std.proofs.lemmas.Nat.{one_shl}
use Rattle.cubes.specs.Cubes.{rest_apart}
use Rattle.cubes.proofs.Alike.{is_vector}
use Rattle.cubes.proofs.cube.Cube.vector.Goals as goal

pub invariant_of-result : goal.invariant_of-result
invariant_of-result c =
    let n = c.args.inputs in
    let e : (1 * 2 ^ n) % 2 ^ 32 ≡ 2 ^ n = one_shl n 32 (omega arith) in
    let p = pow_pos n in
    let h : c.args.number < 2 ^ n = omega arith in
    simp e (record { apart = rest_apart n c.args.number h })

pub returns : goal.returns
returns c =
    let n = c.args.inputs in
    let e : (1 * 2 ^ n) % 2 ^ 32 ≡ 2 ^ n = one_shl n 32 (omega arith) in
    let p = pow_pos n in
    let h : c.args.number < 2 ^ n = omega arith in
    ((omega arith, h), is_vector n c.args.number _ h (omega arith) (omega arith))
