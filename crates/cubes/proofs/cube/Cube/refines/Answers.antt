use Rattle.std.proofs.Common.{arith}
use Rattle.std.proofs.lemmas.Bool.{and_parts, and_from, eqb-true, eq-eqb}
use Rattle.cubes.proofs.Bits.{within_bits, bits_within}
use Rattle.cubes.proofs.cube.Cube.refines.Goals as goal

pub returns : goal.returns
returns c =
    let a = c.args.self.now in
    let b = c.args.other.now in (
      (λ t i. let p = and_parts _ _ t in
          (within_bits a.zeros b.zeros (eqb-true _ _ p.0) i, within_bits a.ones b.ones (eqb-true _ _ p.1) i)),
      (λ r. and_from _ _
          (eq-eqb _ _ (bits_within 16 a.zeros b.zeros (omega arith) (λ i. (r i).0)))
          (eq-eqb _ _ (bits_within 16 a.ones b.ones (omega arith) (λ i. (r i).1)))),
    )
