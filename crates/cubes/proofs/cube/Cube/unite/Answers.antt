use Rattle.std.proofs.lemmas.Bool.{or_from}
use Rattle.cubes.proofs.Bits.{share_none}
use Rattle.cubes.proofs.Alike.{united_apart}
use Rattle.cubes.proofs.cube.Cube.unite.Goals as goal

pub invariant_of-result : goal.invariant_of-result
invariant_of-result c =
    let a = c.args.self.now in
    let b = c.args.other.now in
    record {
      apart = united_apart a b (or_from _ _ (share_none a.zeros b.ones c.if-self-other-ne0.false) (share_none a.ones b.zeros c.if-self-other-ne0-2.false));
    }
