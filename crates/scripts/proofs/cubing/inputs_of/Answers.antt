use Rattle.std.proofs.Common.{arith}
use Rattle.scripts.proofs.Masking.{one_more}
use Rattle.scripts.proofs.cubing.inputs_of.Goals as goal

pub loop-i-preserved : goal.loop-i-preserved
loop-i-preserved c = one_more c.args.letter c.args.word.now _ c.loop-i.i _ (omega arith) c.loop-i.invariant c.from.ensures
