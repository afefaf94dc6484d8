use Rattle.std.proofs.Common.{ℕ, ◌+◌, ◌*◌, ◌^◌, min, ltb, subst, arith}
use Rattle.cubes.specs.Blocks.{Marks}
use Rattle.cubes.proofs.Words.{number_is}
use Rattle.cubes.proofs.walk.block.Goals as goal

pub returns : goal.returns
returns c =
    let n = min c.args.inputs 16 in
    let b = c.args.number in
    record {
      numbered = λ k h l. number_is n c.input_words.result k (64 * b + k) l (λ i q. c.input_words.ensures i (omega arith) k h);
      present = subst (λ (x : ℕ). Marks (λ k. ltb (64 * b + k) (2 ^ x)) c.present.result) c.min.ensures c.present.ensures;
    }
