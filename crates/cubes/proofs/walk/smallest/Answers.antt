use Rattle.std.proofs.Common.{◌≡◌, ℕ, ◌^◌, ◌≤◌, min, subst, arith}
use lib.Bits.{bit_and, and_lt}
use Rattle.cubes.specs.Masks.{most_inputs}
use Rattle.cubes.specs.Searching.{Sought}
use Rattle.cubes.specs.Blocks.{number_at, Marks, BlockOf}
use Rattle.cubes.specs.declared.block.Block.{Block}
use Rattle.cubes.proofs.Walks.{Passing, none_more, first_found, passing_block}
use Rattle.cubes.proofs.walk.smallest.Goals as goal

-- the word of a block, where the inputs are few
word_says : (s : Sought) (n b : ℕ) (block : Block) (word : ℕ) → n ≡ s.inputs → n ≤ most_inputs → BlockOf (min n most_inputs) b block → Marks (λ k. s.passes (number_at s.inputs block.words k)) word →
    Passing s.passes (2 ^ s.inputs) b (bit_and word block.present)
word_says s n b block word e few is marks =
    let same : min n most_inputs ≡ s.inputs = omega arith in
    passing_block s.passes s.inputs b block word (subst (λ (x : ℕ). BlockOf x b block) same is) marks

pub returns-then-passing-ne0 : goal.returns-then-passing-ne0
returns-then-passing-ne0 g c =
    let s = g.Q.Question.asks c.args.question.now in
    let b = c.loop-number.number in
    let word = bit_and c.passing.result c.block-block.result.present in
    (first_found s.passes (2 ^ s.inputs) b word (omega (arith, c.if-passing-ne0.true)) (and_lt 64 _ _ c.passing.type_inv (omega arith)) c.loop-number.invariant
    (word_says s c.inputs-inputs.result b c.block-block.result c.passing.result c.inputs-inputs.ensures.value c.inputs-inputs.ensures.few c.block-block.ensures c.passing.ensures)).1

pub loop-number-preserved : goal.loop-number-preserved
loop-number-preserved g c =
    let s = g.Q.Question.asks c.args.question.now in
    let b = c.loop-number.number in
    none_more s.passes (2 ^ s.inputs) b c.loop-number.invariant
    (subst (Passing s.passes (2 ^ s.inputs) b) c.if-passing-ne0.false
    (word_says s c.inputs-inputs.result b c.block-block.result c.passing.result c.inputs-inputs.ensures.value c.inputs-inputs.ensures.few c.block-block.ensures c.passing.ensures))
