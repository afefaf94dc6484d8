use Rattle.std.proofs.Common.{◌≡◌, ℕ, ◌+◌, ◌/◌, ◌^◌, ◌<◌, ◌≤◌, cond, eqb, List, get_or, ◌∙◌, add-one, length-take, arith}
use Rattle.std.proofs.Math.Pow.{pow_mono}
use Rattle.std.proofs.lemmas.List.{get_or-take}
use lib.Bits.{bit_and}
use Rattle.cubes.specs.Masks.{has}
use Rattle.cubes.specs.Blocks.{number_at}
use Rattle.cubes.proofs.Bits.{mask_of_lt}
use Rattle.cubes.proofs.Words.{has_low}
use Rattle.cubes.proofs.wide.number_at.Goals as goal

-- one input more
number_more : (words : List ℕ) (k i v w : ℕ) → w ≡ get_or words i 0 → v ≡ number_at i words k → v + cond (eqb (bit_and (w / 2 ^ k) 1) 1) (2 ^ i) 0 ≡ number_at (i + 1) words k
number_more words k i v w here e = rw (here, e, has_low (get_or words i 0) k, add-one i)

-- the number of n inputs fits a mask
fits : (words : List ℕ) (k n v : ℕ) → n ≤ 16 → v ≡ number_at n words k → v < 2 ^ 16
fits words k n v few e =
    let low = mask_of_lt (λ i. has (get_or words i 0) k) n in
    let more = pow_mono few in
    omega arith

pub with_bit-number-requires : goal.with_bit-number-requires
with_bit-number-requires c =
    let h = mask_of_lt (λ i. has (get_or c.args.words.now i 0) c.args.k) c.loop-input.input in
    (omega (arith, c.loop-input-test.true, length-take c.from.result c.args.words.now, c.told-words), omega (arith, c.loop-input.invariant))

pub loop-input-preserved : goal.loop-input-preserved
loop-input-preserved c =
    let i = c.loop-input.input in
    let words = c.args.words.now in
    let l : i < c.from.result = omega (arith, c.loop-input-test.true, length-take c.from.result words) in
    c.with_bit-number.ensures ∙ number_more words c.args.k i c.loop-input.number _ (get_or-take c.from.result words i 0 l) c.loop-input.invariant

pub overflow_cast-result : goal.overflow_cast-result
overflow_cast-result c =
    let h = fits c.args.words.now c.args.k c.loop-input.input c.loop-input.number (omega (arith, length-take c.from.result c.args.words.now, c.told-words)) c.loop-input.invariant in
    omega arith
