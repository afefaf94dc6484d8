use Rattle.std.proofs.Common.{◌≤◌}
use Rattle.cubes.proofs.Bits.{bit_above}
use Rattle.cubes.proofs.letters.letter_of.Goals as goal

pub returns-then-input-ge-MOST_INPUTS : goal.returns-then-input-ge-MOST_INPUTS
returns-then-input-ge-MOST_INPUTS c =
    let past : 16 ≤ c.args.input = c.if-input-ge-MOST_INPUTS.true in
    rw (bit_above c.args.zeros 16 c.args.input c.ranges.zeros.fits past, bit_above c.args.ones 16 c.args.input c.ranges.ones.fits past)
