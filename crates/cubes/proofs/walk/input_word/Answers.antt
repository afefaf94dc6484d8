use Rattle.std.proofs.Common.{ℕ, ◌+◌, ◌*◌, sym, refl, ◌∙◌, subst, arith}
use Rattle.cubes.specs.Masks.{has}
use Rattle.cubes.specs.Blocks.{Marks}
use Rattle.cubes.proofs.Words.{low_pattern, high_pattern}
use Rattle.cubes.proofs.walk.input_word.Goals as goal

pub returns-in-0 : goal.returns-in-0
returns-in-0 c = subst (λ (i : ℕ). Marks (λ k. has (64 * c.args.block + k) i) 0xAAAA_AAAA_AAAA_AAAA) (sym c.in-0.is) (low_pattern 0xAAAA_AAAA_AAAA_AAAA 0 c.args.block (omega arith) refl)

pub returns-in-1 : goal.returns-in-1
returns-in-1 c = subst (λ (i : ℕ). Marks (λ k. has (64 * c.args.block + k) i) 0xCCCC_CCCC_CCCC_CCCC) (sym c.in-1.is) (low_pattern 0xCCCC_CCCC_CCCC_CCCC 1 c.args.block (omega arith) refl)

pub returns-in-2 : goal.returns-in-2
returns-in-2 c = subst (λ (i : ℕ). Marks (λ k. has (64 * c.args.block + k) i) 0xF0F0_F0F0_F0F0_F0F0) (sym c.in-2.is) (low_pattern 0xF0F0_F0F0_F0F0_F0F0 2 c.args.block (omega arith) refl)

pub returns-in-3 : goal.returns-in-3
returns-in-3 c = subst (λ (i : ℕ). Marks (λ k. has (64 * c.args.block + k) i) 0xFF00_FF00_FF00_FF00) (sym c.in-3.is) (low_pattern 0xFF00_FF00_FF00_FF00 3 c.args.block (omega arith) refl)

pub returns-in-4 : goal.returns-in-4
returns-in-4 c = subst (λ (i : ℕ). Marks (λ k. has (64 * c.args.block + k) i) 0xFFFF_0000_FFFF_0000) (sym c.in-4.is) (low_pattern 0xFFFF_0000_FFFF_0000 4 c.args.block (omega arith) refl)

pub returns-in-5 : goal.returns-in-5
returns-in-5 c = subst (λ (i : ℕ). Marks (λ k. has (64 * c.args.block + k) i) 0xFFFF_FFFF_0000_0000) (sym c.in-5.is) (low_pattern 0xFFFF_FFFF_0000_0000 5 c.args.block (omega arith) refl)

pub returns-in_default : goal.returns-in_default
returns-in_default c k h = c.spread.ensures k h ∙ high_pattern c.args.block k c.args.input h (omega arith)
