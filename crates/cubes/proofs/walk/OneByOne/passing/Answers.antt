use Rattle.std.proofs.Common.{◌≡◌, ℕ, ◌+◌, ◌^◌, ◌<◌, Bool, cond, List, slice_index, add-one, ap, ◌∙◌, arith}
use Rattle.cubes.specs.Masks.{has, mask_of}
use Rattle.cubes.specs.Cubes.{vector}
use Rattle.cubes.specs.Searching.{Sought}
use Rattle.cubes.specs.Blocks.{number_at}
use Rattle.cubes.specs.declared.cube.Cube.{Cube}
use Rattle.cubes.proofs.Bits.{mask_of_lt}
use Rattle.cubes.proofs.Words.{has_mask_of}
use Rattle.cubes.proofs.walk.OneByOne.passing.Goals as goal
use Rattle.cubes.proofs.walk.OneByOne.passing.Goals.{in-Some, in_default}

pub with_bit-word-requires : goal.with_bit-word-requires
with_bit-word-requires g c =
    let asks = g.Self.OneByOne.asks c.args.self.now in
    let low = mask_of_lt (λ k. asks.passes (number_at asks.inputs c.args.words.now k)) c.loop-k.k in
    (c.loop-k-test.true, omega (arith, c.loop-k.invariant))

-- one vector more
marked : (s : Sought) (words : List ℕ) (n k word : ℕ) (cube : Cube) (b : Bool) → n ≡ s.inputs → cube ≡ vector n (number_at n words k) →
    ((v : ℕ) → v < 2 ^ s.inputs → cube ≡ vector s.inputs v → b ≡ s.passes v) → word ≡ mask_of (λ j. s.passes (number_at s.inputs words j)) k →
    word + cond b (2 ^ k) 0 ≡ mask_of (λ j. s.passes (number_at s.inputs words j)) (k + 1)
marked s words n k word cube b same is answers e =
    let p : b ≡ s.passes (number_at s.inputs words k) = answers (number_at s.inputs words k) (mask_of_lt (λ i. has (slice_index words i) k) s.inputs) (is ∙ ap (λ m. vector m (number_at m words k)) same) in
    rw (p, e, add-one k)

pub loop-k-preserved : goal.loop-k-preserved
loop-k-preserved g c =
    let s = g.Self.OneByOne.asks c.args.self.now in
    elim c.match-vector_at.branch [
      | in-Some w ↦ w.word-is ∙ w.with_bit-word.ensures ∙ marked s c.args.words.now c.inputs-inputs.result c.loop-k.k c.loop-k.word w.in-Some.cube w.passes.result c.inputs-inputs.ensures.value w.in-Some.ensures.2 w.passes.ensures c.loop-k.invariant
      | in_default w ↦ absurd (w.in_default.ensures (c.inputs-inputs.ensures.few, c.loop-k-test.true))
    ]

pub returns : goal.returns
returns g c k h =
    let s = g.Self.OneByOne.asks c.args.self.now in
    ap (λ w. has w k) c.loop-k.invariant ∙ has_mask_of (λ j. s.passes (number_at s.inputs c.args.words.now j)) c.loop-k.k k (omega arith)
