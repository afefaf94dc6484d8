use Rattle.std.proofs.Common.{◌≡◌, ℕ, ◌+◌, ◌*◌, ◌^◌, ◌<◌, List, slice_index, arith, ap, ◌∙◌}
use Rattle.cubes.specs.Masks.{bit}
use Rattle.cubes.specs.Cubes.{vector}
use Rattle.cubes.specs.Blocks.{number_at}
use Rattle.cubes.specs.declared.cube.Cube.{Cube}
use Rattle.devices.specs.Devices.{Meaning}
use Rattle.devices.specs.declared.answer.Answer.{Answer}
use Rattle.devices.specs.Widely.{answer_at}
use Rattle.devices.proofs.Lifting.{below_lifted, column_lifted, nothing_yet}
use Rattle.devices.proofs.device.Device.answers.Goals as goal
use Rattle.devices.proofs.device.Device.answers.Goals.{in-Some, in_default}

pub loop-k-init : goal.loop-k-init
loop-k-init g c = (
  (λ o h. let e = nothing_yet 32 o h in omega arith),
  (λ o h. let e = nothing_yet 32 o h in omega arith),
  (λ q h. absurd (omega arith)),
  (λ q h. absurd (omega arith)),
)

-- what the machine answers to the vector that was taken
asked : (m : Meaning) (machine n : ℕ) (words : List ℕ) (k : ℕ) (cube : Cube) (a : Answer) → n ≡ m.inputs → cube ≡ vector n (number_at n words k) → a ≡ m.answer machine cube → a ≡ answer_at m machine words k
asked m machine n words k cube a few is answered = answered ∙ ap (m.answer machine) (is ∙ ap (λ i. vector i (number_at i words k)) few)

pub loop-k-preserved : goal.loop-k-preserved
loop-k-preserved g c =
    let m = g.Self.Device.means c.args.self.now in
    let old = c.loop-k.invariant in
    let k = c.loop-k.k in
    let at : ℕ → Answer = answer_at m c.args.machine c.args.words.now in
    elim c.match-vector_at.branch [
      | in-Some w ↦
          let a : w.answer-answer.result ≡ at k = asked m c.args.machine c.inputs-inputs.result c.args.words.now k w.in-Some.cube w.answer-answer.result c.inputs-inputs.ensures w.in-Some.ensures.2 w.answer-answer.ensures in
          let z : (o : ℕ) → o < 32 → slice_index c.match-vector_at.zeros o ≡ slice_index c.loop-k.zeros o + bit w.answer-answer.result.zeros o * 2 ^ k = λ o h. ap (λ ws. slice_index ws o) w.zeros-is ∙ w.lift.ensures o h in
          let x : (o : ℕ) → o < 32 → slice_index c.match-vector_at.ones o ≡ slice_index c.loop-k.ones o + bit w.answer-answer.result.ones o * 2 ^ k = λ o h. ap (λ ws. slice_index ws o) w.ones-is ∙ w.lift-in-Some.ensures o h in (
            below_lifted c.loop-k.zeros c.match-vector_at.zeros k w.answer-answer.result.zeros old.0 z,
            below_lifted c.loop-k.ones c.match-vector_at.ones k w.answer-answer.result.ones old.1 x,
            column_lifted c.loop-k.zeros c.match-vector_at.zeros k w.answer-answer.result.zeros (λ q. (at q).zeros) old.0 z (ap (λ b. b.zeros) a) old.2,
            column_lifted c.loop-k.ones c.match-vector_at.ones k w.answer-answer.result.ones (λ q. (at q).ones) old.1 x (ap (λ b. b.ones) a) old.3,
          )
      | in_default w ↦
          let few = (g.met.Self.Device.lawful c.args.self.now).few_inputs in
          absurd (w.in_default.ensures (omega arith, omega arith))
    ]
