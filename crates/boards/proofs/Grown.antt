-- A well-formed card stays well formed with one input, gate, output or fault more that passed the tests.
use Rattle.std.proofs.Common.{◌≡◌, ℕ, ◌+◌, ◌<◌, true, [], ◌∷◌, ◌++◌, length, get_or, arith}
use Rattle.std.proofs.lemmas.List.{length_push}
use Rattle.cubes.proofs.Filling.{pushed}
use Rattle.boards.specs.declared.parts.Fault.{Fault}
use Rattle.boards.specs.Cards.{Card, Gate, card, lines, no_gate, no_fault, pins_fit, Sound}

module _ (c : Card) (s : Sound c) where
  pub input_more : c.inputs < 16 → length c.gates ≡ 0 → Sound (card (c.inputs + 1) c.gates c.outputs c.faults)
  input_more l none = record {
    few_inputs = omega arith;
    few_lines = omega arith;
    few_outputs = s.few_outputs;
    few_faults = s.few_faults;
    pin_counts = s.pin_counts;
    earlier = λ i p h k. let e = s.earlier i p h k in omega arith;
    outputs_exist = λ o h. let e = s.outputs_exist o h in omega arith;
    faults_exist = λ f h. let e = s.faults_exist f h in omega arith;
  }

  pub gate_more : (g : Gate) → lines c < 512 → pins_fit g.kind (length g.pins) ≡ true → ((p : ℕ) → p < length g.pins → get_or g.pins p 0 < lines c) → Sound (card c.inputs (c.gates ++ (g ∷ [])) c.outputs c.faults)
  gate_more g l fit early =
      let n = length_push c.gates g in
      record {
        few_inputs = s.few_inputs;
        few_lines = omega arith;
        few_outputs = s.few_outputs;
        few_faults = s.few_faults;
        pin_counts = pushed (λ i x. pins_fit x.kind (length x.pins) ≡ true) no_gate c.gates g s.pin_counts fit;
        earlier = λ i p h. pushed (λ j x. p < length x.pins → get_or x.pins p 0 < c.inputs + j) no_gate c.gates g (λ j k. s.earlier j p k) (early p) i h;
        outputs_exist = λ o h. let e = s.outputs_exist o h in omega arith;
        faults_exist = λ f h. let e = s.faults_exist f h in omega arith;
      }

  pub output_more : (o : ℕ) → length c.outputs < 32 → o < lines c → Sound (card c.inputs c.gates (c.outputs ++ (o ∷ [])) c.faults)
  output_more o l h =
      let n = length_push c.outputs o in
      record {
        few_inputs = s.few_inputs;
        few_lines = s.few_lines;
        few_outputs = omega arith;
        few_faults = s.few_faults;
        pin_counts = s.pin_counts;
        earlier = s.earlier;
        outputs_exist = pushed (λ _ x. x < lines c) 0 c.outputs o s.outputs_exist h;
        faults_exist = s.faults_exist;
      }

  pub fault_more : (f : Fault) → length c.faults < 255 → f.line < lines c → Sound (card c.inputs c.gates c.outputs (c.faults ++ (f ∷ [])))
  fault_more f l h =
      let n = length_push c.faults f in
      record {
        few_inputs = s.few_inputs;
        few_lines = s.few_lines;
        few_outputs = s.few_outputs;
        few_faults = omega arith;
        pin_counts = s.pin_counts;
        earlier = s.earlier;
        outputs_exist = s.outputs_exist;
        faults_exist = pushed (λ _ x. x.line < lines c) no_fault c.faults f s.faults_exist h;
      }
