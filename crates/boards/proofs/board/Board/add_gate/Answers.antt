use Rattle.std.proofs.Common.{◌≡◌, ℕ, List, [], ◌∷◌, ◌++◌, length, take, vec_items, sym, refl, ap, ◌∙◌, subst, arith}
use Rattle.std.proofs.lemmas.List.{length-take, map_push}
use Rattle.boards.specs.declared.gate.StoredGate.{StoredGate}
use Rattle.boards.specs.declared.parts.Kind.{Kind}
use Rattle.boards.specs.Cards.{Gate, card, lines, Sound, pins_fit}
use Rattle.boards.specs.Wiring.{gate_of, wired}
use Rattle.boards.specs.Boards.{card_of}
use Rattle.boards.proofs.Packing.{below_each}
use Rattle.boards.specs.Pins.{few_pins}
use Rattle.boards.proofs.Grown.{gate_more}
use Rattle.boards.specs.Soundness.{sound, kept}
use Rattle.boards.proofs.board.Board.add_gate.Goals as goal

abbrev gate_with : Kind → List ℕ → Gate
gate_with k ps = record { kind = k; pins = ps }

-- the stored gates with one more stand for the gates with one more
wired_more : (gs gs' : List StoredGate) (g : StoredGate) → gs' ≡ gs ++ (g ∷ []) → wired gs' ≡ wired gs ++ (gate_of g ∷ [])
wired_more gs gs' g e = ap wired e ∙ map_push gate_of gs g

-- the wired gates after the push of a gate with these pins
after : (gs gs' : List StoredGate) (g : StoredGate) (k : Kind) (ps : List ℕ) → gs' ≡ gs ++ (g ∷ []) → g.kind ≡ k → take g.count g.lines ≡ ps → wired gs' ≡ wired gs ++ (gate_with k ps ∷ [])
after gs gs' g k ps e p q = wired_more gs gs' g e ∙ ap (λ j. wired gs ++ (gate_with j (take g.count g.lines) ∷ [])) p ∙ ap (λ xs. wired gs ++ (gate_with k xs ∷ [])) q

pub invariant_of-self : goal.invariant_of-self
invariant_of-self c =
    let b = c.args.self.now in
    let ws = c.args.pins in
    let gs' = vec_items c.push_reserved.new.self in
    let e : wired gs' ≡ wired (vec_items b.gates) ++ (gate_with c.args.kind (take c.args.count ws) ∷ []) =
    after (vec_items b.gates) gs' _ c.args.kind (take c.args.count ws) c.push_reserved.ensures.items refl refl in
    let few = few_pins c.args.kind c.args.count c.requires.fits in
    let six : length ws ≡ 6 = omega arith in
    let n : length (take c.args.count ws) ≡ c.args.count = let t = length-take c.args.count ws in omega (arith, few.1) in
    let s : Sound (card b.inputs (wired gs') (vec_items b.outputs) (vec_items b.faults)) =
    subst (λ (gs : List Gate). Sound (card b.inputs gs (vec_items b.outputs) (vec_items b.faults))) (sym e)
    (gate_more (card_of b) (sound b) (gate_with c.args.kind (take c.args.count ws)) c.requires.few (ap (pins_fit c.args.kind) n ∙ c.requires.fits) (below_each (lines (card_of b)) (take c.args.count ws) c.requires.earlier)) in
    let k = kept b.inputs gs' (vec_items b.outputs) (vec_items b.faults) s in
    record { few_inputs = k.few_inputs; few_lines = k.few_lines; few_outputs = k.few_outputs; few_faults = k.few_faults; pin_counts = k.pin_counts; earlier = k.earlier; outputs_exist = k.outputs_exist; faults_exist = k.faults_exist; gate_room = omega (arith, c.push_reserved.ensures.capacity, b.gate_room); output_room = b.output_room; fault_room = b.fault_room }
