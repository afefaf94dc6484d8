use Rattle.std.proofs.Common.{◌≡◌, ℕ, ◌-◌, ◌<◌, ◌≤◌, true, length, get_or, vec_items, sym, ap, ◌∙◌, subst, arith}
use Rattle.std.specs.List.{All}
use Rattle.std.proofs.lemmas.List.{get_or-map}
use Rattle.std.proofs.lemmas.List.Elements.{All-from_get_or}
use Rattle.boards.specs.declared.board.Board.{Board}
use Rattle.boards.specs.declared.gate.StoredGate.{StoredGate}
use Rattle.boards.specs.Cards.{Gate, lines, gate_at, no_gate, pins_fit}
use Rattle.boards.specs.Wiring.{gate_of}
use Rattle.boards.specs.Boards.{card_of}
use Rattle.boards.specs.Soundness.{lines_of, sound}
use Rattle.boards.proofs.board.Board.own_value.Goals as goal

-- the gate of line k is the one that is stored for it
stored_at : (b : Board) (k : ℕ) (g : StoredGate) → b.inputs ≤ k → k < lines (card_of b) → g ≡ get_or (vec_items b.gates) (k - b.inputs) g → gate_at (card_of b) k ≡ gate_of g
stored_at b k g l h e = get_or-map gate_of (vec_items b.gates) (k - b.inputs) g no_gate (omega (arith, lines_of b)) ∙ ap gate_of (sym e)

pub made_of-requires-clause-count : goal.made_of-requires-clause-count
made_of-requires-clause-count c =
    let b = c.args.self.now in
    let k = c.args.k in
    let in' : k - b.inputs < length (card_of b).gates = omega (arith, c.requires) in
    subst (λ (g : Gate). pins_fit g.kind (length g.pins) ≡ true) (stored_at b k c.index.result.now c.if-k-inputs.false c.requires c.index.ensures) ((sound b).pin_counts (k - b.inputs) in')

pub made_of-requires-clause-inside : goal.made_of-requires-clause-inside
made_of-requires-clause-inside c =
    let b = c.args.self.now in
    let k = c.args.k in
    let s = sound b in
    let in' : k - b.inputs < length (card_of b).gates = omega (arith, c.requires) in
    subst (λ (g : Gate). All (λ p. p < 512) g.pins) (stored_at b k c.index.result.now c.if-k-inputs.false c.requires c.index.ensures)
    (All-from_get_or (λ p. p < 512) (gate_at (card_of b) k).pins 0 (λ p q. let t = s.earlier (k - b.inputs) p in' q in omega (arith, s.few_lines, c.requires)))
