-- The card that a board holds is well formed, since its type says so; and what a board's type asks follows from its card.
use Rattle.std.specs.Prelude.{◌≡◌, ℕ, ◌+◌, ◌≤◌, List, length, vec_items}
use Rattle.std.proofs.Common.{arith}
use Rattle.std.proofs.lemmas.List.{length-map}
use Rattle.boards.specs.declared.board.Board.{Board}
use Rattle.boards.specs.declared.gate.StoredGate.{StoredGate}
use Rattle.boards.specs.declared.parts.Fault.{Fault}
use Rattle.boards.specs.Cards.{card, lines, Sound, PinCounts, Earlier, OutputsExist, FaultsExist}
use Rattle.boards.specs.Wiring.{gate_of, wired}
use Rattle.boards.specs.Boards.{card_of}

-- its lines, counted by the gates that are stored
pub lines_of : (b : Board) → b.inputs + length (vec_items b.gates) ≡ lines (card_of b)
lines_of b = let n = length-map (vec_items b.gates) gate_of in omega arith

pub sound : (b : Board) → Sound (card_of b)
sound b =
    let n = lines_of b in
    record {
      few_inputs = b.few_inputs;
      few_lines = omega (arith, b.few_lines);
      few_outputs = b.few_outputs;
      few_faults = b.few_faults;
      pin_counts = b.pin_counts;
      earlier = b.earlier;
      outputs_exist = λ o h. let e = b.outputs_exist o h in omega arith;
      faults_exist = λ f h. let e = b.faults_exist f h in omega arith;
    }

-- what the type of a board asks of its parts, but for the room that they have
pub record Kept (n : ℕ) (gs : List StoredGate) (os : List ℕ) (fs : List Fault) : Type 0 where
  pub few_inputs : n ≤ 16
  pub few_lines : n + length gs ≤ 512
  pub few_outputs : length os ≤ 32
  pub few_faults : length fs ≤ 255
  pub pin_counts : PinCounts (wired gs)
  pub earlier : Earlier n (wired gs)
  pub outputs_exist : OutputsExist (n + length gs) os
  pub faults_exist : FaultsExist (n + length gs) fs

pub kept : (n : ℕ) (gs : List StoredGate) (os : List ℕ) (fs : List Fault) → Sound (card n (wired gs) os fs) → Kept n gs os fs
kept n gs os fs s =
    let l = length-map gs gate_of in
    record {
      few_inputs = s.few_inputs;
      few_lines = omega (arith, s.few_lines);
      few_outputs = s.few_outputs;
      few_faults = s.few_faults;
      pin_counts = s.pin_counts;
      earlier = s.earlier;
      outputs_exist = λ o h. let e = s.outputs_exist o h in omega arith;
      faults_exist = λ f h. let e = s.faults_exist f h in omega arith;
    }
