-- A card: its lines, what a machine of it has on each line, what it answers, and when it is well formed.
use Rattle.std.specs.Prelude.{◌≡◌, ℕ, zero, suc, ◌+◌, ◌-◌, ◌<◌, ◌≤◌, Bool, true, false, cond, ◌&&◌, List, [], ◌∷◌, ◌++◌, map, length, get_or, Some, None, Option, ◌==◌, nat_le, nat_lt, slice_index, slice_index_or}
use Rattle.cubes.specs.Masks.{most_inputs, bit, mask_of}
use Rattle.cubes.specs.declared.cube.Cube.{Cube}
use Rattle.devices.specs.Devices.{Meaning, unknown}
use Rattle.devices.specs.declared.answer.Answer.{Answer}
use Rattle.boards.specs.declared.parts.Value.{Value}
use Rattle.boards.specs.declared.parts.Value.TheVariants.{Zero, One, Unknown}
use Rattle.boards.specs.declared.parts.Kind.{Kind}
use Rattle.boards.specs.declared.parts.Kind.TheVariants.{Buf}
use Rattle.boards.specs.declared.parts.Fault.{Fault}
use Rattle.boards.specs.Values.{is_zero, is_one, gate, single}

-- a gate: what it computes, and the lines that its pins read
pub record Gate : Type 0 where
  pub kind : Kind
  pub pins : List ℕ

-- a card: inputs and gates number the lines from 0, first the inputs, then the gates; an output is a line;
-- machine 0 is the good card, and machine k has the k-th fault
pub record Card : Type 0 where
  pub inputs : ℕ
  pub gates : List Gate
  pub outputs : List ℕ
  pub faults : List Fault

abbrev pub card : ℕ → List Gate → List ℕ → List Fault → Card
card i g o f = record { inputs = i; gates = g; outputs = o; faults = f }

-- how many lines there are
abbrev pub lines : Card → ℕ
lines c = c.inputs + length c.gates

-- how many machines there are
abbrev pub machines : Card → ℕ
machines c = 1 + length c.faults

-- what stands for a gate or a fault past the end of a list
abbrev pub no_gate : Gate
no_gate = record { kind = Buf; pins = [] }

abbrev pub no_fault : Fault
no_fault = record { line = 0; stuck = false }

-- the gate whose line is line k
abbrev pub gate_at : Card → ℕ → Gate
gate_at c k = slice_index_or c.gates (k - c.inputs) no_gate

-- what a cube says of input i
abbrev pub given : Cube → ℕ → Value
given c i = cond (bit c.zeros i == 1) Zero (cond (bit c.ones i == 1) One Unknown)

-- the fault of a machine; machine 0 has none
abbrev pub fault : Card → ℕ → Option Fault
fault c k = cond (nat_lt 0 k) (cond (nat_lt (k - 1) (length c.faults)) (Some (slice_index_or c.faults (k - 1) no_fault)) None) None

-- the value at which a line is stuck
abbrev pub stuck_at : Fault → Value
stuck_at f = cond f.stuck One Zero

-- a stuck line has its stuck value for all who read it, any other the value that it would have
abbrev pub held : Option Fault → ℕ → Value → Value
held None k v = v
held (Some f) k v = cond (f.line == k) (stuck_at f) v

-- what line k has by itself, where the lines have the values v: its input's value, or what its gate makes of its pins
abbrev pub by_itself : Card → Cube → (ℕ → Value) → ℕ → Value
by_itself c x v k = cond (nat_lt k c.inputs) (given x k) (gate (gate_at c k).kind (map v (gate_at c k).pins))

-- values of the lines fit a card, a fault and a cube: every line has its stuck value, or else what it has by itself
abbrev pub Consistent : Card → Option Fault → Cube → (ℕ → Value) → Type 0
Consistent c f x v = (k : ℕ) → k < lines c → v k ≡ held f k (by_itself c x v k)

-- the value of a line in a list of values; nothing is known of a line past its end
abbrev pub read : List Value → ℕ → Value
read vs k = slice_index_or vs k Unknown

-- the values of the first n lines, each found from those before it
abbrev pub values : Card → Option Fault → Cube → ℕ → List Value
values c f x zero = []
values c f x (suc n) = values c f x n ++ (held f n (by_itself c x (read (values c f x n)) n) ∷ [])

-- the value of output o
abbrev pub output : Card → List Value → ℕ → Value
output c vs o = read vs (slice_index c.outputs o)

-- the answer that values of the lines give: what stands on the lines of the outputs
abbrev pub seen_at : Card → List Value → Answer
seen_at c vs = record {
  zeros = mask_of (λ o. is_zero (output c vs o)) (length c.outputs);
  ones = mask_of (λ o. is_one (output c vs o)) (length c.outputs);
}

-- what a card means as a device; a machine that does not exist answers nothing
abbrev pub meaning : Card → Meaning
meaning c = record {
  inputs = c.inputs;
  outputs = length c.outputs;
  machines = machines c;
  answer = λ k x. cond (nat_lt k (machines c)) (seen_at c (values c (fault c k) x (lines c))) unknown;
}

-- what simulating machine k at a cube gives: the one list of line values that fits, and so the machine's answer
pub record Simulated (c : Card) (k : ℕ) (x : Cube) (vs : List Value) : Type 0 where
  -- every line has its stuck value, its input's value, or what its gate makes of its pins
  pub fits : Consistent c (fault c k) x (read vs)
  -- no other values fit
  pub only : (v : ℕ → Value) → Consistent c (fault c k) x v → (j : ℕ) → j < lines c → v j ≡ read vs j
  -- nothing is known past the last line
  pub beyond : (j : ℕ) → lines c ≤ j → read vs j ≡ Unknown
  -- a machine that exists answers what stands on its outputs
  pub answered : k < machines c → (meaning c).answer k x ≡ seen_at c vs

-- a gate has a pin count that its kind allows: one for an inverter or a repeater, else 2 to 6
abbrev pub pins_fit : Kind → ℕ → Bool
pins_fit kind n = cond (single kind) (n == 1) (nat_le 2 n && nat_le n 6)

abbrev pub PinCounts : List Gate → Type 0
PinCounts gs = (i : ℕ) → i < length gs → pins_fit (get_or gs i no_gate).kind (length (get_or gs i no_gate).pins) ≡ true

-- each pin of gate i reads a line before the gate's own
abbrev pub Earlier : ℕ → List Gate → Type 0
Earlier inputs gs = (i p : ℕ) → i < length gs → p < length (get_or gs i no_gate).pins → slice_index (get_or gs i no_gate).pins p < inputs + i

-- each output, and each fault, is on one of the n lines
abbrev pub OutputsExist : ℕ → List ℕ → Type 0
OutputsExist n os = (o : ℕ) → o < length os → slice_index os o < n

abbrev pub FaultsExist : ℕ → List Fault → Type 0
FaultsExist n fs = (f : ℕ) → f < length fs → (get_or fs f no_fault).line < n

-- a well-formed card
pub record Sound (c : Card) : Type 0 where
  pub few_inputs : c.inputs ≤ most_inputs
  pub few_lines : lines c ≤ 512
  pub few_outputs : length c.outputs ≤ 32
  pub few_faults : length c.faults ≤ 255
  pub pin_counts : PinCounts c.gates
  pub earlier : Earlier c.inputs c.gates
  pub outputs_exist : OutputsExist (lines c) c.outputs
  pub faults_exist : FaultsExist (lines c) c.faults
