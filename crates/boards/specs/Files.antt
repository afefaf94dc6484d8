-- The file of a card: records of 16 bytes, no header; fields of two bytes have the low byte first.
use Rattle.std.specs.Prelude.{ℕ, ◌-◌, ◌*◌, ◌/◌, ◌%◌, cond, List, [], ◌∷◌, ◌++◌, length, replicate}
use Rattle.std.specs.List.{flat_map}
use Rattle.boards.specs.declared.parts.Kind.{Kind}
use Rattle.boards.specs.declared.parts.Kind.TheVariants.{And, Or, Nand, Nor, Xor, Xnor, Not, Buf}
use Rattle.boards.specs.declared.parts.Fault.{Fault}
use Rattle.boards.specs.Cards.{Card, Gate}

-- the two bytes of a field
abbrev pub low : ℕ → ℕ
low n = n % 256

abbrev pub high : ℕ → ℕ
high n = n / 256

-- the fields of several pins, one after the other
abbrev pub pin_bytes : List ℕ → List ℕ
pin_bytes [] = []
pin_bytes (p ∷ ps) = low p ∷ (high p ∷ pin_bytes ps)

-- the byte of a gate kind
abbrev pub code : Kind → ℕ
code And = 1
code Or = 2
code Nand = 3
code Nor = 4
code Xor = 5
code Xnor = 6
code Not = 7
code Buf = 8

-- an input: the mark 49 (hexadecimal) and zeros
abbrev pub input_record : List ℕ
input_record = 0x49 ∷ replicate 15 0

-- a gate: the mark 47, its kind, its pin count, the line of each pin, and zeros
abbrev pub gate_record : Gate → List ℕ
gate_record g = 0x47 ∷ (code g.kind ∷ (low (length g.pins) ∷ (high (length g.pins) ∷ (pin_bytes g.pins ++ replicate (12 - 2 * length g.pins) 0))))

-- an output: the mark 4F, a zero, its line, and zeros
abbrev pub output_record : ℕ → List ℕ
output_record l = 0x4F ∷ (0 ∷ (low l ∷ (high l ∷ replicate 12 0)))

-- a fault: the mark 46, its stuck value, its line, and zeros
abbrev pub fault_record : Fault → List ℕ
fault_record f = 0x46 ∷ (cond f.stuck 1 0 ∷ (low f.line ∷ (high f.line ∷ replicate 12 0)))

-- the file: the records of the inputs, then of the gates, the outputs and the faults
abbrev pub file : Card → List ℕ
file c =
    flat_map (λ (_ : ℕ). input_record) (replicate c.inputs 0)
    ++ (flat_map gate_record c.gates
    ++ (flat_map output_record c.outputs
    ++ flat_map fault_record c.faults))
