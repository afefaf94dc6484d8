-- One record of a board file: what it adds to a card, and the tests that it has to pass, in their order.
use Rattle.std.specs.Prelude.{◌≡◌, ℕ, ◌+◌, ◌*◌, Bool, true, false, cond, ◌&&◌, List, [], ◌∷◌, length, take, drop, Some, None, Ok, Err, Option, Result, ◌==◌, nat_le, nat_lt, slice_index}
use Rattle.std.specs.List.{list_all}
use Rattle.boards.specs.declared.parts.Kind.{Kind}
use Rattle.boards.specs.declared.parts.Kind.TheVariants.{And, Or, Nand, Nor, Xor, Xnor, Not, Buf}
use Rattle.boards.specs.declared.parts.Class.{Class}
use Rattle.boards.specs.declared.parts.Class.TheVariants.{Input, Gate as GateRecord, Output, Fault as FaultRecord}
use Rattle.boards.specs.declared.parts.Seen.{Seen}
use Rattle.boards.specs.declared.refusal.Trouble.{Trouble}
use Rattle.boards.specs.declared.refusal.Trouble.TheVariants.{Misplaced, OneTooMany, BadField, BadLine, NotZero}
use Rattle.boards.specs.Cards.{Card, pins_fit}

-- a field of two bytes, the low byte first
abbrev pub word : ℕ → ℕ → ℕ
word lo hi = lo + 256 * hi

-- the fields that bytes hold, two bytes each
abbrev pub words : List ℕ → List ℕ
words [] = []
words (lo ∷ []) = []
words (lo ∷ (hi ∷ bs)) = word lo hi ∷ words bs

-- every byte is zero
abbrev pub zeros : List ℕ → Bool
zeros bs = list_all (λ b. b == 0) bs

-- every line is below n
abbrev pub all_below : ℕ → List ℕ → Bool
all_below n ls = list_all (λ l. nat_lt l n) ls

-- the class of a record by its mark, its first byte
abbrev pub class : ℕ → Option Class
class mark = cond (mark == 0x49) (Some Input) (cond (mark == 0x47) (Some GateRecord) (cond (mark == 0x4F) (Some Output) (cond (mark == 0x46) (Some FaultRecord) None)))

-- the kind of a gate by its byte
abbrev pub kind_of : ℕ → Option Kind
kind_of k = cond (k == 1) (Some And) (cond (k == 2) (Some Or) (cond (k == 3) (Some Nand) (cond (k == 4) (Some Nor) (cond (k == 5) (Some Xor) (cond (k == 6) (Some Xnor) (cond (k == 7) (Some Not) (cond (k == 8) (Some Buf) None)))))))

-- how many lines the records seen so far make
abbrev pub lines_seen : Seen → ℕ
lines_seen s = s.inputs + s.gates

-- no record of a later class was seen
abbrev pub in_order : Seen → Class → Bool
in_order s Input = s.gates == 0 && (s.outputs == 0 && s.faults == 0)
in_order s GateRecord = s.outputs == 0 && s.faults == 0
in_order s Output = s.faults == 0
in_order s FaultRecord = true

-- a board has at most 16 inputs, 512 lines, 32 outputs and 255 faults
abbrev pub has_room : Seen → Class → Bool
has_room s Input = nat_lt s.inputs 16
has_room s GateRecord = nat_lt (lines_seen s) 512
has_room s Output = nat_lt s.outputs 32
has_room s FaultRecord = nat_lt s.faults 255

-- a gate kind that there is, with a pin count that it allows
abbrev pub gate_fits : Option Kind → ℕ → Bool
gate_fits None n = false
gate_fits (Some k) n = pins_fit k n

-- byte 1 and the field in bytes 2 and 3 say something that there is: gate kind and pin count, or stuck value
abbrev pub field_fits : Class → ℕ → ℕ → Bool
field_fits Input field word = true
field_fits GateRecord field word = gate_fits (kind_of field) word
field_fits Output field word = true
field_fits FaultRecord field word = nat_le field 1

-- the lines that it names exist already: those of the pins, which are the first fields of bytes 4 to 15, or that in bytes 2 and 3
abbrev pub lines_exist : Seen → Class → ℕ → List ℕ → Bool
lines_exist s Input word rest = true
lines_exist s GateRecord word rest = all_below (lines_seen s) (take word (words rest))
lines_exist s Output word rest = nat_lt word (lines_seen s)
lines_exist s FaultRecord word rest = nat_lt word (lines_seen s)

-- the bytes that say nothing are zero
abbrev pub rest_zero : Class → ℕ → ℕ → List ℕ → Bool
rest_zero Input field word rest = field == 0 && (word == 0 && zeros rest)
rest_zero GateRecord field word rest = zeros (drop (2 * word) rest)
rest_zero Output field word rest = field == 0 && zeros rest
rest_zero FaultRecord field word rest = zeros rest

-- this trouble where a test is not passed, else what the next tests say
abbrev pub unless : Bool → Trouble → Option Trouble → Option Trouble
unless passed t next = cond passed next (Some t)

-- the first test that a record of a class does not pass: THE ORDER OF THE TESTS stands here alone
abbrev pub trouble_in : Class → Seen → ℕ → ℕ → List ℕ → Option Trouble
trouble_in k s field word rest =
    unless (in_order s k) Misplaced
    (unless (has_room s k) OneTooMany
    (unless (field_fits k field word) BadField
    (unless (lines_exist s k word rest) BadLine
    (unless (rest_zero k field word rest) NotZero None))))

-- the same, where the mark may be none of the four
abbrev pub trouble_of : Option Class → Seen → ℕ → ℕ → List ℕ → Option Trouble
trouble_of None s field word rest = Some Misplaced
trouble_of (Some k) s field word rest = trouble_in k s field word rest

-- what is wrong with a record of 16 bytes after the records seen so far, if anything: byte 0 is the mark, byte 1
-- a field, bytes 2 and 3 another, bytes 4 to 15 the rest
abbrev pub trouble : Seen → List ℕ → Option Trouble
trouble s r = trouble_of (class (slice_index r 0)) s (slice_index r 1) (word (slice_index r 2) (slice_index r 3)) (drop 4 r)

-- how many records of each class make up a card
abbrev pub counts : Card → Seen
counts c = record { inputs = c.inputs; gates = length c.gates; outputs = length c.outputs; faults = length c.faults }

-- the counts with one record more, by its class
abbrev pub one_more : Option Class → Seen → Seen
one_more None s = s
one_more (Some Input) s = record { inputs = s.inputs + 1; gates = s.gates; outputs = s.outputs; faults = s.faults }
one_more (Some GateRecord) s = record { inputs = s.inputs; gates = s.gates + 1; outputs = s.outputs; faults = s.faults }
one_more (Some Output) s = record { inputs = s.inputs; gates = s.gates; outputs = s.outputs + 1; faults = s.faults }
one_more (Some FaultRecord) s = record { inputs = s.inputs; gates = s.gates; outputs = s.outputs; faults = s.faults + 1 }

abbrev pub counted : Seen → ℕ → Seen
counted s mark = one_more (class mark) s

-- what counting a record answers, and the counts then: it is the first test that the record does not pass
abbrev pub Admitted : Seen → List ℕ → Seen → Result (Unit {0}) Trouble → Type 0
Admitted s r s' (Ok _) = (trouble s r ≡ None) × (s' ≡ counted s (slice_index r 0))
Admitted s r s' (Err t) = trouble s r ≡ Some t
