-- A board file record by record: what each adds to the card. The inner steps of reading are promised by these;
-- what reading itself promises stands in Reading and does without them.
use Rattle.std.specs.Prelude.{◌≡◌, ℕ, zero, suc, ◌+◌, ◌%◌, ◌<◌, List, [], ◌∷◌, ◌++◌, length, take, drop, Some, None, Ok, Err, Option, Result, ◌==◌, slice_index}
use Rattle.boards.specs.declared.parts.Kind.{Kind}
use Rattle.boards.specs.declared.parts.Kind.TheVariants.{Buf}
use Rattle.boards.specs.declared.parts.Fault.{Fault}
use Rattle.boards.specs.declared.parts.Class.{Class}
use Rattle.boards.specs.declared.parts.Class.TheVariants.{Input, Gate as GateRecord, Output, Fault as FaultRecord}
use Rattle.boards.specs.declared.refusal.Unread.{Unread}
use Rattle.boards.specs.Cards.{Card, card}
use Rattle.boards.specs.Boards.{no_card}
use Rattle.boards.specs.Records.{word, words, class, kind_of, trouble, counts}
use Rattle.boards.specs.Reading.{records, record_at, UnreadFor}

-- the kind of a gate record; no record that passed the tests lacks one
abbrev pub kind_or : Option Kind → Kind
kind_or None = Buf
kind_or (Some k) = k

-- a fault record's fault
abbrev pub fault_in : List ℕ → Fault
fault_in r = record { line = word (slice_index r 2) (slice_index r 3); stuck = (slice_index r 1 == 1) }

-- the card with one gate more
abbrev pub with_gate : Card → Kind → List ℕ → Card
with_gate c kind pins = card c.inputs (c.gates ++ (record { kind = kind; pins = pins } ∷ [])) c.outputs c.faults

-- the card with what a record of a class describes
abbrev pub with_item : Option Class → Card → List ℕ → Card
with_item None c r = c
with_item (Some Input) c r = card (c.inputs + 1) c.gates c.outputs c.faults
with_item (Some GateRecord) c r = with_gate c (kind_or (kind_of (slice_index r 1))) (take (word (slice_index r 2) (slice_index r 3)) (words (drop 4 r)))
with_item (Some Output) c r = card c.inputs c.gates (c.outputs ++ (word (slice_index r 2) (slice_index r 3) ∷ [])) c.faults
with_item (Some FaultRecord) c r = card c.inputs c.gates c.outputs (c.faults ++ (fault_in r ∷ []))

abbrev pub with_record : Card → List ℕ → Card
with_record c r = with_item (class (slice_index r 0)) c r

-- the card that the first r records make up
abbrev pub so_far : List ℕ → ℕ → Card
so_far bs zero = no_card
so_far bs (suc r) = with_record (so_far bs r) (record_at bs r)

-- none of the first r records is bad
abbrev pub Good : List ℕ → ℕ → Type 0
Good bs r = (q : ℕ) → q < r → trouble (counts (so_far bs q)) (record_at bs q) ≡ None

-- what a check of a whole file answers
abbrev pub Checked : List ℕ → Result (Unit {0}) Unread → Type 0
Checked bs (Ok _) = (length bs % 16 ≡ 0) × Good bs (records bs)
Checked bs (Err e) = UnreadFor bs e
