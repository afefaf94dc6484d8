-- The gates that stored gates stand for.
use Rattle.std.specs.Prelude.{List, map, take}
use Rattle.boards.specs.declared.gate.StoredGate.{StoredGate}
use Rattle.boards.specs.Cards.{Gate}

-- a stored gate reads the lines of its first places, as many as it has pins
abbrev pub gate_of : StoredGate → Gate
gate_of g = record { kind = g.kind; pins = take g.count g.lines }

abbrev pub wired : List StoredGate → List Gate
wired gs = map gate_of gs
