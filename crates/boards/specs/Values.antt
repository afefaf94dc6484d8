-- The three values, and what each kind of gate makes of those at its pins.
use Rattle.std.specs.Prelude.{Bool, true, false, cond, not, ◌||◌, List, [], ◌∷◌}
use Rattle.boards.specs.declared.parts.Value.{Value}
use Rattle.boards.specs.declared.parts.Value.TheVariants.{Zero, One, Unknown}
use Rattle.boards.specs.declared.parts.Kind.{Kind}
use Rattle.boards.specs.declared.parts.Kind.TheVariants.{And, Or, Nand, Nor, Xor, Xnor, Not, Buf}

-- a line that is 0
abbrev pub is_zero : Value → Bool
is_zero Zero = true
is_zero One = false
is_zero Unknown = false

-- a line that is 1
abbrev pub is_one : Value → Bool
is_one Zero = false
is_one One = true
is_one Unknown = false

-- a line of which nothing is known
abbrev pub is_unknown : Value → Bool
is_unknown Zero = false
is_unknown One = false
is_unknown Unknown = true

-- some value of the list passes
abbrev pub any : (Value → Bool) → List Value → Bool
any p [] = false
any p (v ∷ vs) = p v || any p vs

-- an odd number of 1s
abbrev pub odd_ones : List Value → Bool
odd_ones [] = false
odd_ones (v ∷ vs) = cond (is_one v) (not (odd_ones vs)) (odd_ones vs)

-- the opposite value; unknown stays unknown
abbrev pub invert : Value → Value
invert Zero = One
invert One = Zero
invert Unknown = Unknown

-- 0 if a pin is 0, else unknown if a pin is unknown, else 1
abbrev pub conj : List Value → Value
conj vs = cond (any is_zero vs) Zero (cond (any is_unknown vs) Unknown One)

-- 1 if a pin is 1, else unknown if a pin is unknown, else 0
abbrev pub disj : List Value → Value
disj vs = cond (any is_one vs) One (cond (any is_unknown vs) Unknown Zero)

-- unknown if a pin is unknown, else 1 for an odd number of 1s
abbrev pub parity : List Value → Value
parity vs = cond (any is_unknown vs) Unknown (cond (odd_ones vs) One Zero)

-- the value of the one pin
abbrev pub only : List Value → Value
only [] = Unknown
only (v ∷ vs) = v

-- what a gate of each kind makes of the values at its pins
abbrev pub gate : Kind → List Value → Value
gate And vs = conj vs
gate Or vs = disj vs
gate Nand vs = invert (conj vs)
gate Nor vs = invert (disj vs)
gate Xor vs = parity vs
gate Xnor vs = invert (parity vs)
gate Not vs = invert (only vs)
gate Buf vs = only vs

-- the kinds with one pin
abbrev pub single : Kind → Bool
single And = false
single Or = false
single Nand = false
single Nor = false
single Xor = false
single Xnor = false
single Not = true
single Buf = true

-- the same gates at two pins; a gate of more pins takes them in one by one
abbrev pub and2 : Value → Value → Value
and2 Zero b = Zero
and2 One b = b
and2 Unknown Zero = Zero
and2 Unknown One = Unknown
and2 Unknown Unknown = Unknown

abbrev pub or2 : Value → Value → Value
or2 Zero b = b
or2 One b = One
or2 Unknown Zero = Unknown
or2 Unknown One = One
or2 Unknown Unknown = Unknown

abbrev pub xor2 : Value → Value → Value
xor2 Zero b = b
xor2 One b = invert b
xor2 Unknown b = Unknown
