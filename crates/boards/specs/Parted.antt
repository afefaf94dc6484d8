-- A record taken apart.
use Rattle.std.specs.Prelude.{◌≡◌, ℕ, List, drop, Some, None, Ok, Err, Result, slice_index}
use Rattle.boards.specs.declared.parts.UnknownMark.{UnknownMark}
use Rattle.boards.specs.declared.parted.Record.{Record}
use Rattle.boards.specs.Records.{word, class}

-- a record's class, its byte 1, the field in bytes 2 and 3, and bytes 4 to 15; or its mark has no class
abbrev pub Parted : List ℕ → Result Record UnknownMark → Type 0
Parted r (Ok p) = (class (slice_index r 0) ≡ Some p.class) × (p.field ≡ slice_index r 1) × (p.word ≡ word (slice_index r 2) (slice_index r 3)) × (p.rest.now ≡ drop 4 r)
Parted r (Err _) = class (slice_index r 0) ≡ None
