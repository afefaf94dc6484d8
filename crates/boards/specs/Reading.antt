-- What reading a board file promises.
use Rattle.std.specs.Prelude.{◌≡◌, ℕ, ◌*◌, ◌/◌, ◌%◌, ◌<◌, List, length, take, drop, Some, Ok, Err, Result, ◌≢◌}
use Rattle.boards.specs.declared.refusal.Unread.{Unread}
use Rattle.boards.specs.declared.refusal.Unread.TheVariants.{NotWhole, Bad}
use Rattle.boards.specs.Cards.{Card, Sound}
use Rattle.boards.specs.Files.{file}
use Rattle.boards.specs.Records.{trouble, counts}

-- how many whole records bytes have
abbrev pub records : List ℕ → ℕ
records bs = length bs / 16

-- record r, counted from 0
abbrev pub record_at : List ℕ → ℕ → List ℕ
record_at bs r = take 16 (drop (16 * r) bs)

-- why bytes are no board: they are no row of whole records; or the records before record r are the file of a
-- well-formed card, and record r is bad after them (the trouble is the first test that it does not pass)
abbrev pub UnreadFor : List ℕ → Unread → Type 0
UnreadFor bs (NotWhole n) = (length bs % 16 ≢ 0) × (n ≡ records bs)
UnreadFor bs (Bad t r) =
    (length bs % 16 ≡ 0) × (r < records bs)
    × ((c : Card) × Sound c × (file c ≡ take (16 * r) bs) × (trouble (counts c) (record_at bs r) ≡ Some t))

-- what reading bytes into a board that held `old` answers, and the card that it then holds: accepted, the bytes are
-- the file of the well-formed card that it holds and of no other; refused, they are the file of none, and it holds what it held
abbrev pub Read : List ℕ → Card → Card → Result (Unit {0}) Unread → Type 0
Read bs old new (Ok _) = Sound new × (file new ≡ bs) × ((c : Card) → Sound c → file c ≡ bs → c ≡ new)
Read bs old new (Err e) = UnreadFor bs e × ((c : Card) → Sound c → file c ≢ bs) × (new ≡ old)
