-- The card that a board holds.
use Rattle.std.specs.Prelude.{[], vec_items}
use Rattle.boards.specs.Cards.{Card, card}
use Rattle.boards.specs.Wiring.{wired}
use Rattle.boards.specs.declared.board.Board.{Board}

abbrev pub card_of : Board → Card
card_of b = card b.inputs (wired (vec_items b.gates)) (vec_items b.outputs) (vec_items b.faults)

-- the card of an empty file: no lines, and machine 0 alone
abbrev pub no_card : Card
no_card = card 0 [] [] []
