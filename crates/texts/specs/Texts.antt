-- Writing into lent text: the text is a list of bytes that keeps its length, whatever is written.
use Rattle.std.specs.Prelude.{◌≡◌, ℕ, suc, ◌<◌, ◌≤◌, List, [], ◌∷◌, ◌++◌, length, drop, Ok, Err, Result, slice_set}
use Rattle.texts.specs.declared.short.TextTooShort.{TextTooShort}

-- the number by which the shop knows the refusal of a text that is too short
abbrev pub number : TextTooShort → ℕ
number _ = 36

-- the text with these bytes written from place `at` on; what lies past the end of the text is not written
abbrev pub placed : List ℕ → ℕ → List ℕ → List ℕ
placed text at [] = text
placed text at (b ∷ bs) = placed (slice_set text at b) (suc at) bs

-- what a call that writes the whole line into lent text answers and leaves: the line's length, the line at the
-- start and the rest as it was; or the refusal with the text as it was, where the text is shorter than the line
abbrev pub Lent : List ℕ → List ℕ → List ℕ → Result ℕ TextTooShort → Type 0
Lent line before after (Ok n) = (n ≡ length line) × (length line ≤ length before) × (after ≡ line ++ drop (length line) before)
Lent line before after (Err _) = (length before < length line) × (after ≡ before)
