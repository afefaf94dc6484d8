-- The numbers of the refusals of reading, and the line that a program prints for one.
use Rattle.std.specs.Prelude.{ℕ, List, [], ◌∷◌, ◌++◌, codes, decimal}
use Rattle.boards.specs.declared.refusal.Trouble.{Trouble}
use Rattle.boards.specs.declared.refusal.Trouble.TheVariants.{Misplaced, OneTooMany, BadField, BadLine, NotZero}
use Rattle.boards.specs.declared.refusal.Unread.{Unread}
use Rattle.boards.specs.declared.refusal.Unread.TheVariants.{NotWhole, Bad}

abbrev pub trouble_number : Trouble → ℕ
trouble_number Misplaced = 2
trouble_number OneTooMany = 3
trouble_number BadField = 4
trouble_number BadLine = 5
trouble_number NotZero = 6

-- the number of a refusal
abbrev pub number : Unread → ℕ
number (NotWhole _) = 1
number (Bad t _) = trouble_number t

-- the record that it names: the number of whole records, or that of the bad one
abbrev pub named : Unread → ℕ
named (NotWhole n) = n
named (Bad _ r) = r

-- `refused`, number and record, parted by blanks, and a line feed
abbrev pub refused_line : Unread → List ℕ
refused_line e = codes "refused " ++ (decimal (number e) ++ (32 ∷ (decimal (named e) ++ (10 ∷ []))))
