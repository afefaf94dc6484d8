-- The text of what a call, an excuse and a claim answered. No line has its line feed here.
use Rattle.std.specs.Prelude.{ℕ, List, ◌++◌, Some, None, Ok, Err, codes, decimal, Option, Result}
use Rattle.sheets.specs.Sheets.{number, answer_number}
use Rattle.sheets.specs.declared.reply.Reply.{Reply}
use Rattle.sheets.specs.declared.refusal.Refusal.{Refusal}
use Rattle.sheets.specs.declared.refusal.Refusal.TheVariants as refusal
use Rattle.goals.specs.Excusing.{number as excuse_number}
use Rattle.goals.specs.declared.refusal.NotExcused.{NotExcused}
use Rattle.claims.specs.declared.refusal.ClaimRefusal.{ClaimRefusal}
use Rattle.claims.specs.declared.refusal.ClaimRefusal.TheVariants as claim

-- the answer in decimal, or `ok` where there is none
abbrev pub number_text : Option ℕ → List ℕ
number_text None = codes "ok"
number_text (Some n) = decimal n

-- the duty that would be left bare, of the refusal that names one
abbrev pub duty_left_bare : Refusal → Option ℕ
duty_left_bare refusal.InputAbove = None
duty_left_bare refusal.SheetFull = None
duty_left_bare refusal.SerialsSpent = None
duty_left_bare refusal.NoSuchRow = None
duty_left_bare refusal.RowOut = None
duty_left_bare refusal.NotOut = None
duty_left_bare (refusal.DutyLeftBare d) = Some d
duty_left_bare refusal.NotJoinable = None
duty_left_bare refusal.NoSuchDuty = None
duty_left_bare refusal.NotWanted = None
duty_left_bare refusal.NotCoverable = None

-- `refused` and the number, and the duty where one is named
abbrev pub refused_text : ℕ → Option ℕ → List ℕ
refused_text n None = codes "refused " ++ decimal n
refused_text n (Some d) = codes "refused " ++ (decimal n ++ (codes " " ++ decimal d))

-- the line of a call
abbrev pub answer_line : Result Reply Refusal → List ℕ
answer_line (Ok a) = number_text (answer_number a)
answer_line (Err e) = refused_text (number e) (duty_left_bare e)

-- the line of a duty that was to be excused
abbrev pub excuse_line : Result Unit NotExcused → List ℕ
excuse_line (Ok _) = codes "ok"
excuse_line (Err e) = codes "refused " ++ decimal (excuse_number e)

-- the line of a claim: its length, or `refused`, the number and the places; of two duties that one vector covers
-- the earlier place, then the later
abbrev pub claim_line : Result ℕ ClaimRefusal → List ℕ
claim_line (Ok n) = decimal n
claim_line (Err claim.TooMany) = codes "refused 34"
claim_line (Err (claim.NoSuchDuty i)) = codes "refused 29 " ++ decimal i
claim_line (Err (claim.NamedBefore i)) = codes "refused 30 " ++ decimal i
claim_line (Err (claim.NotWanted i)) = codes "refused 31 " ++ decimal i
claim_line (Err (claim.NotCoverable i)) = codes "refused 32 " ++ decimal i
claim_line (Err (claim.CoveredTogether i j)) = codes "refused 33 " ++ (decimal i ++ (codes " " ++ decimal j))

-- the line that says which line of a script is not understood
abbrev pub unread_line : ℕ → List ℕ
unread_line n = codes "line " ++ (decimal n ++ codes ": not understood")
