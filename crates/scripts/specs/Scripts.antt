-- What a whole script asks: the lines are added to it one by one.
use Rattle.std.specs.Prelude.{◌≡◌, ℕ, ◌+◌, cond, ◌||◌, List, [], ◌∷◌, ◌++◌, length, drop, is_some, Some, None, Ok, Err, vec_items, Option, Result, Vec, nat_lt}
use Rattle.std.specs.declared.alloc.Global.{Global}
use Rattle.sheets.specs.declared.call.Call.{Call}
use Rattle.scripts.specs.declared.script.Line.{Line}
use Rattle.scripts.specs.declared.script.Line.TheVariants as line
use Rattle.scripts.specs.declared.script.Script.{Script}
use Rattle.scripts.specs.declared.refusal.LineRefusal.{LineRefusal}
use Rattle.scripts.specs.declared.refusal.LineRefusal.TheVariants as line_refusal
use Rattle.scripts.specs.declared.script.Unreadable.{Unreadable}
use Rattle.scripts.specs.declared.script.Unreadable.TheVariants.{NotUnderstood, NoMemory}
use Rattle.scripts.specs.Numerals.{number_of}
use Rattle.scripts.specs.Words.{bare, words_of, lines_of}
use Rattle.scripts.specs.Lines.{of_one, of_two, line_of}

-- the numbers that all the words are; none where one of them is no number
abbrev pub all_numbers : List (List ℕ) → Option (List ℕ)
all_numbers [] = Some []
all_numbers (w ∷ ws) = of_two (λ n ns. n ∷ ns) (number_of w) (all_numbers ws)

-- the numbers in a list of the code, where there is one
abbrev pub listed : Option (Vec ℕ Global) → Option (List ℕ)
listed None = None
listed (Some v) = Some (vec_items v)

-- what reading the numbers of a claim answers
abbrev pub Numbered : Option (List ℕ) → Result (Vec ℕ Global) LineRefusal → Type 0
Numbered o (Ok v) = o ≡ Some (vec_items v)
Numbered o (Err line_refusal.NotUnderstood) = o ≡ None
Numbered o (Err line_refusal.NoMemory) = Unit {0}

-- the duties to excuse, then the calls, then the claim, where there is one
pub record Plan : Type 0 where
  pub excused : List ℕ
  pub calls : List Call
  pub claimed : Option (List ℕ)

abbrev pub plan : Script → Plan
plan s = record { excused = vec_items s.excused; calls = vec_items s.calls; claimed = listed s.claimed }

abbrev pub empty : Plan
empty = record { excused = []; calls = []; claimed = None }

-- a duty is excused before the first call and before the claim
abbrev pub with_excuse : Plan → ℕ → Option Plan
with_excuse p d = cond (is_some p.claimed || nat_lt 0 (length p.calls)) None (Some (record { excused = p.excused ++ (d ∷ []); calls = p.calls; claimed = p.claimed }))

-- a call comes before the claim
abbrev pub with_call : Plan → Call → Option Plan
with_call p c = cond (is_some p.claimed) None (Some (record { excused = p.excused; calls = p.calls ++ (c ∷ []); claimed = p.claimed }))

-- there is at most one claim
abbrev pub claiming : Plan → List ℕ → Plan
claiming p ns = record { excused = p.excused; calls = p.calls; claimed = Some ns }

abbrev pub with_claim : Plan → Option (List ℕ) → Option Plan
with_claim p ns = cond (is_some p.claimed) None (of_one (claiming p) ns)

-- the plan with one more line, where the line is understood and may stand there
abbrev pub with_line : Plan → Option Line → List (List ℕ) → Option Plan
with_line p None ws = None
with_line p (Some line.Nothing) ws = Some p
with_line p (Some (line.Excuse d)) ws = with_excuse p d
with_line p (Some (line.Do c)) ws = with_call p c
with_line p (Some line.Claim) ws = with_claim p (all_numbers (drop 1 ws))

abbrev pub adds : Plan → List (List ℕ) → Option Plan
adds p ws = with_line p (line_of ws) ws

-- what a call that adds to a script answers, and the plan that it leaves
abbrev pub Added : Option Plan → Plan → Result (Unit {0}) LineRefusal → Type 0
Added o q (Ok _) = o ≡ Some q
Added o q (Err line_refusal.NotUnderstood) = o ≡ None
Added o q (Err line_refusal.NoMemory) = Unit {0}

-- the plan so far, or the number of the first line that is not understood, after one more line
abbrev pub found : Option Plan → ℕ → Result Plan ℕ
found None n = Err n
found (Some p) n = Ok p

abbrev pub next : Result Plan ℕ → ℕ → List ℕ → Result Plan ℕ
next (Err k) n l = Err k
next (Ok p) n l = found (adds p (words_of (bare l))) n

-- the same after all lines, of which the first has this number
abbrev pub reads : Result Plan ℕ → ℕ → List (List ℕ) → Result Plan ℕ
reads r n [] = r
reads r n (l ∷ ls) = reads (next r n l) (n + 1) ls

-- what a text asks, or the first line that is not understood; lines count from 1
abbrev pub script_of : List ℕ → Result Plan ℕ
script_of text = reads (Ok empty) 1 (lines_of text)

-- what reading a text answers
abbrev pub Read : List ℕ → Result Script Unreadable → Type 0
Read text (Ok s) = script_of text ≡ Ok (plan s)
Read text (Err (NotUnderstood n)) = script_of text ≡ Err n
Read text (Err NoMemory) = Unit {0}
