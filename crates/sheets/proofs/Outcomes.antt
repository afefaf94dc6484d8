-- A call that gives the answer and the rows of an outcome.
use Rattle.std.proofs.Common.{◌≡◌, List, Result, ap, ◌∙◌}
use Rattle.sheets.specs.Sheets.{State, Outcome}
use Rattle.sheets.specs.declared.row.Row.{Row}
use Rattle.sheets.specs.declared.reply.Reply.{Reply}
use Rattle.sheets.specs.declared.refusal.Refusal.{Refusal}

-- the answer and the rows are those of an outcome, and the last serial is as in the state
pub record Gives (s : State) (a : Result Reply Refusal) (rows : List Row) (o : Outcome) : Type 0 where
  pub answer : a ≡ o.answer
  pub after : record { rows = rows; given = s.given } ≡ o.after

pub gives : (s : State) (a : Result Reply Refusal) (rows : List Row) (o : Outcome) → record { answer = a; after = record { rows = rows; given = s.given } } ≡ o → Gives s a rows o
gives s a rows o e = record { answer = ap (λ (p : Outcome). p.answer) e; after = ap (λ (p : Outcome). p.after) e }

-- other rows that are equal
pub other_rows : (s : State) (a : Result Reply Refusal) (xs ys : List Row) (o : Outcome) → xs ≡ ys → Gives s a ys o → Gives s a xs o
other_rows s a xs ys o e g = record { answer = g.answer; after = ap (λ l. record { rows = l; given = s.given }) e ∙ g.after }
