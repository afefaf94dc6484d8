-- The end of a run: one call more of its answers, the rows when no slip is in hand, and the whole promise put together.
use Rattle.std.proofs.Common.{◌≡◌, ℕ, ◌+◌, ◌<◌, false, ◌&&◌, eqb, List, [], ◌∷◌, ◌++◌, map, length, get_or, take, Result, sym, refl, ap, ◌∙◌, arith}
use Rattle.std.proofs.lemmas.List.{take_more}
use Rattle.std.proofs.lemmas.Bool.{or_parts}
use Rattle.std.proofs.lemmas.Bool.Decides.{nat_tests}
use Rattle.claims.specs.declared.refusal.ClaimRefusal.{ClaimRefusal}
use Rattle.claims.specs.Claims as claims
use Rattle.claims.specs.Bounds.{Bound}
use Rattle.goals.specs.Goals.{Meaning, Lawful}
use Rattle.sheets.specs.declared.call.Call.{Call}
use Rattle.sheets.specs.declared.call.Call.TheVariants.{PutBack}
use Rattle.sheets.specs.declared.reply.Reply.{Reply}
use Rattle.sheets.specs.declared.refusal.Refusal.{Refusal}
use Rattle.sheets.proofs.Whole.{after_append, all_kept}
use Rattle.sheets.specs.declared.row.Row.{Row}
use Rattle.sheets.specs.Sheets.{State, new}
use Rattle.sheets.specs.Running.{does, after, answers}
use Rattle.runs.specs.Promise.{placed_rows, Promise}
use Rattle.runs.specs.Hands.{out_at, Ready, put_backs}
use Rattle.runs.proofs.Backs.{after_backs}
use Rattle.runs.proofs.Readiness.{all_in}

answers_append : (m : Meaning) (s : State) (xs ys : List Call) → answers m s (xs ++ ys) ≡ answers m s xs ++ answers m (after m s xs) ys
answers_append m s [] ys = refl
answers_append m s (c ∷ xs) ys = ap (λ rest. (does m s c).answer ∷ rest) (answers_append m (does m s c).after xs ys)

pub answers_more : (m : Meaning) (s : State) (calls : List Call) (i : ℕ) (d : Call) → i < length calls → answers m s (take (i + 1) calls) ≡ answers m s (take i calls) ++ ((does m (after m s (take i calls)) (get_or calls i d)).answer ∷ [])
answers_more m s calls i d h = ap (answers m s) (take_more calls i d h) ∙ answers_append m s (take i calls) (get_or calls i d ∷ [])

pub none_out : (rows : List Row) → ((n : ℕ) → out_at rows n ≡ false) → placed_rows rows ≡ rows
none_out [] h = refl
none_out (r ∷ rs) h =
    let here = h r.serial in
    let ih = none_out rs (λ n. (or_parts (r.out && eqb r.serial n) (out_at rs n) (h n)).1) in
    grind (arith, nat_tests)

pub promised : (m : Meaning) → Lawful m → (calls : List Call) (claimed : List ℕ) (told : List (Result Reply Refusal)) (middle left : State) (verdict : Result ℕ ClaimRefusal) →
    told ≡ answers m new calls → middle ≡ after m new calls → (ns : List ℕ) → left ≡ put_backs middle ns → Ready left [] → verdict ≡ claims.verdict m claimed → Bound m claimed verdict →
    Promise m calls claimed told left verdict
promised m law calls claimed told middle left verdict said mid ns backs ready judged bound = record {
  answered = said;
  still_out = ns;
  settled = backs ∙ sym (after_backs m middle ns) ∙ ap (λ s. after m s (map PutBack ns)) mid ∙ sym (after_append m new calls (map PutBack ns));
  none_out = none_out left.rows (all_in left ready);
  kept = all_kept m law (calls ++ map PutBack ns);
  judged = judged;
  bound = bound;
  shortest = bound.no_shorter (length left.rows);
}
