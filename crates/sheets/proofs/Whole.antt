-- What holds of every list of calls from a new sheet on.
use Rattle.std.proofs.Common.{◌≡◌, ℕ, ◌+◌, ◌<◌, List, [], ◌∷◌, ◌++◌, length, get_or, take, drop, sym, refl, ap, ◌∙◌, subst}
use Rattle.std.proofs.lemmas.List.{take-take, take_more, take-append-drop}
use Rattle.goals.specs.Goals.{Meaning, Lawful}
use Rattle.sheets.specs.Sheets.{State, new, covered}
use Rattle.sheets.specs.Sweeping.{Swept}
use Rattle.sheets.specs.Running.{does, after, rows_after, NoneSpare, Kept}
use Rattle.sheets.specs.declared.call.Call.{Call}
use Rattle.sheets.specs.declared.call.Call.TheVariants.{Sweep}
use Rattle.sheets.proofs.Keeps.{keeps_after}
use Rattle.sheets.proofs.Spares.{none_spare_swept}
use Rattle.sheets.proofs.Stays.{swept}

pub after_append : (m : Meaning) (s : State) (xs ys : List Call) → after m s (xs ++ ys) ≡ after m (after m s xs) ys
after_append m s [] ys = refl
after_append m s (c ∷ xs) ys = after_append m (does m s c).after xs ys

-- one call more
pub after_more : (m : Meaning) (s : State) (calls : List Call) (i : ℕ) (d : Call) → i < length calls → after m s (take (i + 1) calls) ≡ (does m (after m s (take i calls)) (get_or calls i d)).after
after_more m s calls i d h = ap (after m s) (take_more calls i d h) ∙ after_append m s (take i calls) (get_or calls i d ∷ [])

-- a sweep at place i
module _ (m : Meaning) (calls : List Call) (i : ℕ) (h : i < length calls) (e : get_or calls i Sweep ≡ Sweep) where
  at_sweep : after m new (take (i + 1) calls) ≡ (does m (after m new (take i calls)) Sweep).after
  at_sweep = after_more m new calls i Sweep h ∙ ap (λ c. (does m (after m new (take i calls)) c).after) e

  swept_at : Swept m (rows_after m calls i) (rows_after m calls (i + 1))
  swept_at = subst (λ s. Swept m (rows_after m calls i) s.rows) (sym at_sweep) (swept m (rows_after m calls i))

  none_spare_at : NoneSpare m (rows_after m calls (i + 1))
  none_spare_at = subst (λ s. NoneSpare m s.rows) (sym at_sweep) (none_spare_swept m (rows_after m calls i))

pub all_kept : (m : Meaning) → Lawful m → Kept m
all_kept m law calls = record {
  never_bare = λ i j d le w e.
      let split : take j calls ≡ take i calls ++ drop i (take j calls) = sym (take-append-drop i (take j calls)) ∙ ap (λ xs. xs ++ drop i (take j calls)) (take-take i j calls le) in
      let at : after m new (take j calls) ≡ after m (after m new (take i calls)) (drop i (take j calls)) = ap (after m new) split ∙ after_append m new (take i calls) (drop i (take j calls)) in
      ap (λ s. covered m s.rows d) at ∙ keeps_after m law (after m new (take i calls)) (drop i (take j calls)) d w e;
  swept = swept_at m calls;
  none_spare = none_spare_at m calls;
}
