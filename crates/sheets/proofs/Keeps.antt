-- Every call keeps what is wanted and covered: a wanted duty that some row covered is covered after it.
use Rattle.std.proofs.Common.{◌≡◌, ℕ, ◌+◌, Bool, true, false, cond, not, ◌&&◌, ◌||◌, eqb, leb, List, [], ◌∷◌, ◌++◌, length, is_some, Some, None, Option, refl, ap, ◌∙◌, inl, inr, arith}
use lib.Bits.{bit_or}
use Rattle.std.proofs.lemmas.Bool.{eqb-false, cases_Bool, or_parts, both_ways}
use Rattle.std.proofs.lemmas.List.{append_assoc}
use Rattle.std.proofs.lemmas.List.Folds.{list_any-append}
use Rattle.cubes.specs.Masks.{bit}
use Rattle.cubes.specs.Cubes.{vector, of_masks, Refines}
use Rattle.cubes.specs.Searching.{least}
use Rattle.cubes.specs.declared.cube.Cube.{Cube}
use Rattle.cubes.proofs.Alike.{of_masks_is, masks_of}
use Rattle.cubes.proofs.Bits.{bit_of_or}
use Rattle.cubes.proofs.Searches.{least_none}
use Rattle.goals.specs.Goals.{Meaning, Lawful, vectors, covered_at}
use Rattle.goals.proofs.Wanting.{wanted_below}
use Rattle.sheets.specs.declared.row.Row.{Row}
use Rattle.sheets.specs.declared.call.Call.{Call}
use Rattle.sheets.specs.declared.call.Call.TheVariants.{Enter, Cover, Pull, PutBack, Strike, Exchange, Join, Sweep}
use Rattle.sheets.specs.declared.reply.Reply.TheVariants.{Gave, Already, Done}
use Rattle.sheets.specs.declared.refusal.Refusal.TheVariants.{InputAbove, SheetFull, SerialsSpent, RowOut, NotOut, NotJoinable, NoSuchDuty, NotWanted}
use Rattle.sheets.specs.Sheets.{State, Outcome, refused, settled, back, above, row_in, at_out, if_out, unless_lost, some_covers, row_covers, covered, in_place, loses, lost, row_of, replaced, without}
use Rattle.sheets.specs.Entering.{enter, entry, added}
use Rattle.sheets.specs.Covering.{cover, cover_wanted, enter_vector}
use Rattle.sheets.specs.Pulling.{pull, pull_row, put_back}
use Rattle.sheets.specs.Striking.{strike}
use Rattle.sheets.specs.Exchanging.{exchange, exchange_row}
use Rattle.sheets.specs.Joining.{join, join_rows, join_two, join_cube}
use Rattle.sheets.specs.Sweeping.{needed, keep, kept, sweep}
use Rattle.sheets.specs.Running.{does, after}
use Rattle.sheets.proofs.Coverage.{covered_in_place, covered_replaced, covered_without, in_place_without, in_place_replaced, covered_by, row_of_other, row_of_same, row_of_without}

-- a disjunction has the bits of both masks
or_first : (a b i : ℕ) → bit a i ≡ 1 → bit (bit_or a b) i ≡ 1
or_first a b i h = let e = bit_of_or a b i in omega arith

or_second : (a b i : ℕ) → bit b i ≡ 1 → bit (bit_or a b) i ≡ 1
or_second a b i h = let e = bit_of_or a b i in omega arith

module _ (m : Meaning) (law : Lawful m) where
  abbrev pub Keeps : List Row → List Row → Type 0
  Keeps xs ys = (d : ℕ) → m.wanted d ≡ true → covered m xs d ≡ true → covered m ys d ≡ true

  -- where nothing is lost, what was covered is covered
  pub none_lost : (had has : ℕ → Bool) → lost m had has ≡ None → (d : ℕ) → m.wanted d ≡ true → had d ≡ true → has d ≡ true
  none_lost had has e d w h =
      let p : (m.wanted d && (had d && not (has d))) ≡ false = least_none m.duties (loses m had has) e d (wanted_below m law d w) in
      grind arith

  keeps_push : (xs : List Row) (r : Row) → Keeps xs (xs ++ (r ∷ []))
  keeps_push xs r d w e = (let p = list_any-append (λ x. row_covers m x d) xs (r ∷ []) in grind arith)

  keeps_cond : (xs : List Row) (b : Bool) (o p : Outcome) → (b ≡ true → Keeps xs o.after.rows) → (b ≡ false → Keeps xs p.after.rows) → Keeps xs (cond b o p).after.rows
  keeps_cond xs true o p f g = f refl
  keeps_cond xs false o p f g = g refl

  same : (xs : List Row) → Keeps xs xs
  same xs d w e = e

  keeps_entry : (s : State) (c : Cube) → Keeps s.rows (entry s c).after.rows
  keeps_entry s c =
      keeps_cond s.rows (leb 256 (length s.rows)) (refused s SheetFull) (cond (leb 65535 s.given) (refused s SerialsSpent) (added s c)) (λ _. same s.rows)
      (λ _. keeps_cond s.rows (leb 65535 s.given) (refused s SerialsSpent) (added s c) (λ _. same s.rows) (λ _. keeps_push s.rows (row_in (s.given + 1) c)))

  keeps_enter : (s : State) (c : Cube) → Keeps s.rows (enter m s c).after.rows
  keeps_enter s c = keeps_cond s.rows (above m c) (refused s InputAbove) (entry s c) (λ _. same s.rows) (λ _. keeps_entry s c)

  keeps_vector : (s : State) (o : Option ℕ) → Keeps s.rows (enter_vector m s o).after.rows
  keeps_vector s None = same s.rows
  keeps_vector s (Some v) = keeps_entry s (vector m.inputs v)

  keeps_cover : (s : State) (d : ℕ) → Keeps s.rows (cover m s d).after.rows
  keeps_cover s d =
      keeps_cond s.rows (leb m.duties d) (refused s NoSuchDuty) (cond (not (m.wanted d)) (refused s NotWanted) (cover_wanted m s d)) (λ _. same s.rows)
      (λ _. keeps_cond s.rows (not (m.wanted d)) (refused s NotWanted) (cover_wanted m s d) (λ _. same s.rows)
      (λ _. keeps_cond s.rows (in_place m s.rows d) (settled s Already s.rows) (enter_vector m s (least (vectors m) (covered_at m d))) (λ _. same s.rows) (λ _. keeps_vector s (least (vectors m) (covered_at m d)))))

  -- a row that only goes out, or comes back
  keeps_at_out : (xs : List Row) (n : ℕ) (r : Row) (b : Bool) → row_of xs n ≡ Some r → Keeps xs (replaced xs n (at_out r b))
  keeps_at_out xs n r b f d w e = covered_replaced m d xs n r (at_out r b) f (λ k. k) e

  keeps_pull : (s : State) (n : ℕ) → Keeps s.rows (pull s n).after.rows
  keeps_pull s n = step (row_of s.rows n) refl
    where
      step : (o : Option Row) → row_of s.rows n ≡ o → Keeps s.rows (pull_row s n o).after.rows
      step None f = same s.rows
      step (Some r) f = keeps_cond s.rows r.out (refused s RowOut) (settled s (Gave n) (replaced s.rows n (at_out r true))) (λ _. same s.rows) (λ _. keeps_at_out s.rows n r true f)

  keeps_if_out : (s : State) (n : ℕ) (f : Row → Outcome) → ((r : Row) → row_of s.rows n ≡ Some r → r.out ≡ true → Keeps s.rows (f r).after.rows) → Keeps s.rows (if_out s (row_of s.rows n) f).after.rows
  keeps_if_out s n f k = step (row_of s.rows n) refl
    where
      step : (o : Option Row) → row_of s.rows n ≡ o → Keeps s.rows (if_out s o f).after.rows
      step None e = same s.rows
      step (Some r) e = keeps_cond s.rows r.out (f r) (refused s NotOut) (k r e) (λ _. same s.rows)

  keeps_put_back : (s : State) (n : ℕ) → Keeps s.rows (put_back s n).after.rows
  keeps_put_back s n = keeps_if_out s n (λ r. settled s Done (replaced s.rows n (at_out r false))) (λ r f o. keeps_at_out s.rows n r false f)

  keeps_unless_lost : (s : State) (n : ℕ) (r : Row) (o : Option ℕ) (ys : List Row) → row_of s.rows n ≡ Some r → (o ≡ None → Keeps s.rows ys) → Keeps s.rows (unless_lost s n r o ys).after.rows
  keeps_unless_lost s n r None ys f k = k refl
  keeps_unless_lost s n r (Some d) ys f k = keeps_at_out s.rows n r false f

  keeps_strike : (s : State) (n : ℕ) → Keeps s.rows (strike m s n).after.rows
  keeps_strike s n = keeps_if_out s n (λ r. unless_lost s n r (lost m (row_covers m r) (in_place m s.rows)) (without s.rows n))
      (λ r f o. keeps_unless_lost s n r (lost m (row_covers m r) (in_place m s.rows)) (without s.rows n) f (λ e d w c.
      elim (cases_Bool (row_covers m r d)) [
        | inl h ↦ covered_in_place m d (without s.rows n) (in_place_without m d s.rows n r f o (none_lost (row_covers m r) (in_place m s.rows) e d w h))
        | inr h ↦ covered_without m d s.rows n r f (λ t. both_ways _ h t) c
      ]))

  -- a row made of a cube covers what the cube covers
  pub row_of_cube : (c : Cube) (n d : ℕ) → row_covers m (row_in n c) d ≡ m.covers c d
  row_of_cube c n d = ap (λ o. some_covers m o d) (of_masks_is c.zeros c.ones c refl refl)

  keeps_exchange_row : (s : State) (n : ℕ) (c : Cube) (r : Row) → row_of s.rows n ≡ Some r → r.out ≡ true → Keeps s.rows (exchange_row m s n c r).after.rows
  keeps_exchange_row s n c r f o = keeps_unless_lost s n r (lost m (row_covers m r) (λ d. m.covers c d || in_place m s.rows d)) (replaced s.rows n (row_in n c)) f (λ e d w k.
      elim (cases_Bool (m.covers c d)) [
        | inl h ↦ covered_replaced m d s.rows n r (row_in n c) f (λ _. row_of_cube c n d ∙ h) k
        | inr h ↦ elim (cases_Bool (row_covers m r d)) [
          | inl t ↦ (let z : (m.covers c d || in_place m s.rows d) ≡ true = none_lost (row_covers m r) (λ d. m.covers c d || in_place m s.rows d) e d w t in
              covered_in_place m d (replaced s.rows n (row_in n c)) (in_place_replaced m d s.rows n r (row_in n c) f o (grind arith)))
          | inr t ↦ covered_replaced m d s.rows n r (row_in n c) f (λ u. absurd (both_ways _ t u)) k
        ]
      ])

  keeps_exchange : (s : State) (n : ℕ) (c : Cube) → Keeps s.rows (exchange m s n c).after.rows
  keeps_exchange s n c = keeps_if_out s n (λ r. cond (above m c) (back s n r InputAbove) (exchange_row m s n c r))
      (λ r f o. keeps_cond s.rows (above m c) (back s n r InputAbove) (exchange_row m s n c r) (λ _. keeps_at_out s.rows n r false f) (λ _. keeps_exchange_row s n c r f o))

  -- what the masks of both rows make covers what either row covers
  covers_joined : (x : Row) (c : Cube) (d : ℕ) → ((a : Cube) → a.zeros ≡ x.zeros → a.ones ≡ x.ones → m.covers a d ≡ true → m.covers c d ≡ true) → row_covers m x d ≡ true → m.covers c d ≡ true
  covers_joined x c d k = step (of_masks x.zeros x.ones) refl
    where
      step : (o : Option Cube) → of_masks x.zeros x.ones ≡ o → some_covers m o d ≡ true → m.covers c d ≡ true
      step None f e = grind arith
      step (Some a) f e = let q = masks_of x.zeros x.ones a f in k a q.0 q.1 e

  keeps_join_cube : (s : State) (a b : ℕ) (x y : Row) (c : Cube) → row_of s.rows a ≡ Some x → row_of s.rows b ≡ Some y → (a ≡ b → ⊥)
      → c.zeros ≡ bit_or x.zeros y.zeros → c.ones ≡ bit_or x.ones y.ones → Keeps s.rows (without (replaced s.rows a (row_in a c)) b)
  keeps_join_cube s a b x y c fa fb ne ez eo d w e =
      let z = row_in a c in
      let new : m.covers c d ≡ true → row_covers m z d ≡ true = λ h. row_of_cube c a d ∙ h in
      let left : row_covers m x d ≡ true → m.covers c d ≡ true = covers_joined x c d (λ p pz po h. law.refined c p d (refines_l p pz po) h) in
      let right : row_covers m y d ≡ true → m.covers c d ≡ true = covers_joined y c d (λ p pz po h. law.refined c p d (refines_r p pz po) h) in
      let first : covered m (replaced s.rows a z) d ≡ true = covered_replaced m d s.rows a x z fa (λ h. new (left h)) e in
      let at_a : row_of (replaced s.rows a z) a ≡ Some z = row_of_same s.rows a x z fa refl in
      let at_b : row_of (replaced s.rows a z) b ≡ Some y = row_of_other s.rows a b z refl ne ∙ fb in
      let stays : row_of (without (replaced s.rows a z) b) a ≡ Some z = row_of_without (replaced s.rows a z) a b ne ∙ at_a in
      elim (cases_Bool (row_covers m y d)) [
        | inl h ↦ covered_by m d (without (replaced s.rows a z) b) a z stays (new (right h))
        | inr h ↦ covered_without m d (replaced s.rows a z) b y at_b (λ t. both_ways _ h t) first
      ]
    where
      refines_l : (p : Cube) → p.zeros ≡ x.zeros → p.ones ≡ x.ones → Refines c p
      refines_l p pz po i = (rw (pz, ez) (or_first x.zeros y.zeros i), rw (po, eo) (or_first x.ones y.ones i))

      refines_r : (p : Cube) → p.zeros ≡ y.zeros → p.ones ≡ y.ones → Refines c p
      refines_r p pz po i = (rw (pz, ez) (or_second x.zeros y.zeros i), rw (po, eo) (or_second x.ones y.ones i))

  keeps_join_two : (s : State) (a b : ℕ) (x y : Row) → row_of s.rows a ≡ Some x → row_of s.rows b ≡ Some y → Keeps s.rows (join_two s a b x y).after.rows
  keeps_join_two s a b x y fa fb =
      keeps_cond s.rows (eqb a b) (refused s NotJoinable) (join_cube s a b (of_masks (bit_or x.zeros y.zeros) (bit_or x.ones y.ones))) (λ _. same s.rows)
      (λ ne. step (of_masks (bit_or x.zeros y.zeros) (bit_or x.ones y.ones)) refl (eqb-false a b ne))
    where
      step : (o : Option Cube) → of_masks (bit_or x.zeros y.zeros) (bit_or x.ones y.ones) ≡ o → (a ≡ b → ⊥) → Keeps s.rows (join_cube s a b o).after.rows
      step None f ne = same s.rows
      step (Some c) f ne = let q = masks_of (bit_or x.zeros y.zeros) (bit_or x.ones y.ones) c f in keeps_join_cube s a b x y c fa fb ne q.0 q.1

  keeps_join : (s : State) (a b : ℕ) → Keeps s.rows (join s a b).after.rows
  keeps_join s a b = step (row_of s.rows a) refl (row_of s.rows b) refl
    where
      step : (o : Option Row) → row_of s.rows a ≡ o → (p : Option Row) → row_of s.rows b ≡ p → Keeps s.rows (join_rows s a b o p).after.rows
      step None fa p fb = same s.rows
      step (Some x) fa None fb = same s.rows
      step (Some x) fa (Some y) fb = keeps_cond s.rows (x.out || y.out) (refused s RowOut) (join_two s a b x y) (λ _. same s.rows) (λ _. keeps_join_two s a b x y fa fb)

  -- a row that is not needed has all its wanted duties covered in place
  pub not_needed : (r : Row) (others : List Row) → needed m r others ≡ false → (d : ℕ) → m.wanted d ≡ true → row_covers m r d ≡ true → in_place m others d ≡ true
  not_needed r others n d w h = step (lost m (row_covers m r) (in_place m others)) refl (or_parts r.out (is_some (lost m (row_covers m r) (in_place m others))) n).1
    where
      step : (o : Option ℕ) → lost m (row_covers m r) (in_place m others) ≡ o → is_some o ≡ false → in_place m others d ≡ true
      step None f e = none_lost (row_covers m r) (in_place m others) f d w h
      step (Some k) f e = grind arith

  keeps_kept : (before rows : List Row) → Keeps (before ++ rows) (before ++ kept m before rows)
  keeps_kept before [] d w e = e
  keeps_kept before (r ∷ rs) d w e =
      let ih : covered m ((before ++ (r ∷ [])) ++ kept m (before ++ r ∷ []) rs) d ≡ true = keeps_kept (before ++ r ∷ []) rs d w (rw (append_assoc before (r ∷ []) rs) e) in
      step (kept m (before ++ r ∷ []) rs) (rw (append_assoc before (r ∷ []) (kept m (before ++ r ∷ []) rs)) at ih)
    where
      step : (after : List Row) → covered m (before ++ (r ∷ after)) d ≡ true → covered m (before ++ keep m before r after) d ≡ true
      step after h = by (needed m r (before ++ after)) refl
        where
          by : (b : Bool) → needed m r (before ++ after) ≡ b → covered m (before ++ cond b (r ∷ after) after) d ≡ true
          by true n = h
          by false n = elim (cases_Bool (row_covers m r d)) [
            | inl t ↦ covered_in_place m d (before ++ after) (not_needed r (before ++ after) n d w t)
            | inr t ↦ (let p = list_any-append (λ x. row_covers m x d) before (r ∷ after) in let q = list_any-append (λ x. row_covers m x d) before after in grind arith)
          ]

  keeps_sweep : (s : State) → Keeps s.rows (sweep m s).after.rows
  keeps_sweep s = keeps_kept [] s.rows

  pub keeps : (s : State) (c : Call) → Keeps s.rows (does m s c).after.rows
  keeps s (Enter c) = keeps_enter s c
  keeps s (Cover d) = keeps_cover s d
  keeps s (Pull n) = keeps_pull s n
  keeps s (PutBack n) = keeps_put_back s n
  keeps s (Strike n) = keeps_strike s n
  keeps s (Exchange n c) = keeps_exchange s n c
  keeps s (Join a b) = keeps_join s a b
  keeps s Sweep = keeps_sweep s

  pub keeps_after : (s : State) (cs : List Call) → Keeps s.rows (after m s cs).rows
  keeps_after s [] d w e = e
  keeps_after s (c ∷ cs) d w e = keeps_after (does m s c).after cs d w (keeps s c d w e)
