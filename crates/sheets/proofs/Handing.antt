-- What the calls that take a slip answer and leave, by the place of its row: strike and exchange, done or refused for a
-- duty.
use Rattle.std.proofs.Common.{◌≡◌, ℕ, false, true, Bool, cond, ◌||◌, List, get_or, set, Some, None, Ok, Err, Option, sym, ap, ◌∙◌}
use Rattle.std.proofs.lemmas.List.{get_or_default, get_or_read}
use Rattle.std.specs.List.{remove}
use Rattle.cubes.specs.declared.cube.Cube.{Cube}
use Rattle.goals.specs.Goals.{Meaning}
use Rattle.sheets.specs.Sheets.{State, Outcome, refused, back, above, row_in, row_covers, in_place, lost, unless_lost, if_out, at_out, row_of, replaced, without, no_row}
use Rattle.sheets.specs.Striking.{strike}
use Rattle.sheets.specs.Exchanging.{exchange, exchange_row}
use Rattle.sheets.specs.Places.{Stands}
use Rattle.sheets.specs.declared.row.Row.{Row}
use Rattle.sheets.specs.declared.reply.Reply.TheVariants.{Done}
use Rattle.sheets.specs.declared.refusal.Refusal.{Refusal}
use Rattle.sheets.specs.declared.refusal.Refusal.TheVariants.{DutyLeftBare, NotOut, InputAbove}
use Rattle.sheets.proofs.Outcomes.{Gives, gives, other_rows}

-- the row r of serial n stands at i and is out; ys are the rows as they were asked for what they cover
module _ (m : Meaning) (s : State) (n i : ℕ) (st : Stands s.rows n i) (out : (get_or s.rows i no_row).out ≡ true) (r : Row) (is : r ≡ get_or s.rows i r) (ys : List Row) (same : ys ≡ s.rows) where
  handed : (f : Row → Outcome) → f r ≡ if_out s (row_of s.rows n) f
  handed f =
      let o : r.out ≡ true = ap (λ (x : Row). x.out) (get_or_read s.rows i r st.within is no_row) ∙ out in
      sym (ap (λ q. if_out s q f) (st.row r ∙ ap Some (sym is)) ∙ ap (λ b. cond b (f r) (refused s NotOut)) o)

  -- the row, read again as w, is changed at its place
  pub in_its_place : (w : Row) → w ≡ get_or s.rows i w → (b : Bool) → set s.rows i (at_out w b) ≡ replaced s.rows n (at_out r b)
  in_its_place w at b = ap (λ x. set s.rows i (at_out x b)) (at ∙ get_or_default s.rows i w r st.within ∙ sym is) ∙ sym (st.change (at_out r b))

  pub struck : (o : Option ℕ) → o ≡ lost m (row_covers m r) (in_place m ys) → unless_lost s n r o (without s.rows n) ≡ strike m s n
  struck o e =
      ap (λ q. unless_lost s n r q (without s.rows n)) (e ∙ ap (λ xs. lost m (row_covers m r) (in_place m xs)) same)
      ∙ handed (λ x. unless_lost s n x (lost m (row_covers m x) (in_place m s.rows)) (without s.rows n))

  pub exchanged : (c : Cube) → false ≡ above m c → (o : Option ℕ) → o ≡ lost m (row_covers m r) (λ k. m.covers c k || in_place m ys k) → unless_lost s n r o (replaced s.rows n (row_in n c)) ≡ exchange m s n c
  exchanged c fits o e =
      ap (λ q. unless_lost s n r q (replaced s.rows n (row_in n c))) (e ∙ ap (λ xs. lost m (row_covers m r) (λ k. m.covers c k || in_place m xs k)) same)
      ∙ ap (λ b. cond b (back s n r InputAbove) (exchange_row m s n c r)) fits
      ∙ handed (λ x. cond (above m c) (back s n x InputAbove) (exchange_row m s n c x))

-- the row r is out; what the calls answer and leave, done or refused for a duty
module _ (m : Meaning) (s : State) (n i : ℕ) (st : Stands s.rows n i) (r : Row) (is : r ≡ get_or s.rows i r) (out : r.out ≡ true) (ys : List Row) (same : ys ≡ s.rows) where
  its_out : (get_or s.rows i no_row).out ≡ true
  its_out = sym (ap (λ (x : Row). x.out) (get_or_read s.rows i r st.within is no_row)) ∙ out

  strike_by : (o : Option ℕ) → o ≡ lost m (row_covers m r) (in_place m ys) → unless_lost s n r o (without s.rows n) ≡ strike m s n
  strike_by = struck m s n i st its_out r is ys same

  -- refused, and the row, read again as w, is made in place
  back_in : (e : Refusal) (o : Outcome) → back s n r e ≡ o → (w : Row) → w ≡ get_or s.rows i w → Gives s (Err e) (set s.rows i (at_out w false)) o
  back_in e o is-o w at =
      other_rows s (Err e) (set s.rows i (at_out w false)) (replaced s.rows n (at_out r false)) o (in_its_place m s n i st its_out r is ys same w at false)
      (gives s (Err e) (replaced s.rows n (at_out r false)) o is-o)

  pub strike_bare : (d : ℕ) → Some d ≡ lost m (row_covers m r) (in_place m ys) → (w : Row) → w ≡ get_or s.rows i w → Gives s (Err (DutyLeftBare d)) (set s.rows i (at_out w false)) (strike m s n)
  strike_bare d e = back_in (DutyLeftBare d) (strike m s n) (strike_by (Some d) e)

  pub strike_done : None ≡ lost m (row_covers m r) (in_place m ys) → (rows : List Row) → rows ≡ remove s.rows i → Gives s (Ok Done) rows (strike m s n)
  strike_done e rows left =
      other_rows s (Ok Done) rows (without s.rows n) (strike m s n) (left ∙ sym st.remove)
      (gives s (Ok Done) (without s.rows n) (strike m s n) (strike_by None e))

  -- the new cube knows no input above the goal's
  module _ (c : Cube) (fits : false ≡ above m c) where
    exchange_by : (o : Option ℕ) → o ≡ lost m (row_covers m r) (λ k. m.covers c k || in_place m ys k) → unless_lost s n r o (replaced s.rows n (row_in n c)) ≡ exchange m s n c
    exchange_by = exchanged m s n i st its_out r is ys same c fits

    pub exchange_bare : (d : ℕ) → Some d ≡ lost m (row_covers m r) (λ k. m.covers c k || in_place m ys k) → (w : Row) → w ≡ get_or s.rows i w → Gives s (Err (DutyLeftBare d)) (set s.rows i (at_out w false)) (exchange m s n c)
    exchange_bare d e = back_in (DutyLeftBare d) (exchange m s n c) (exchange_by (Some d) e)

    pub exchange_done : None ≡ lost m (row_covers m r) (λ k. m.covers c k || in_place m ys k) → (x : Row) → x ≡ row_in n c → Gives s (Ok Done) (set s.rows i x) (exchange m s n c)
    exchange_done e x is_x =
        other_rows s (Ok Done) (set s.rows i x) (replaced s.rows n (row_in n c)) (exchange m s n c) (ap (set s.rows i) is_x ∙ sym (st.change (row_in n c)))
        (gives s (Ok Done) (replaced s.rows n (row_in n c)) (exchange m s n c) (exchange_by None e))
