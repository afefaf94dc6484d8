-- The slips in hand are those of the rows that are out: so it is at a new sheet, and after each call with its slip kept or
-- handed in.
use Rattle.std.proofs.Common.{◌≡◌, ℕ, ◌+◌, ◌<◌, ◌≤◌, Bool, true, false, cond, not, ◌||◌, ◌==◌, eqb, leb, List, [], ◌∷◌, ◌++◌, length, Some, None, Ok, Option, sym, refl, ap, ◌∙◌, inl, inr, arith}
use lib.Bits.{bit_or}
use Rattle.std.proofs.lemmas.List.{length_push}
use Rattle.std.proofs.lemmas.List.Folds.{list_any-append}
use Rattle.std.proofs.lemmas.Bool.{eq-eqb, eqb-false, cases_eq, both_ways}
use Rattle.std.proofs.lemmas.Bool.Decides.{nat_tests}
use Rattle.cubes.specs.declared.cube.Cube.{Cube}
use Rattle.cubes.specs.Cubes.{of_masks, vector}
use Rattle.cubes.specs.Searching.{least}
use Rattle.goals.specs.Goals.{Meaning, vectors, covered_at}
use Rattle.sheets.specs.Sheets.{State, Outcome, new, above, back, refused, settled, if_out, unless_lost, lost, row_covers, in_place, row_in, at_out, row_of, replaced, without}
use Rattle.sheets.specs.Entering.{added, entry, enter}
use Rattle.sheets.specs.Covering.{enter_vector, cover_wanted, cover}
use Rattle.sheets.specs.Pulling.{pull_row, pull, put_back}
use Rattle.sheets.specs.Striking.{strike}
use Rattle.sheets.specs.Exchanging.{exchange_row, exchange}
use Rattle.sheets.specs.Joining.{join_cube, join_rows, join}
use Rattle.sheets.specs.Sweeping.{sweep, kept}
use Rattle.sheets.specs.declared.row.Row.{Row}
use Rattle.sheets.specs.declared.slip.Slip.{Slip}
use Rattle.sheets.specs.declared.reply.Reply.TheVariants.{Gave, Already, Done}
use Rattle.sheets.specs.declared.refusal.Refusal.TheVariants.{InputAbove, SheetFull, SerialsSpent, RowOut, NotOut, NotJoinable, NoSuchDuty, NotWanted}
use Rattle.sheets.proofs.Coverage.{row_of_other}
use Rattle.runs.specs.Hands.{holds, Taken, out_at, tally, outs, Ready}
use Rattle.runs.proofs.Outs.{serial_of, out_at_row, out_at_no_row, out_at_in_place, tally_replaced, outs_replaced, out_at_replaced, out_at_back, tally_without, outs_without, out_at_without, out_at_gone, tally_push, out_at_push, outs_push, tally_kept, out_at_kept, outs_kept}

pub ready_new : Ready new []
ready_new = record { once = λ k. omega arith; unused = λ k l. refl; in_hand = λ k h. h; few = omega arith }

-- with no slip left, no row is out
pub all_in : (s : State) → Ready s [] → (n : ℕ) → out_at s.rows n ≡ false
all_in s w n = let h = w.in_hand n in grind arith

module _ (s : State) (ps : List Slip) (w : Ready s ps) where
  -- other rows, no more of any serial
  ready_by : (rows : List Row) (qs : List Slip) → ((k : ℕ) → tally rows k ≤ tally s.rows k) → ((k : ℕ) → out_at rows k ≡ true → holds qs k ≡ true) → length qs ≤ outs rows → Ready (record { rows = rows; given = s.given }) qs
  ready_by rows qs t h f = record {
    once = λ k. omega (arith, t k, w.once k);
    unused = λ k l. omega (arith, t k, w.unused k l);
    in_hand = h;
    few = f;
  }

  -- a row in place is made out, and its slip is kept
  ready_out : (p : Slip) (n : ℕ) (r : Row) → p.serial ≡ n → row_of s.rows n ≡ Some r → r.out ≡ false → Ready (record { rows = replaced s.rows n (at_out r true); given = s.given }) (ps ++ (p ∷ []))
  ready_out p n r e f o =
      let x = at_out r true in
      let sx = serial_of s.rows n r f in
      ready_by (replaced s.rows n x) (ps ++ (p ∷ []))
      (λ k. omega (arith, tally_replaced n x sx s.rows k))
      (λ k h. let q = list_any-append (λ (t : Slip). t.serial == k) ps (p ∷ []) in elim (cases_eq k n) [
        | inl a ↦ (let t : eqb p.serial k ≡ true = eq-eqb p.serial k (e ∙ sym a) in grind arith)
        | inr a ↦ (let t : holds ps k ≡ true = w.in_hand k (sym (out_at_replaced n x sx s.rows k a) ∙ h) in grind arith)
      ])
      (let a = outs_replaced n x s.rows r f in let b = length_push ps p in let c = w.few in grind arith)

  pub ready_pull : (p : Slip) (n : ℕ) → Ok (Gave p.serial) ≡ (pull s n).answer → Ready (pull s n).after (ps ++ (p ∷ []))
  ready_pull p n a = step (row_of s.rows n) refl a
    where
      step : (o : Option Row) → row_of s.rows n ≡ o → Ok (Gave p.serial) ≡ (pull_row s n o).answer → Ready (pull_row s n o).after (ps ++ (p ∷ []))
      step None f e = let z : ◌≡◌ {A = ℕ} 0 1 = cc in absurd (omega arith)
      step (Some r) f e = by r.out refl e
        where
          by : (b : Bool) → r.out ≡ b → Ok (Gave p.serial) ≡ (cond b (refused s RowOut) (settled s (Gave n) (replaced s.rows n (at_out r true)))).answer → Ready (cond b (refused s RowOut) (settled s (Gave n) (replaced s.rows n (at_out r true)))).after (ps ++ (p ∷ []))
          by true o q = let z : ◌≡◌ {A = ℕ} 0 1 = cc in absurd (omega arith)
          by false o q = ready_out p n r (let t : p.serial ≡ n = cc in t) f o

  -- the slip of serial n is handed in
  module _ (qs : List Slip) (p : Slip) (n : ℕ) (t : Taken ps n qs (Some p)) where
    -- and then no row of the serial is out, no other row is that was not, and at most one fewer is in all
    ready_less : (rows : List Row) → ((k : ℕ) → tally rows k ≤ tally s.rows k) → out_at rows n ≡ false → ((k : ℕ) → (k ≡ n → ⊥) → out_at rows k ≡ true → out_at s.rows k ≡ true) → outs s.rows ≤ outs rows + 1 → Ready (record { rows = rows; given = s.given }) qs
    ready_less rows f none others few =
        ready_by rows qs f
        (λ k h. elim (cases_eq k n) [
          | inl a ↦ absurd (both_ways (out_at rows n) none (ap (out_at rows) (sym a) ∙ h))
          | inr a ↦ t.2 k a ∙ w.in_hand k (others k a h)
        ])
        (omega (arith, t.1, w.few))

    -- its row is in place, with whatever cube
    ready_in : (r x : Row) → row_of s.rows n ≡ Some r → r.out ≡ true → x.serial ≡ n → x.out ≡ false → Ready (record { rows = replaced s.rows n x; given = s.given }) qs
    ready_in r x f o sx ox =
        ready_less (replaced s.rows n x)
        (λ k. omega (arith, tally_replaced n x sx s.rows k))
        (out_at_back n x ox s.rows (w.once n))
        (λ k a h. sym (out_at_replaced n x sx s.rows k a) ∙ h)
        (let a = outs_replaced n x s.rows r f in grind arith)

    ready_back : (r : Row) → row_of s.rows n ≡ Some r → r.out ≡ true → Ready (record { rows = replaced s.rows n (at_out r false); given = s.given }) qs
    ready_back r f o = ready_in r (at_out r false) f o (serial_of s.rows n r f) refl

    -- it is removed
    ready_gone : (r : Row) → row_of s.rows n ≡ Some r → r.out ≡ true → Ready (record { rows = without s.rows n; given = s.given }) qs
    ready_gone r f o =
        ready_less (without s.rows n)
        (tally_without n s.rows)
        (out_at_gone n s.rows (w.once n))
        (λ k a h. out_at_without n s.rows k h)
        (let a = outs_without n s.rows r f in grind arith)

    -- it fits no row that is out, and nothing changes but the slip
    ready_not : out_at s.rows n ≡ false → Ready s qs
    ready_not none = ready_less s.rows (λ k. omega arith) none (λ k a h. h) (omega arith)

    ready_if_out : (f : Row → Outcome) → ((r : Row) → row_of s.rows n ≡ Some r → r.out ≡ true → Ready (f r).after qs) → Ready (if_out s (row_of s.rows n) f).after qs
    ready_if_out f k = step (row_of s.rows n) refl
      where
        step : (o : Option Row) → row_of s.rows n ≡ o → Ready (if_out s o f).after qs
        step None e = ready_not (out_at_no_row s.rows n e)
        step (Some r) e = by r.out refl
          where
            by : (b : Bool) → r.out ≡ b → Ready (cond b (f r) (refused s NotOut)).after qs
            by true o = k r e o
            by false o = ready_not (out_at_in_place s.rows n r (w.once n) e o)

    pub ready_put_back : Ready (put_back s n).after qs
    ready_put_back = ready_if_out (λ r. settled s Done (replaced s.rows n (at_out r false))) ready_back

    ready_unless : (r : Row) → row_of s.rows n ≡ Some r → r.out ≡ true → (l : Option ℕ) (rows : List Row) → Ready (record { rows = rows; given = s.given }) qs → Ready (unless_lost s n r l rows).after qs
    ready_unless r f o None rows g = g
    ready_unless r f o (Some d) rows g = ready_back r f o

    pub ready_strike : (m : Meaning) → Ready (strike m s n).after qs
    ready_strike m =
        ready_if_out (λ r. unless_lost s n r (lost m (row_covers m r) (in_place m s.rows)) (without s.rows n))
        (λ r f o. ready_unless r f o (lost m (row_covers m r) (in_place m s.rows)) (without s.rows n) (ready_gone r f o))

    pub ready_exchange : (m : Meaning) (c : Cube) → Ready (exchange m s n c).after qs
    ready_exchange m c = ready_if_out (λ r. cond (above m c) (back s n r InputAbove) (exchange_row m s n c r)) (λ r f o. by (above m c) r f o)
      where
        by : (b : Bool) (r : Row) → row_of s.rows n ≡ Some r → r.out ≡ true → Ready (cond b (back s n r InputAbove) (exchange_row m s n c r)).after qs
        by true r f o = ready_back r f o
        by false r f o = ready_unless r f o (lost m (row_covers m r) (λ d. m.covers c d || in_place m s.rows d)) (replaced s.rows n (row_in n c)) (ready_in r (row_in n c) f o refl refl)

  -- where no slip of a serial is in hand, no row of it is out
  pub none_in_hand : (n : ℕ) (f : Row → Outcome) → holds ps n ≡ false → if_out s (row_of s.rows n) f ≡ refused s NotOut
  none_in_hand n f h = step (row_of s.rows n) refl
    where
      step : (o : Option Row) → row_of s.rows n ≡ o → if_out s o f ≡ refused s NotOut
      step None e = refl
      step (Some r) e = let o : r.out ≡ true → holds ps n ≡ true = λ q. w.in_hand n (out_at_row s.rows n r e q) in grind arith

  -- the calls that take no slip
  ready_added : (c : Cube) → Ready (added s c).after ps
  ready_added c = record {
    once = λ k. (let t = tally_push s.rows r k in let u = w.once k in let v : s.given < k → tally s.rows k ≡ 0 = w.unused k in grind (arith, nat_tests));
    unused = λ k l. (let t = tally_push s.rows r k in let u = w.unused k (omega arith) in grind (arith, nat_tests));
    in_hand = λ k h. w.in_hand k (sym (out_at_push s.rows r k refl) ∙ h);
    few = omega (arith, outs_push s.rows r refl, w.few);
  }
    where
      r : Row
      r = row_in (s.given + 1) c

  ready_cond : (b : Bool) (o p : Outcome) → Ready o.after ps → Ready p.after ps → Ready (cond b o p).after ps
  ready_cond true o p f g = f
  ready_cond false o p f g = g

  ready_entry : (c : Cube) → Ready (entry s c).after ps
  ready_entry c =
      ready_cond (leb 256 (length s.rows)) (refused s SheetFull) (cond (leb 65535 s.given) (refused s SerialsSpent) (added s c)) w
      (ready_cond (leb 65535 s.given) (refused s SerialsSpent) (added s c) w (ready_added c))

  pub ready_enter : (m : Meaning) (c : Cube) → Ready (enter m s c).after ps
  ready_enter m c = ready_cond (above m c) (refused s InputAbove) (entry s c) w (ready_entry c)

  ready_vector : (m : Meaning) (o : Option ℕ) → Ready (enter_vector m s o).after ps
  ready_vector m None = w
  ready_vector m (Some v) = ready_entry (vector m.inputs v)

  pub ready_cover : (m : Meaning) (d : ℕ) → Ready (cover m s d).after ps
  ready_cover m d =
      ready_cond (leb m.duties d) (refused s NoSuchDuty) (cond (not (m.wanted d)) (refused s NotWanted) (cover_wanted m s d)) w
      (ready_cond (not (m.wanted d)) (refused s NotWanted) (cover_wanted m s d) w
      (ready_cond (in_place m s.rows d) (settled s Already s.rows) (enter_vector m s (least (vectors m) (covered_at m d))) w (ready_vector m (least (vectors m) (covered_at m d)))))

  -- the row of serial a is changed, that of serial b is removed, and both were in place
  ready_joined : (a b : ℕ) (x y z : Row) → row_of s.rows a ≡ Some x → row_of s.rows b ≡ Some y → (a ≡ b → ⊥) → x.out ≡ false → y.out ≡ false → z.serial ≡ a → z.out ≡ false → Ready (record { rows = without (replaced s.rows a z) b; given = s.given }) ps
  ready_joined a b x y z fa fb ne ox oy sz oz =
      let xs = replaced s.rows a z in
      ready_by (without xs b) ps
      (λ k. omega (arith, tally_without b xs k, tally_replaced a z sz s.rows k))
      (λ k h. let g = out_at_without b xs k h in elim (cases_eq k a) [
        | inl e ↦ absurd (both_ways (out_at xs a) (out_at_back a z oz s.rows (w.once a)) (ap (out_at xs) (sym e) ∙ g))
        | inr e ↦ w.in_hand k (sym (out_at_replaced a z sz s.rows k e) ∙ g)
      ])
      (let p = outs_without b xs y (row_of_other s.rows a b z sz ne ∙ fb) in let q = outs_replaced a z s.rows x fa in let c = w.few in grind arith)

  pub ready_join : (a b : ℕ) → Ready (join s a b).after ps
  ready_join a b = step (row_of s.rows a) refl (row_of s.rows b) refl
    where
      step : (o : Option Row) → row_of s.rows a ≡ o → (p : Option Row) → row_of s.rows b ≡ p → Ready (join_rows s a b o p).after ps
      step None fa p fb = w
      step (Some x) fa None fb = w
      step (Some x) fa (Some y) fb = by x.out refl y.out refl (eqb a b) refl (of_masks (bit_or x.zeros y.zeros) (bit_or x.ones y.ones))
        where
          by : (p : Bool) → x.out ≡ p → (q : Bool) → y.out ≡ q → (e : Bool) → eqb a b ≡ e → (o : Option Cube) → Ready (cond (p || q) (refused s RowOut) (cond e (refused s NotJoinable) (join_cube s a b o))).after ps
          by true op q oq e f o = w
          by false op true oq e f o = w
          by false op false oq true f o = w
          by false op false oq false f None = w
          by false op false oq false f (Some c) = ready_joined a b x y (row_in a c) fa fb (eqb-false a b f) op oq refl refl

  pub ready_sweep : (m : Meaning) → Ready (sweep m s).after ps
  ready_sweep m =
      ready_by (kept m [] s.rows) ps (tally_kept m [] s.rows) (λ k h. w.in_hand k (out_at_kept m [] s.rows k h))
      (omega (arith, outs_kept m [] s.rows, w.few))
