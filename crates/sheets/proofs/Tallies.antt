-- How often the rows in place cover each duty, and what a true tally says of a row: whether it alone covers a wanted
-- duty, and what the tally is without it.
use Rattle.std.proofs.Common.{◌≡◌, ℕ, zero, suc, ◌+◌, ◌<◌, ◌≤◌, Bool, true, false, cond, not, ◌&&◌, eqb, ltb, List, [], ◌∷◌, length, get_or, is_some, None, sym, refl, ap, ◌∙◌, subst, zero-add, arith}
use Rattle.std.specs.List.{remove}
use Rattle.std.proofs.lemmas.Bool.{and_left}
use Rattle.std.proofs.lemmas.Bool.Decides.{nat_tests}
use Rattle.cubes.proofs.Searches.{first_least, least_further, least_found}
use Rattle.goals.specs.Goals.{Meaning, Lawful}
use Rattle.sheets.specs.declared.row.Row.{Row}
use Rattle.sheets.specs.Sheets.{row_covers, RowMarked, in_place, loses, lost, no_row}
use Rattle.sheets.specs.Sweeping.{needed, times, Tallied, has_sole}

-- duty d is wanted and marked, and has the count 1
abbrev pub sole : Meaning → List ℕ → List Bool → ℕ → Bool
sole m counts marks d = get_or marks d false && (eqb (get_or counts d 0) 1 && m.wanted d)

pub sole_here : (m : Meaning) (counts : List ℕ) (marks : List Bool) (d : ℕ) → d < length counts → get_or marks d false ≡ true → get_or counts d 0 ≡ 1 → m.wanted d ≡ true → has_sole m counts marks ≡ true
sole_here m counts marks d l k c w =
    least_found (length counts) (sole m counts marks) d l
    (grind (arith, nat_tests))

pub none_sole : (m : Meaning) (counts : List ℕ) (marks : List Bool) → ((d : ℕ) → d < length counts → sole m counts marks d ≡ false) → has_sole m counts marks ≡ false
none_sole m counts marks h = sym (ap is_some (first_least (length counts) (sole m counts marks) None h))

-- a tally is true of equal rows with equal counts
pub tallied_same : (m : Meaning) (xs ys : List Row) (a b : List ℕ) → ys ≡ xs → b ≡ a → Tallied m xs a → Tallied m ys b
tallied_same m xs ys a b p q t = subst (λ l. Tallied m l b) (sym p) (subst (Tallied m xs) (sym q) t)

-- a row is judged by a tally: it is in place at i, the tally is that of the rows, and the marks are those of the row
pub record Judged (m : Meaning) (xs : List Row) (i : ℕ) (r : Row) (counts : List ℕ) (marks : List Bool) : Type 0 where
  pub within : i < length xs
  pub here : r ≡ get_or xs i no_row
  pub stands : r.out ≡ false
  pub even : length counts ≡ length marks
  pub all : m.duties ≤ length counts
  pub tallied : Tallied m xs counts
  pub marked : RowMarked m r marks

module _ (m : Meaning) where
  -- a row that is out counts for nothing, and one in place for each duty that it covers
  pub times_out : (r : Row) (rs : List Row) (d : ℕ) → r.out ≡ true → times m (r ∷ rs) d ≡ times m rs d
  times_out r rs d o = rw o (zero-add (times m rs d))

  pub times_in : (r : Row) (rs : List Row) (d : ℕ) → r.out ≡ false → times m (r ∷ rs) d ≡ cond (row_covers m r d) 1 0 + times m rs d
  times_in r rs d o = rw o

  -- a row in place covers a duty where the count is not 0
  in_place_times : (xs : List Row) (d : ℕ) → in_place m xs d ≡ ltb 0 (times m xs d)
  in_place_times [] d = refl
  in_place_times (r ∷ rs) d = let ih = in_place_times rs d in grind (arith, nat_tests)

  -- the count without row i
  times_removed : (xs : List Row) (i d : ℕ) → i < length xs → times m (remove xs i) d + cond (not (get_or xs i no_row).out && row_covers m (get_or xs i no_row) d) 1 0 ≡ times m xs d
  times_removed [] i d h = absurd (omega arith)
  times_removed (x ∷ xs) zero d h = omega arith
  times_removed (x ∷ xs) (suc i) d h = let e = times_removed xs i d (omega arith) in omega arith

  module _ {xs : List Row} {i : ℕ} {r : Row} {counts : List ℕ} {marks : List Bool} (j : Judged m xs i r counts marks) where
    times_less : (d : ℕ) → times m (remove xs i) d + cond (row_covers m r d) 1 0 ≡ times m xs d
    times_less d =
        let e = times_removed xs i d j.within in
        let q : ◌≡◌ {A = ℕ} (cond (not (get_or xs i no_row).out && row_covers m (get_or xs i no_row) d) 1 0) (cond (row_covers m r d) 1 0)
        = ap (λ (x : Row). cond {A = ℕ} (not x.out && row_covers m x d) 1 0) (sym j.here) ∙ ap (λ (b : Bool). cond {A = ℕ} (not b && row_covers m r d) 1 0) j.stands in
        omega arith

    mark : (d : ℕ) → d < length counts → get_or marks d false ≡ row_covers m r d
    mark d l = j.marked d (omega arith)

    sole_loses : (d : ℕ) → d < length counts → sole m counts marks d ≡ loses m (row_covers m r) (in_place m (remove xs i)) d
    sole_loses d l =
        let k = mark d l in
        let c = j.tallied d l in
        let p = in_place_times (remove xs i) d in
        let t = times_less d in
        grind (arith, nat_tests)

    -- the row is needed exactly where it alone covers a wanted duty
    sole_needed : Lawful m → has_sole m counts marks ≡ needed m (get_or xs i no_row) (remove xs i)
    sole_needed law =
        ap is_some (least_further (length counts) m.duties (sole m counts marks) (loses m (row_covers m r) (in_place m (remove xs i))) j.all sole_loses (λ d l. and_left _ _ (law.none_wanted_above d l)))
        ∙ out_not ∙ ap (λ x. needed m x (remove xs i)) j.here
      where
        out_not : is_some (lost m (row_covers m r) (in_place m (remove xs i))) ≡ needed m r (remove xs i)
        out_not = let o = j.stands in rw o

    -- so what is left after a look at it is right where it goes unless it alone covers one
    pub judged_so : Lawful m → (b : Bool) → b ≡ has_sole m counts marks → (left : List Row) → left ≡ cond b xs (remove xs i) → left ≡ cond (needed m (get_or xs i no_row) (remove xs i)) xs (remove xs i)
    judged_so law b e left is = is ∙ ap (λ c. cond c xs (remove xs i)) (e ∙ sole_needed law)

    -- what it covers has been counted
    pub counted : (d : ℕ) → d < length counts → get_or marks d false ≡ true → 0 < get_or counts d 0
    counted d l e =
        let q = times_less d in
        let c = j.tallied d l in
        let k = mark d l in
        grind (arith, nat_tests)

    -- one less for each duty that it covers is the tally of the others
    pub untallied : (after : List ℕ) → length after ≡ length counts → ((d : ℕ) → d < length after → get_or after d 0 + cond (get_or marks d false) 1 0 ≡ get_or counts d 0) → Tallied m (remove xs i) after
    untallied after n f d l =
        let q = times_less d in
        let c = j.tallied d (omega arith) in
        let k = mark d (omega arith) in
        let g = f d l in
        grind (arith, nat_tests)
