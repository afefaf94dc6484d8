-- Where the row of a serial stands: what a search from the first row finds, and that a change of another row moves
-- nothing.
use Rattle.std.proofs.Common.{◌≡◌, ℕ, zero, suc, ◌<◌, List, [], ◌∷◌, length, get_or, set, Some, None, Option, sym, refl, ap, ◌∙◌, inl, inr, arith}
use Rattle.std.specs.List.{AllWithin, HoldsAt}
use Rattle.std.specs.Option.{MatchOption}
use Rattle.std.proofs.lemmas.List.{get_or_default, get_or-set_same, get_or-set_other, length-set}
use Rattle.std.proofs.lemmas.Bool.{eq-eqb, ne_eqb, cases_eq}
use Rattle.sheets.specs.Sheets.{row_of, no_row}
use Rattle.sheets.specs.Places.{Stands, Found}
use Rattle.sheets.specs.declared.row.Row.{Row}

abbrev pub HasSerial : ℕ → Row → Type 0
HasSerial n r = r.serial ≡ n

abbrev pub HasOther : ℕ → Row → Type 0
HasOther n r = r.serial ≡ n → ⊥

-- none of the first i rows has serial n
abbrev pub Passed : List Row → ℕ → ℕ → Type 0
Passed rows n i = (k : ℕ) → k < i → (get_or rows k no_row).serial ≡ n → ⊥

module _ (n : ℕ) where
  -- no row has the serial, and so none is found
  pub none_found : (rows : List Row) → Passed rows n (length rows) → row_of rows n ≡ None
  none_found [] p = refl
  none_found (r ∷ rs) p = rw (ne_eqb r.serial n (p 0 (omega arith))) (none_found rs (λ k h. p (suc k) (omega arith)))

  passed_any : (rows : List Row) (i : ℕ) → i < length rows → Passed rows n i → (k : ℕ) (d : Row) → k < i → (get_or rows k d).serial ≡ n → ⊥
  passed_any rows i h p k d l e = p k l (ap (λ (r : Row). r.serial) (get_or_default rows k no_row d (omega arith)) ∙ e)

  pub found : (rows : List Row) (i : ℕ) → i < length rows → Passed rows n i → (get_or rows i no_row).serial ≡ n → Stands rows n i
  found [] i h p e = absurd (omega arith)
  found (r ∷ rs) zero h p e =
      let t = eq-eqb r.serial n e in
      record { within = h; before = passed_any (r ∷ rs) zero h p; here = λ d. e; row = λ d. (rw t refl); change = λ x. (rw t refl); remove = rw t refl }
  found (r ∷ rs) (suc i) h p e =
      let t = ne_eqb r.serial n (p 0 (omega arith)) in
      let ih = found rs i (omega arith) (λ k l. p (suc k) (omega arith)) e in
      record {
        within = h;
        before = passed_any (r ∷ rs) (suc i) h p;
        here = λ d. ap (λ (w : Row). w.serial) (get_or_default (r ∷ rs) (suc i) d no_row h) ∙ e;
        row = λ d. (rw t (ih.row d));
        change = λ x. (rw t (ap (λ l. r ∷ l) (ih.change x)));
        remove = rw t (ap (λ l. r ∷ l) ih.remove);
      }

  -- the first row of the serial, where there is one
  pub found_first : (rows : List Row) (o : Option ℕ) → MatchOption o (AllWithin (HasOther n) rows 0 (length rows)) (λ i. (i < length rows) × HoldsAt (HasSerial n) rows i × AllWithin (HasOther n) rows 0 i) → Found rows n o
  found_first rows None h = none_found rows (λ k l. h k no_row (omega arith) l)
  found_first rows (Some i) h = found rows i h.0 (λ k l. h.2 k no_row (omega arith) l) (h.1 no_row)

-- it stands there still where another row is changed
pub stands_still : (rows : List Row) (n i j : ℕ) (x : Row) → Stands rows n j → i < length rows → (x.serial ≡ n → ⊥) → (j ≡ i → ⊥) → Stands (set rows i x) n j
stands_still rows n i j x st h ne ij =
    found n (set rows i x) j (rw length-set st.within)
    (λ k l. elim (cases_eq k i) [
      | inl e ↦ (λ s. ne (ap (λ (r : Row). r.serial) (sym (get_or-set_same rows i x no_row h)) ∙ ap (λ q. (get_or (set rows i x) q no_row).serial) (sym e) ∙ s))
      | inr o ↦ (λ s. st.before k no_row l (ap (λ (r : Row). r.serial) (sym (get_or-set_other rows i k x no_row o)) ∙ s))
    ])
    (ap (λ (r : Row). r.serial) (get_or-set_other rows i j x no_row ij) ∙ st.here no_row)
