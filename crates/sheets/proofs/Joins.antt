-- What join does, by the places of the two rows, where both are in place.
use Rattle.std.proofs.Common.{◌≡◌, ℕ, false, cond, ◌||◌, List, get_or, set, Some, Ok, Err, sym, ap, ◌∙◌}
use lib.Bits.{bit_or}
use Rattle.std.proofs.lemmas.Bool.{eq-eqb, ne_eqb}
use Rattle.std.specs.List.{remove}
use Rattle.cubes.specs.Cubes.{of_masks, HasMasks}
use Rattle.cubes.specs.declared.cube.Cube.{Cube}
use Rattle.cubes.proofs.Alike.{of_masks_is}
use Rattle.sheets.specs.Sheets.{State, refused, settled, row_in, row_of, replaced, without}
use Rattle.sheets.specs.Joining.{join, join_rows, join_two, join_cube}
use Rattle.sheets.specs.Places.{Stands}
use Rattle.sheets.specs.declared.row.Row.{Row}
use Rattle.sheets.specs.declared.reply.Reply.TheVariants.{Done}
use Rattle.sheets.specs.declared.refusal.Refusal.TheVariants.{RowOut, NotJoinable}
use Rattle.sheets.proofs.Outcomes.{Gives, gives}
use Rattle.sheets.proofs.Standing.{stands_still}

-- the row x of serial a stands at i, the row y of serial b at j
module _ (s : State) (a b i j : ℕ) (sa : Stands s.rows a i) (sb : Stands s.rows b j) (x y : Row) (ix : x ≡ get_or s.rows i x) (iy : y ≡ get_or s.rows j y) (ox : x.out ≡ false) (oy : y.out ≡ false) where
  join_by : join s a b ≡ join_two s a b x y
  join_by =
      ap (λ o. join_rows s a b o (row_of s.rows b)) (sa.row x ∙ ap Some (sym ix)) ∙ ap (λ o. join_rows s a b (Some x) o) (sb.row y ∙ ap Some (sym iy))
      ∙ ap (λ t. cond (t || y.out) (refused s RowOut) (join_two s a b x y)) ox ∙ ap (λ t. cond t (refused s RowOut) (join_two s a b x y)) oy

  -- no row is joined with itself
  pub join_same : a ≡ b → Gives s (Err NotJoinable) s.rows (join s a b)
  join_same e =
      gives s (Err NotJoinable) s.rows (join s a b)
      (sym (join_by ∙ ap (λ t. cond t (refused s NotJoinable) (join_cube s a b (of_masks (bit_or x.zeros y.zeros) (bit_or x.ones y.ones)))) (eq-eqb a b e)))

  pub joined : (a ≡ b → ⊥) → (c : Cube) → HasMasks (bit_or x.zeros y.zeros) (bit_or x.ones y.ones) c → (rows : List Row) → rows ≡ remove (set s.rows i (row_in a c)) j → settled s Done rows ≡ join s a b
  joined ne c h rows left =
      let w = row_in a c in
      let ij : j ≡ i → ⊥ = λ q. ne (sym (sa.here x) ∙ ap (λ k. (get_or s.rows k x).serial) (sym q) ∙ sb.here x) in
      let st : Stands (set s.rows i w) b j = stands_still s.rows b i j w sb sa.within ne ij in
      let end : rows ≡ without (replaced s.rows a w) b = left ∙ sym st.remove ∙ ap (λ l. without l b) (sym (sa.change w)) in
      ap (settled s Done) end
      ∙ sym (join_by ∙ ap (λ t. cond t (refused s NotJoinable) (join_cube s a b (of_masks (bit_or x.zeros y.zeros) (bit_or x.ones y.ones)))) (ne_eqb a b ne)
      ∙ ap (join_cube s a b) (of_masks_is _ _ c h.0 h.1))

  -- the same with the joined row read as z
  pub join_done : (a ≡ b → ⊥) → (c : Cube) → HasMasks (bit_or x.zeros y.zeros) (bit_or x.ones y.ones) c → (z : Row) → z ≡ row_in a c → (rows : List Row) → rows ≡ remove (set s.rows i z) j → Gives s (Ok Done) rows (join s a b)
  join_done ne c h z is-z rows left = gives s (Ok Done) rows (join s a b) (joined ne c h rows (left ∙ ap (λ v. remove (set s.rows i v) j) is-z))
