-- Which serials a list of slips holds, after a search, a removal or a push.
use Rattle.std.proofs.Common.{◌≡◌, ℕ, zero, suc, ◌<◌, false, ◌||◌, ◌==◌, eqb, List, [], ◌∷◌, ◌++◌, length, get_or, Some, None, Option, sym, refl, ap, ◌∙◌, subst, arith}
use Rattle.std.specs.List.{remove, AllWithin, HoldsAt}
use Rattle.std.proofs.lemmas.List.{length_push}
use Rattle.std.proofs.lemmas.List.Edits.{length-remove}
use Rattle.std.proofs.lemmas.List.Folds.{list_any-append}
use Rattle.std.proofs.lemmas.Bool.{ne_eqb}
use Rattle.sheets.specs.declared.slip.Slip.{Slip}
use Rattle.runs.specs.Hands.{holds, Taken}

abbrev pub HasSerial : ℕ → Slip → Type 0
HasSerial n p = p.serial ≡ n

abbrev pub HasOther : ℕ → Slip → Type 0
HasOther n p = p.serial ≡ n → ⊥

-- what stands for a slip past the end of a list
abbrev pub no_slip : Slip
no_slip = record { serial = 0 }

-- no slip is held of a serial that none of them has, each read at its place
pub none_held : (n : ℕ) (ps : List Slip) → ((k : ℕ) → k < length ps → (get_or ps k no_slip).serial ≡ n → ⊥) → holds ps n ≡ false
none_held n [] h = refl
none_held n (p ∷ ps) h = rw (ne_eqb p.serial n (h 0 (omega arith))) (none_held n ps (λ k l. h (suc k) (omega arith)))

pub holds_none : (n : ℕ) (ps : List Slip) → AllWithin (HasOther n) ps 0 (length ps) → holds ps n ≡ false
holds_none n ps h = none_held n ps (λ k l. h k no_slip (omega arith) l)

-- the other serials are still held
pub holds_removed : (ps : List Slip) (i n k : ℕ) → i < length ps → (get_or ps i no_slip).serial ≡ n → (k ≡ n → ⊥) → holds (remove ps i) k ≡ holds ps k
holds_removed [] i n k h e ne = absurd (omega arith)
holds_removed (p ∷ ps) zero n k h e ne = rw (ne_eqb p.serial k (λ q. ne (sym q ∙ e))) refl
holds_removed (p ∷ ps) (suc i) n k h e ne = ap (λ b. eqb p.serial k || b) (holds_removed ps i n k (omega arith) e ne)

-- one slip more
pub holds_push : (ps : List Slip) (p : Slip) (k : ℕ) → holds (ps ++ (p ∷ [])) k ≡ (holds ps k || eqb p.serial k)
holds_push ps p k = let h = list_any-append (λ (q : Slip). q.serial == k) ps (p ∷ []) in grind arith

-- a slip of the serial is taken
pub taken_at : (ps qs : List Slip) (i n : ℕ) (p : Slip) → i < length ps → HoldsAt (HasSerial n) ps i → p ≡ get_or ps i p → qs ≡ remove ps i → Taken ps n qs (Some p)
taken_at ps qs i n p h e is rest = (
  ap (λ (q : Slip). q.serial) is ∙ e p,
  (let l = ap length rest in let r = length-remove ps i h in omega arith),
  λ k ne. ap (λ l. holds l k) rest ∙ holds_removed ps i n k h (e no_slip) ne,
)

-- the last slip is taken
pub taken_push : (qs : List Slip) (p : Slip) → Taken (qs ++ (p ∷ [])) p.serial qs (Some p)
taken_push qs p = (
  refl,
  sym (length_push qs p),
  λ k ne. (let h = holds_push qs p k in let e : eqb p.serial k ≡ false = ne_eqb p.serial k (λ q. ne (sym q)) in grind arith),
)

-- what the search for a slip answered: none is held, or the one found is taken
pub not_held : (ps qs : List Slip) (n : ℕ) (o : Option Slip) → o ≡ None → Taken ps n qs o → holds ps n ≡ false
not_held ps qs n o e t = let u = subst (Taken ps n qs) e t in u.0

pub taken_itself : (ps qs : List Slip) (n : ℕ) (o : Option Slip) (p : Slip) → o ≡ Some p → Taken ps n qs o → Taken ps p.serial qs (Some p)
taken_itself ps qs n o p e t = let u = subst (Taken ps n qs) e t in subst (λ k. Taken ps k qs (Some p)) (sym u.0) u
