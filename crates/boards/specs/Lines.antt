-- The values of a card's lines, found in line order, are the only ones that fit the card.
use Rattle.std.specs.Prelude.{◌≡◌, ℕ, zero, suc, ◌<◌, ◌≤◌, List, [], ◌∷◌, ◌++◌, length, replicate, Option, slice_index_or, slice_set, refl}
use Rattle.std.proofs.Common.{sym, ap, subst, ◌∙◌, ⊎_elim, arith}
use Rattle.std.proofs.lemmas.List.{length_push, get_or_append_left, get_or_push, get_or_past, get_or-set_same, get_or-set_other}
use Rattle.std.proofs.lemmas.Bool.{cases_lt, cases_eq, lt-ltb}
use Rattle.cubes.specs.declared.cube.Cube.{Cube}
use Rattle.boards.specs.declared.parts.Value.{Value}
use Rattle.boards.specs.declared.parts.Value.TheVariants.{Unknown}
use Rattle.boards.specs.declared.parts.Fault.{Fault}
use Rattle.boards.specs.Cards.{Card, Sound, Simulated, lines, machines, fault, held, by_itself, Consistent, read, values}
use Rattle.boards.specs.Related.{itself_related, lines_related}
use Rattle.boards.specs.Equal.{Equal, equal_kept}
use Rattle.boards.specs.Outputs.{seen_alike}

-- line k, found from the lines before it
abbrev line : Card → Option Fault → Cube → ℕ → Value
line c f x k = held f k (by_itself c x (read (values c f x k)) k)

pub length_values : (c : Card) (f : Option Fault) (x : Cube) (n : ℕ) → length (values c f x n) ≡ n
length_values c f x zero = refl
length_values c f x (suc n) = let e = length_push (values c f x n) (line c f x n) in let i = length_values c f x n in omega arith

read_values : (c : Card) (f : Option Fault) (x : Cube) (n k : ℕ) → k < n → read (values c f x n) k ≡ line c f x k
read_values c f x zero k h = absurd (omega arith)
read_values c f x (suc n) k h =
    let w = length_values c f x n in
    ⊎_elim
    (λ (l : k < n). get_or_append_left (values c f x n) _ Unknown k (omega arith) ∙ read_values c f x n k l)
    (λ (l : n ≤ k).
    let s : n ≡ k = omega arith in
    subst (λ (m : ℕ). read (values c f x (suc n)) m ≡ line c f x m) s (get_or_push (values c f x n) (line c f x n) Unknown n w))
    (cases_lt k n)

pub values_fit : (c : Card) → Sound c → (f : Option Fault) (x : Cube) → Consistent c f x (read (values c f x (lines c)))
values_fit c s f x k h =
    read_values c f x (lines c) k h ∙ ap (held f k)
    (itself_related Equal equal_kept c s x x (read (values c f x k)) (read (values c f x (lines c))) k h (λ _. refl)
    (λ j l. read_values c f x k j l ∙ sym (read_values c f x (lines c) j (omega arith))))

-- a list of nothing but the default
pub nowhere : {X : Type 0} (d : X) (n j : ℕ) → slice_index_or (replicate n d) j d ≡ d
nowhere d zero j = refl
nowhere d (suc n) zero = refl
nowhere d (suc n) (suc j) = nowhere d n j

-- a place more: writing it into a list, where nothing stands from there on, is as good as adding it at the end
pub place_more : {X : Type 0} (d : X) (xs ys : List X) (k : ℕ) (x : X) → k < length xs → length ys ≡ k → ((j : ℕ) → slice_index_or xs j d ≡ slice_index_or ys j d) →
    (j : ℕ) → slice_index_or (slice_set xs k x) j d ≡ slice_index_or (ys ++ (x ∷ [])) j d
place_more d xs ys k x h e same j =
    let m = length_push ys x in
    ⊎_elim
    (λ (q : j ≡ k). rw q (get_or-set_same xs k x d h ∙ sym (get_or_push ys x d k e)))
    (λ (q : j ≡ k → ⊥).
    get_or-set_other xs k j x d q ∙ same j ∙
    ⊎_elim
    (λ (l : j < k). sym (get_or_append_left ys (x ∷ []) d j (omega arith)))
    (λ (l : k ≤ j). get_or_past ys j d (omega arith) ∙ sym (get_or_past (ys ++ (x ∷ [])) j d (let n : k < j = omega (arith, q) in omega arith)))
    (cases_lt j k))
    (cases_eq j k)

-- a list with these values is what simulating gives
pub simulated : (c : Card) → Sound c → (k : ℕ) (x : Cube) (vs : List Value) → ((j : ℕ) → read vs j ≡ read (values c (fault c k) x (lines c)) j) → Simulated c k x vs
simulated c s k x vs e =
    record {
      fits = fits;
      only = λ v p j h. lines_related Equal equal_kept c s f x x v (read vs) p fits (λ _ _. refl) j h;
      beyond = λ j h. e j ∙ get_or_past (values c f x (lines c)) j Unknown (let n = length_values c f x (lines c) in omega arith);
      answered = λ l. rw (lt-ltb k (machines c) l) (seen_alike c s.outputs_exist (values c f x (lines c)) vs (λ j _. sym (e j)));
    }
  where
    f : Option Fault
    f = fault c k

    fits : Consistent c (fault c k) x (read vs)
    fits j h = e j ∙ values_fit c s (fault c k) x j h ∙ ap (held (fault c k) j)
        (itself_related Equal equal_kept c s x x (read (values c (fault c k) x (lines c))) (read vs) j h (λ _. refl) (λ i _. sym (e i)))
