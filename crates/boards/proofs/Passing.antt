-- A record that passes every test, and what each test then says.
use Rattle.std.proofs.Common.{◌≡◌, ℕ, Bool, true, false, List, get_or, drop, Some, None, Option, sym, refl, ap, ◌∙◌, arith}
use Rattle.std.proofs.lemmas.Bool.{false≢true}
use Rattle.boards.specs.declared.parts.Class.{Class}
use Rattle.boards.specs.declared.parts.Kind.{Kind}
use Rattle.boards.specs.declared.parts.Seen.{Seen}
use Rattle.boards.specs.declared.refusal.Trouble.{Trouble}
use Rattle.boards.specs.Cards.{pins_fit}
use Rattle.boards.specs.Records.{word, class, gate_fits, in_order, has_room, field_fits, lines_exist, rest_zero, unless, trouble_in, trouble_of, trouble}

pub record Passed (k : Class) (s : Seen) (field word : ℕ) (rest : List ℕ) : Type 0 where
  pub ordered : in_order s k ≡ true
  pub room : has_room s k ≡ true
  pub fits : field_fits k field word ≡ true
  pub exist : lines_exist s k word rest ≡ true
  pub zero : rest_zero k field word rest ≡ true

unless_none : (b : Bool) (t : Trouble) (next : Option Trouble) → unless b t next ≡ None → (b ≡ true) × (next ≡ None)
unless_none true t next e = (refl, e)
unless_none false t next e = absurd (let z : ◌≡◌ {A = ℕ} 0 1 = cc in omega arith)

pub passed : (k : Class) (s : Seen) (f w : ℕ) (rest : List ℕ) → trouble_in k s f w rest ≡ None → Passed k s f w rest
passed k s f w rest e =
    let a = unless_none (in_order s k) _ _ e in
    let b = unless_none (has_room s k) _ _ a.1 in
    let c = unless_none (field_fits k f w) _ _ b.1 in
    let d = unless_none (lines_exist s k w rest) _ _ c.1 in
    let z = unless_none (rest_zero k f w rest) _ _ d.1 in
    record { ordered = a.0; room = b.0; fits = c.0; exist = d.0; zero = z.0 }

pub none_wrong : (k : Class) (s : Seen) (f w : ℕ) (rest : List ℕ) → Passed k s f w rest → trouble_in k s f w rest ≡ None
none_wrong k s f w rest p = rw (p.ordered, p.room, p.fits, p.exist, p.zero)

-- a record in which nothing is wrong has a class, and passes the tests of that class
pub of_class : (o : Option Class) (s : Seen) (f w : ℕ) (rest : List ℕ) → trouble_of o s f w rest ≡ None → (k : Class) × (o ≡ Some k) × Passed k s f w rest
of_class None s f w rest e = absurd (let z : ◌≡◌ {A = ℕ} 0 1 = cc in omega arith)
of_class (Some k) s f w rest e = (k, refl, passed k s f w rest e)

-- a gate that fits has a kind
pub with_kind : (o : Option Kind) (n : ℕ) → gate_fits o n ≡ true → (k : Kind) × (o ≡ Some k) × (pins_fit k n ≡ true)
with_kind None n e = absurd (false≢true e)
with_kind (Some k) n e = (k, refl, e)

-- a record of a known class in which nothing is wrong passes the tests of that class
pub passes_as : (s : Seen) (r : List ℕ) (k : Class) → class (get_or r 0 0) ≡ Some k → trouble s r ≡ None → Passed k s (get_or r 1 0) (word (get_or r 2 0) (get_or r 3 0)) (drop 4 r)
passes_as s r k e h = passed k s _ _ _ (ap (λ o. trouble_of o s (get_or r 1 0) (word (get_or r 2 0) (get_or r 3 0)) (drop 4 r)) (sym e) ∙ h)
