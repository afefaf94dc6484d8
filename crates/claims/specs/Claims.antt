-- What the check of a claim answers.
use Rattle.std.specs.Prelude.{◌≡◌, ℕ, ◌<◌, ◌≤◌, Bool, cond, not, ◌&&◌, ◌||◌, ◌⊎◌, List, length, is_some, Some, None, Ok, Err, Option, Result, ◌==◌, nat_eq, nat_le, nat_lt, slice_index}
use Rattle.cubes.specs.Searching.{least}
use Rattle.goals.specs.Goals.{Meaning, vectors, covered_at}
use Rattle.claims.specs.declared.pair.Pair.{Pair}
use Rattle.claims.specs.declared.refusal.ClaimRefusal.{ClaimRefusal}
use Rattle.claims.specs.declared.refusal.ClaimRefusal.TheVariants.{TooMany, NoSuchDuty, NamedBefore, NotWanted, NotCoverable, CoveredTogether}

-- the number of a refusal
abbrev pub number : ClaimRefusal → ℕ
number TooMany = 34
number (NoSuchDuty p) = 29
number (NamedBefore p) = 30
number (NotWanted p) = 31
number (NotCoverable p) = 32
number (CoveredTogether q p) = 33

-- the duty at a place
abbrev pub duty_at : List ℕ → ℕ → ℕ
duty_at ds p = slice_index ds p

-- some vector covers the duty
abbrev pub coverable : Meaning → ℕ → Bool
coverable m d = is_some (least (vectors m) (covered_at m d))

-- one vector covers both duties
abbrev pub together : Meaning → ℕ → ℕ → Bool
together m a b = is_some (least (vectors m) (λ v. covered_at m a v && covered_at m b v))

-- what is wrong at a place: no such duty, named before, not wanted, not coverable
abbrev pub no_such : Meaning → List ℕ → ℕ → Bool
no_such m ds p = nat_le m.duties (duty_at ds p)

abbrev pub named_before : List ℕ → ℕ → Bool
named_before ds p = is_some (least p (λ q. nat_eq (duty_at ds q) (duty_at ds p)))

abbrev pub unwanted : Meaning → List ℕ → ℕ → Bool
unwanted m ds p = not (m.wanted (duty_at ds p))

abbrev pub uncoverable : Meaning → List ℕ → ℕ → Bool
uncoverable m ds p = not (coverable m (duty_at ds p))

-- the earliest place before p whose duty one vector covers together with that at p
abbrev pub partner : Meaning → List ℕ → ℕ → Option ℕ
partner m ds p = least p (λ q. together m (duty_at ds q) (duty_at ds p))

-- refused at the first bad place, or else what follows
abbrev pub refused_at : Option ℕ → (ℕ → ClaimRefusal) → Result ℕ ClaimRefusal → Result ℕ ClaimRefusal
refused_at None why next = next
refused_at (Some p) why next = Err (why p)

-- the first bad place of the list
abbrev pub first_bad : List ℕ → (ℕ → Bool) → Option ℕ
first_bad ds bad = least (length ds) bad

-- a place and its partner
abbrev pub paired : ℕ → Option ℕ → Option Pair
paired p None = None
paired p (Some q) = Some (record { earlier = q; later = p })

-- a place with its earliest partner
abbrev pub with_partner : Meaning → List ℕ → Option ℕ → Option Pair
with_partner m ds None = None
with_partner m ds (Some p) = paired p (partner m ds p)

-- the earliest later place that has a partner before it, with its earliest partner
abbrev pub clash : Meaning → List ℕ → Option Pair
clash m ds = with_partner m ds (least (length ds) (λ p. is_some (partner m ds p)))

-- accepted with the length, unless two are covered together
abbrev pub unless_clash : Option Pair → ℕ → Result ℕ ClaimRefusal
unless_clash None n = Ok n
unless_clash (Some x) n = Err (CoveredTogether x.earlier x.later)

-- refused above 256 entries, then at the first bad place of each test in turn; else accepted with the length
abbrev pub verdict : Meaning → List ℕ → Result ℕ ClaimRefusal
verdict m ds =
    cond (nat_lt 256 (length ds)) (Err TooMany)
    (refused_at (first_bad ds (no_such m ds)) NoSuchDuty
    (refused_at (first_bad ds (named_before ds)) NamedBefore
    (refused_at (first_bad ds (unwanted m ds)) NotWanted
    (refused_at (first_bad ds (uncoverable m ds)) NotCoverable
    (unless_clash (clash m ds) (length ds))))))

-- x is the first of all pairs of places below n that are so related: the earliest later place, then the earliest
-- partner; or no pair is
abbrev pub Earliest : ℕ → (ℕ → ℕ → Type 0) → Option Pair → Type 0
Earliest n R None = (q p : ℕ) → q < p → p < n → R q p → ⊥
Earliest n R (Some x) = (x.earlier < x.later) × (x.later < n) × R x.earlier x.later
    × ((q p : ℕ) → q < p → p < n → R q p → ((x.later < p) ⊎ ((x.later ≡ p) × (x.earlier ≤ q))))

-- the earlier of two pairs
abbrev pub before : Pair → Pair → Bool
before x y = nat_lt x.later y.later || (x.later == y.later && nat_le x.earlier y.earlier)

-- the earlier of two, where there are two
abbrev pub sooner : Option Pair → Option Pair → Option Pair
sooner None y = y
sooner (Some x) None = Some x
sooner (Some x) (Some y) = cond (before x y) (Some x) (Some y)
