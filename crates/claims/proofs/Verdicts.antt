-- The verdict on a claim from what its tests find, and back.
use Rattle.std.proofs.Common.{◌≡◌, ℕ, Bool, true, false, cond, ltb, List, length, Some, None, Ok, Err, Option, Result, refl, arith}
use Rattle.goals.specs.Goals.{Meaning}
use Rattle.claims.specs.Claims.{no_such, named_before, unwanted, uncoverable, refused_at, first_bad, clash, unless_clash, verdict}
use Rattle.claims.specs.declared.refusal.ClaimRefusal.{ClaimRefusal}
use Rattle.claims.specs.declared.refusal.ClaimRefusal.TheVariants.{TooMany, NoSuchDuty, NamedBefore, NotWanted, NotCoverable}
use Rattle.claims.specs.declared.pair.Pair.{Pair}

-- the verdict by what each test found
abbrev pub judged : Bool → Option ℕ → Option ℕ → Option ℕ → Option ℕ → Option Pair → ℕ → Result ℕ ClaimRefusal
judged many a b c d e n = cond many (Err TooMany) (refused_at a NoSuchDuty (refused_at b NamedBefore (refused_at c NotWanted (refused_at d NotCoverable (unless_clash e n)))))

-- what each test found, where the list is accepted
refused_ok : (o : Option ℕ) (why : ℕ → ClaimRefusal) (next : Result ℕ ClaimRefusal) (n : ℕ) → refused_at o why next ≡ Ok n → (o ≡ None) × (next ≡ Ok n)
refused_ok None why next n e = (refl, e)
refused_ok (Some p) why next n e = let z : ◌≡◌ {A = ℕ} 0 1 = cc in absurd (omega arith)

many_ok : (t : Bool) (next : Result ℕ ClaimRefusal) (n : ℕ) → cond t (Err TooMany) next ≡ Ok n → (t ≡ false) × (next ≡ Ok n)
many_ok true next n f = let z : ◌≡◌ {A = ℕ} 0 1 = cc in absurd (omega arith)
many_ok false next n f = (refl, f)

clash_ok : (o : Option Pair) (k n : ℕ) → unless_clash o k ≡ Ok n → (o ≡ None) × (n ≡ k)
clash_ok None k n e = (refl, cc)
clash_ok (Some x) k n e = let z : ◌≡◌ {A = ℕ} 0 1 = cc in absurd (omega arith)

pub judged_ok : (t : Bool) (a b c d : Option ℕ) (e : Option Pair) (k n : ℕ) → judged t a b c d e k ≡ Ok n
    → (t ≡ false) × (a ≡ None) × (b ≡ None) × (c ≡ None) × (d ≡ None) × (e ≡ None) × (n ≡ k)
judged_ok t a b c d e k n h =
    let h0 = many_ok t _ n h in
    let h1 = refused_ok a NoSuchDuty _ n h0.1 in
    let h2 = refused_ok b NamedBefore _ n h1.1 in
    let h3 = refused_ok c NotWanted _ n h2.1 in
    let h4 = refused_ok d NotCoverable _ n h3.1 in
    let h5 = clash_ok e k n h4.1 in
    (h0.0, h1.0, h2.0, h3.0, h4.0, h5.0, h5.1)

module _ (m : Meaning) (ds : List ℕ) where
  -- the verdict is what the tests say together
  pub judged_is : (t : Bool) (a b c d : Option ℕ) (e : Option Pair) → t ≡ ltb 256 (length ds)
      → a ≡ first_bad ds (no_such m ds) → b ≡ first_bad ds (named_before ds) → c ≡ first_bad ds (unwanted m ds) → d ≡ first_bad ds (uncoverable m ds) → e ≡ clash m ds
      → judged t a b c d e (length ds) ≡ verdict m ds
  judged_is t a b c d e p0 p1 p2 p3 p4 p5 = rw (p0, p1, p2, p3, p4, p5) refl
