-- What a line asks whose first word is a verb.
use Rattle.std.proofs.Common.{◌≡◌, ℕ, true, false, cond, List, [], length, get_or, Some, None, sym, ap, ◌∙◌}
use Rattle.scripts.specs.declared.script.Line.TheVariants as line
use Rattle.scripts.specs.declared.script.Verb.{Verb}
use Rattle.scripts.specs.Lines.{passed_over, verb_of, takes, asks, verb_asks, line_of}

pub with_verb : (ws : List (List ℕ)) (w : List ℕ) (v : Verb) → w ≡ get_or ws 0 [] → false ≡ passed_over w → Some v ≡ verb_of w → line_of ws ≡ cond (takes v (length ws)) (asks v (get_or ws 1 []) (get_or ws 2 [])) None
with_verb ws w v e p q =
    ap (λ x. cond (passed_over x) (Some line.Nothing) (verb_asks (verb_of x) ws)) (sym e)
    ∙ ap (λ t. cond t (Some line.Nothing) (verb_asks (verb_of w) ws)) (sym p)
    ∙ ap (λ o. verb_asks o ws) (sym q)

-- with so many words as the verb takes, or with others
pub understood : (ws : List (List ℕ)) (w : List ℕ) (v : Verb) (n : ℕ) → w ≡ get_or ws 0 [] → false ≡ passed_over w → Some v ≡ verb_of w → n ≡ length ws → true ≡ takes v n → (a b : List ℕ) → a ≡ get_or ws 1 [] → b ≡ get_or ws 2 [] → asks v a b ≡ line_of ws
understood ws w v n e p q m t a b x y =
    ap (λ l. asks v l b) x ∙ ap (asks v (get_or ws 1 [])) y
    ∙ sym (with_verb ws w v e p q ∙ ap (λ s. cond s (asks v (get_or ws 1 []) (get_or ws 2 [])) None) (ap (takes v) (sym m) ∙ sym t))

pub miscounted : (ws : List (List ℕ)) (w : List ℕ) (v : Verb) (n : ℕ) → w ≡ get_or ws 0 [] → false ≡ passed_over w → Some v ≡ verb_of w → n ≡ length ws → false ≡ takes v n → None ≡ line_of ws
miscounted ws w v n e p q m t =
    sym (with_verb ws w v e p q ∙ ap (λ s. cond s (asks v (get_or ws 1 []) (get_or ws 2 [])) None) (ap (takes v) (sym m) ∙ sym t))
