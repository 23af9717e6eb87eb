-- Loops over lists of which contracts see what they show.
use Rattle.std.proofs.Common.{◌≡◌, ℕ, ◌+◌, ◌<◌, List, ◌∷◌, ◌++◌, map, flat_map, drop, get_or, length, sym, ap, ◌∙◌}
use Rattle.std.proofs.lemmas.List.{append_assoc, drop_more}

-- what is left after one more, as it is shown
left : {A B : Type 0} (s : A → B) (xs : List A) (n : ℕ) (item : A) → n < length xs → item ≡ get_or xs n item →
    map s (drop n xs) ≡ s item ∷ map s (drop (n + 1) xs)
left s xs n item within is = ap (map s) (drop_more xs n item within) ∙ ap (λ x. s x ∷ map s (drop (n + 1) xs)) (sym is)

-- one more, of which several are made
pub one_flat : {A B C : Type 0} (f : B → List C) (s : A → B) (xs : List A) (n : ℕ) (item : A) (out next whole : List C) →
    n < length xs → item ≡ get_or xs n item →
    next ≡ out ++ f (s item) → out ++ flat_map f (map s (drop n xs)) ≡ whole → next ++ flat_map f (map s (drop (n + 1) xs)) ≡ whole
one_flat f s xs n item out next whole within is grown so_far =
    ap (λ o. o ++ flat_map f (map s (drop (n + 1) xs))) grown
    ∙ append_assoc out (f (s item)) (flat_map f (map s (drop (n + 1) xs)))
    ∙ ap (λ ys. out ++ flat_map f ys) (sym (left s xs n item within is))
    ∙ so_far
