-- The next of a list that is seen otherwise.
use Rattle.std.proofs.Common.{◌≡◌, ℕ, zero, suc, ◌+◌, ◌<◌, List, [], ◌∷◌, ◌++◌, drop, get_or, length, map, refl, sym, ap, ◌∙◌, arith}
use Rattle.std.proofs.lemmas.List.{append_assoc, drop_more, length-map}
use Rattle.vl_compose.specs.declared.here.ViewHere.{ViewHere}
use Rattle.vl_compose.specs.Shown.{round_shown, view_shown}

pub at_place : {X A : Type 0} (shown : X → A) (xs : List X) (n : ℕ) (d : X) → get_or (map shown xs) n (shown d) ≡ shown (get_or xs n d)
at_place shown [] n d = refl
at_place shown (x ∷ xs) zero d = refl
at_place shown (x ∷ xs) (suc n) d = at_place shown xs n d

-- what is left begins with the item
pub next_of : {X A : Type 0} (shown : X → A) (xs : List X) (n : ℕ) (x : X) → n < length xs → x ≡ get_or xs n x →
    drop n (map shown xs) ≡ shown x ∷ drop (n + 1) (map shown xs)
next_of shown xs n x within is =
    let many = length-map xs shown in
    let here : n < length (map shown xs) = omega arith in
    drop_more (map shown xs) n (shown x) here
    ∙ (λ i. (at_place shown xs n x ∙ ap shown (sym is)) i ∷ drop (n + 1) (map shown xs))

pub next_shown : (round : List ViewHere) (n : ℕ) (here : ViewHere) → n < length round → here ≡ get_or round n here →
    drop n (round_shown round) ≡ view_shown here ∷ drop (n + 1) (round_shown round)
next_shown round n here within is = next_of view_shown round n here within is

-- one more that is made of what is shown
pub made_more : {X Y Z : Type 0} (shown : X → Y) (f : Y → Z) (xs : List X) (i : ℕ) (x : X) (y : Z) (old new whole : List Z) → i < length xs →
    x ≡ get_or xs i x → y ≡ f (shown x) → new ≡ old ++ y ∷ [] → old ++ map f (map shown (drop i xs)) ≡ whole →
    new ++ map f (map shown (drop (i + 1) xs)) ≡ whole
made_more shown f xs i x y old new whole within is made pushed so_far =
    ap (λ zs. zs ++ map f (map shown (drop (i + 1) xs))) (pushed ∙ ap (λ z. old ++ z ∷ []) made)
    ∙ append_assoc old (f (shown x) ∷ []) (map f (map shown (drop (i + 1) xs)))
    ∙ ap (λ ys. old ++ map f (map shown ys)) (sym (drop_more xs i x within ∙ ap (λ z. z ∷ drop (i + 1) xs) (sym is)))
    ∙ so_far
