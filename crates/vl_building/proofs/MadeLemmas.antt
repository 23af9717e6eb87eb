-- Lists that are made value by value.
use Rattle.std.proofs.Common.{◌≡◌, ℕ, ◌+◌, ◌<◌, List, [], ◌∷◌, ◌++◌, length, take, drop, get_or, map, sym, ap, ◌∙◌}
use Rattle.std.specs.List.{enumerate_from}
use Rattle.std.proofs.lemmas.List.{take_more, drop_more, map-append, append_assoc}

module _ {X Y : Type 0} where
  -- one more value
  pub one_made : (f : X → Y) (xs : List X) (i : ℕ) (x : X) (out new : List Y) → i < length xs → x ≡ get_or xs i x → out ≡ map f (take i xs)
      → new ≡ out ++ f x ∷ [] → new ≡ map f (take (i + 1) xs)
  one_made f xs i x out new within at so_far added = added ∙ ap (λ ys. ys ++ f x ∷ []) so_far
      ∙ sym (map-append f (take i xs) (x ∷ []))
      ∙ ap (λ y. map f (take i xs ++ y ∷ [])) at
      ∙ ap (map f) (sym (take_more xs i x within))

  -- one more value that goes by its number
  pub one_numbered : (f : ℕ × X → Y) (xs : List X) (i : ℕ) (x : X) (out new whole : List Y) → i < length xs → x ≡ get_or xs i x
      → new ≡ out ++ f (i, x) ∷ [] → out ++ map f (enumerate_from i (drop i xs)) ≡ whole
      → new ++ map f (enumerate_from (i + 1) (drop (i + 1) xs)) ≡ whole
  one_numbered f xs i x out new whole within at added so_far =
      ap (λ ys. ys ++ map f (enumerate_from (i + 1) (drop (i + 1) xs))) added
      ∙ append_assoc out (f (i, x) ∷ []) (map f (enumerate_from (i + 1) (drop (i + 1) xs)))
      ∙ ap (λ y. out ++ f (i, y) ∷ map f (enumerate_from (i + 1) (drop (i + 1) xs))) at
      ∙ sym (ap (λ ys. out ++ map f (enumerate_from i ys)) (drop_more xs i x within))
      ∙ so_far
