-- Fields of a record by their places.
use Rattle.std.proofs.Common.{◌≡◌, ℕ, zero, suc, ◌+◌, Some, List, [], ◌∷◌, ◌++◌, drop, map, slice_get, refl, sym, ap, ◌∙◌, append_assoc}
use Rattle.std.proofs.lemmas.List.{drop_more}
use Rattle.std.proofs.lemmas.Option.{slice_get_within, get_or_from_slice_get}
use Rattle.csv.specs.Records.{field_at}

-- the field at a place is the element there
pub at_place : (fields : List (List ℕ)) (i : ℕ) → field_at fields i ≡ slice_get fields i
unfolding field_at
at_place [] i = refl
at_place (f ∷ fs) zero = refl
at_place (f ∷ fs) (suc i) = at_place fs i

-- the list from an element on
pub from_place : {X : Type 0} (xs : List X) (i : ℕ) (x : X) → slice_get xs i ≡ Some x → drop i xs ≡ x ∷ drop (i + 1) xs
from_place xs i x e = drop_more xs i x (slice_get_within xs i x e) ∙ ap (λ y. y ∷ drop (i + 1) xs) (get_or_from_slice_get xs i x x e)

-- one element more of a list that is built
pub one_made : {X Y : Type 0} (f : X → Y) (xs : List X) (i : ℕ) (x : X) (made whole : List Y) → slice_get xs i ≡ Some x
    → made ++ map f (drop i xs) ≡ whole → (made ++ f x ∷ []) ++ map f (drop (i + 1) xs) ≡ whole
one_made f xs i x made whole e h =
    append_assoc made (f x ∷ []) (map f (drop (i + 1) xs)) ∙ ap (λ l. made ++ map f l) (sym (from_place xs i x e)) ∙ h
