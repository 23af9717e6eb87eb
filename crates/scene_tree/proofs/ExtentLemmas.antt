-- The ends of some numbers and of one more.
use Rattle.std.proofs.Common.{◌≡◌, ℕ, ◌+◌, ◌<◌, ℤ, List, [], ◌∷◌, ◌++◌, length, take, get_or, refl, sym, ap, ap₂, ◌∙◌, Option, Some, None}
use Rattle.std.specs.List.{filter_map, cons_option}
use Rattle.std.specs.Int.{int_min, int_max}
use Rattle.std.proofs.lemmas.List.{take_more, append-nil}
use Rattle.std.proofs.lemmas.List.Elements.{filter_map-append}
use Rattle.std.proofs.lemmas.List.Sums.{fold-append}
use Rattle.scene_tree.specs.Hits.{extent}
use Rattle.scene_tree.specs.inner.Extents.{widened}

extent-append : (ms : List ℤ) (o : Option ℤ) → extent (ms ++ cons_option o []) ≡ widened (extent ms) o
extent-append [] None = refl
extent-append [] (Some n) = refl
extent-append (m ∷ ms) None =
    let none : ms ++ [] ≡ ms = append-nil ms in ap (λ ns. extent (m ∷ ns)) none
extent-append (m ∷ ms) (Some n) =
    ap₂ (λ (a b : ℤ). Some (a, b)) (fold-append int_min m ms (n ∷ [])) (fold-append int_max m ms (n ∷ []))

-- one more element widens the extent by its number, where it has one
pub one_more : {X : Type 0} (f : X → Option ℤ) (xs : List X) (i : ℕ) (x : X) (o : Option ℤ) (ends wider : Option (ℤ × ℤ)) → i < length xs
    → x ≡ get_or xs i x → o ≡ f x → ends ≡ extent (filter_map f (take i xs)) → wider ≡ widened ends o
    → wider ≡ extent (filter_map f (take (i + 1) xs))
one_more f xs i x o ends wider within is number so_far widens =
    widens ∙ ap₂ widened so_far (number ∙ ap f is)
    ∙ sym (ap (λ ys. extent (filter_map f ys)) (take_more xs i x within)
    ∙ ap extent (filter_map-append f (take i xs) (get_or xs i x ∷ []))
    ∙ extent-append (filter_map f (take i xs)) (f (get_or xs i x)))
