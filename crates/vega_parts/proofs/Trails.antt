-- Trails from the outermost value inwards, as the program keeps them.
use Rattle.std.proofs.Common.{◌≡◌, ℕ, ◌-◌, ◌≤◌, List, [], ◌∷◌, ◌++◌, length, take, drop, map, refl, sym, ap, ◌∙◌, arith, length-drop}
use Rattle.std.specs.Prelude.{true, false, reverse}
use Rattle.std.specs.List.{list_any}
use Rattle.std.proofs.lemmas.List.{reverse-reverse, reverse-append, length-reverse, take-append-drop, drop_at}
use Rattle.std.proofs.lemmas.List.Sorted.{IsPermutation-reverse, list_any-IsPermutation}
use Rattle.vega_parts.specs.declared.around.Around.{Around}
use Rattle.vega_parts.specs.Trails.{Trail, place_of, object_at, is_object_itself, is_faceted}

pub place_forward : (trail : List Around) → place_of (reverse trail) ≡ drop 1 (map (λ (a : Around). a.number) trail)
place_forward trail = ap (λ (t : List Around). drop 1 (map (λ (a : Around). a.number) t)) (reverse-reverse trail)

pub front_reversed : (xs : List Around) → 1 ≤ length xs → reverse (take (length xs - 1) xs) ≡ drop 1 (reverse xs)
front_reversed xs some =
    let k : ℕ = length xs - 1 in
    let whole : reverse xs ≡ reverse (drop k xs) ++ reverse (take k xs) =
    ap reverse (sym (take-append-drop k xs)) ∙ reverse-append (take k xs) (drop k xs) in
    let left : length xs - k ≡ 1 = omega arith in
    let one : length (reverse (drop k xs)) ≡ 1 = length-reverse (drop k xs) ∙ length-drop k xs ∙ left in
    sym (ap (drop 1) whole ∙ drop_at (reverse (drop k xs)) (reverse (take k xs)) 1 one)

pub object_found : (trail : Trail) → is_object_itself trail ≡ true → object_at trail ≡ trail
object_found [] is = refl
object_found (here ∷ round) is = rw is refl

pub object_further : (trail : Trail) → is_object_itself trail ≡ false → object_at (drop 1 trail) ≡ object_at trail
object_further [] isnt = refl
object_further (here ∷ round) isnt = rw isnt refl

pub faceted_forward : (trail : List Around) → is_faceted (reverse trail) ≡ list_any (λ (a : Around). a.facet) trail
faceted_forward trail = sym (list_any-IsPermutation (λ (a : Around). a.facet) trail (reverse trail) (IsPermutation-reverse trail))
