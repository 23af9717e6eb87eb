-- Items that are moved.
use Rattle.std.proofs.Common.{◌≡◌, ℕ, ◌+◌, ◌<◌, length, take, drop, get_or, set, pos, List, [], ◌∷◌, Option, Some, None, refl, sym, ap, ◌∙◌, arith}
use Rattle.std.specs.Prelude.{map}
use Rattle.std.specs.Option.{option_map}
use Rattle.std.proofs.lemmas.List.{drop_more, take_more_set, drop-set-lt}
use Rattle.fixed_num.specs.Ranges.{◌>>=◌, all_found}
use Rattle.fixed_num.proofs.FoundLemmas.{after, one_more}
use Rattle.scene_tree.specs.declared.scene.Item.{Item}
use Rattle.scene_tree.specs.declared.shape.Point.{Point}
use Rattle.scene_tree.specs.declared.shape.Point.TheVariants as point
use Rattle.scene_tree.specs.declared.shape.Shape.{Shape}
use Rattle.scene_tree.specs.declared.shape.Shape.TheVariants.{Rect, Circle, Path, Line, Words}
use Rattle.scene_tree.specs.Moves.{moved_point, moved_shape, moved_item, StaysInPlace}

-- an element is moved where it stands
pub one_moved : {X : Type 0} (f : X → Option X) (xs : List X) (i : ℕ) (x y : X) (all : Option (List X)) → i < length xs → Some y ≡ f (get_or xs i x)
    → after (take i xs) (all_found (map f (drop i xs))) ≡ all
    → after (take (i + 1) (set xs i y)) (all_found (map f (drop (i + 1) (set xs i y)))) ≡ all
one_moved f xs i x y all below moves so_far =
    let later : i < i + 1 = omega arith in
    (λ j. after (take_more_set xs i y below j) (all_found (map f (drop-set-lt (i + 1) xs i y later j))))
    ∙ one_more (take i xs) y (all_found (map f (drop (i + 1) xs)))
    ∙ ap (λ o. after (take i xs) (o >>= λ v. all_found (map f (drop (i + 1) xs)) >>= λ vs. Some (v ∷ vs))) moves
    ∙ ap (λ vs. after (take i xs) (all_found (map f vs))) (sym (drop_more xs i x below)) ∙ so_far

-- an element can't be moved
pub none_moved : {X : Type 0} (f : X → Option X) (xs : List X) (i : ℕ) (x : X) (all : Option (List X)) → i < length xs → None ≡ f (get_or xs i x)
    → after (take i xs) (all_found (map f (drop i xs))) ≡ all → None ≡ all
none_moved f xs i x all below stops so_far =
    ap (λ o. after (take i xs) (o >>= λ v. all_found (map f (drop (i + 1) xs)) >>= λ vs. Some (v ∷ vs))) stops
    ∙ ap (λ vs. after (take i xs) (all_found (map f vs))) (sym (drop_more xs i x below)) ∙ so_far

point_stays : (p : Point) → moved_point (pos 0) (pos 0) p ≡ Some p
point_stays (point.Move x y) = refl
point_stays (point.Line x y) = refl
point_stays point.Close = refl

points_stay : (ps : List Point) → all_found (map (moved_point (pos 0) (pos 0)) ps) ≡ Some ps
points_stay [] = refl
points_stay (p ∷ ps) =
    ap (λ o. o >>= λ q. all_found (map (moved_point (pos 0) (pos 0)) ps) >>= λ qs. Some (q ∷ qs)) (point_stays p)
    ∙ ap (λ o. o >>= λ qs. Some (p ∷ qs)) (points_stay ps)

shape_stays : (s : Shape) → moved_shape (pos 0) (pos 0) s ≡ Some s
shape_stays (Rect x y width height) = refl
shape_stays (Circle x y r) = refl
shape_stays (Path points picked) = ap (λ o. o >>= λ moved. Some (Path moved picked)) (points_stay points)
shape_stays (Line x1 y1 x2 y2) = refl
shape_stays (Words x y turned anchor size bold text) = refl

pub stays : StaysInPlace
stays item = ap (option_map (λ shape. record item { shape = shape })) (shape_stays item.shape)

-- all of a list stay
pub all_stay : (items : List Item) → all_found (map (moved_item (pos 0) (pos 0)) items) ≡ Some items
all_stay [] = refl
all_stay (item ∷ items) =
    ap (λ o. o >>= λ x. all_found (map (moved_item (pos 0) (pos 0)) items) >>= λ xs. Some (x ∷ xs)) (stays item)
    ∙ ap (λ o. o >>= λ xs. Some (item ∷ xs)) (all_stay items)
