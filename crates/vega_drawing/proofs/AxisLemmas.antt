-- Axes over the scales that their names stand for.
use Rattle.std.proofs.Common.{◌≡◌, ℤ, List, [], ◌∷◌, map, Option, Some, None, refl, ap, ◌∙◌}
use Rattle.std.specs.List.{All, filter, cons_option}
use Rattle.std.specs.Option.{option_map}
use Rattle.std.proofs.lemmas.List.{map-append}
use Rattle.std.proofs.lemmas.List.Elements.{All-nil, All-cons, All-head, All-tail, All-map, filter-append, filter_map-append}
use Rattle.vega_guides.specs.Shown.{IsAxis}
use Rattle.vega_spec.specs.declared.guides.Axis.{Axis}
use Rattle.vega_drawing.specs.declared.scales.AxisHere.{AxisHere as HeldAxis}
use Rattle.vega_drawing.specs.declared.spots.GridSpot.{GridSpot}
use Rattle.vega_drawing.specs.Scales.{ScaleHere, AxisHere, scale_named, axis_here, axes_here, axis_past, stands}
use Rattle.vega_drawing.specs.Guides.{axis_over, axes_over}
use Rattle.vega_drawing.specs.inner.Kept.{axis_seen, IsFitHere, IsKeptAxis}
use Rattle.vega_drawing.proofs.SeenLemmas.{IsMadeOf}
use Rattle.vega_drawing.proofs.KeptLemmas.{named_kept}

pub axes_kept_past : (spot : GridSpot) (axes : List AxisHere) → All IsKeptAxis axes → All IsKeptAxis (map (axis_past spot) axes)
axes_kept_past spot axes kept = All-map IsKeptAxis (axis_past spot) axes kept

-- an axis over a scale
abbrev over : Axis → ScaleHere → AxisHere
over a s = record { axis = a; scale = s }

-- an axis over the scale that its name stands for, if it stands for one, and then others
one_kept : (a : Axis) (o : Option ScaleHere) (others : List AxisHere) → IsAxis a → ((s : ScaleHere) → o ≡ Some s → IsFitHere s)
    → All IsKeptAxis others → All IsKeptAxis (cons_option (option_map (over a) o) others)
one_kept a None others is fits all = all
one_kept a (Some s) others is fits all = All-cons IsKeptAxis (over a s) others (is, fits s refl) all

pub axes_kept : (scales : List ScaleHere) (axes : List Axis) → All IsFitHere scales → All IsAxis axes → All IsKeptAxis (axes_here scales axes)
axes_kept scales [] kept are = All-nil IsKeptAxis
axes_kept scales (a ∷ axes) kept are =
    one_kept a (scale_named scales a.scale) (axes_here scales axes) (All-head IsAxis a axes are) (λ s e. named_kept scales a.scale s kept e)
    (axes_kept scales axes kept (All-tail IsAxis a axes are))

-- the axes of two lists, one after the other
axes_here_made : (scales : List ScaleHere) → IsMadeOf (axes_here scales)
axes_here_made scales xs ys = filter_map-append (axis_here scales) xs ys

over_made : (width height : ℤ) → IsMadeOf (axes_over width height)
over_made width height xs ys =
    ap (map (axis_over width height)) (filter-append stands xs ys) ∙ map-append (axis_over width height) (filter stands xs) (filter stands ys)

pub shown_made : (width height : ℤ) → IsMadeOf (λ (axes : List HeldAxis). axes_over width height (map axis_seen axes))
shown_made width height xs ys =
    ap (axes_over width height) (map-append axis_seen xs ys) ∙ over_made width height (map axis_seen xs) (map axis_seen ys)

pub own_made : (width height : ℤ) (scales : List ScaleHere) → IsMadeOf (λ (axes : List Axis). axes_over width height (axes_here scales axes))
own_made width height scales xs ys =
    ap (axes_over width height) (axes_here_made scales xs ys) ∙ over_made width height (axes_here scales xs) (axes_here scales ys)
