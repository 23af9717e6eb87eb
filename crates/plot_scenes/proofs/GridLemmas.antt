-- The legends of grids.
use Rattle.std.proofs.Common.{◌≡◌, Bool, true, false, if◌then◌else◌, List, [], ◌∷◌, ◌++◌, flat_map, sym, ap, ◌∙◌, subst}
use Rattle.std.specs.List.{All}
use Rattle.std.proofs.lemmas.List.Elements.{All-nil, All-append, All-head, All-tail}
use Rattle.plot_scenes.specs.declared.legends.LegendShown.{LegendShown}
use Rattle.plot_scenes.specs.declared.views.Placed.{Placed}
use Rattle.plot_scenes.specs.Legends.{IsLegendShown}
use Rattle.plot_scenes.specs.Views.{HasLegends}

either : (b : Bool) (legends : List LegendShown) → All IsLegendShown legends → All IsLegendShown (if b then legends else [])
either true legends all = all
either false legends all = All-nil IsLegendShown

inside_all : (inside : List Placed) → All HasLegends inside → All IsLegendShown (flat_map (λ (v : Placed). v.legends) inside)
inside_all [] all = All-nil IsLegendShown
inside_all (v ∷ others) all =
    All-append IsLegendShown v.legends (flat_map (λ (v : Placed). v.legends) others) (All-head HasLegends v others all)
    (inside_all others (All-tail HasLegends v others all))

-- a grid has the legends that callers ask for, where its own are and those of its cells have them
pub has_legends : (b : Bool) (own first made : List LegendShown) (inside : List Placed) → first ≡ (if b then own else [])
    → made ≡ first ++ flat_map (λ (v : Placed). v.legends) inside → All IsLegendShown own → All HasLegends inside → All IsLegendShown made
has_legends b own first made inside first_is is all inside_have =
    subst (All IsLegendShown) (sym (is ∙ ap (λ l. l ++ flat_map (λ (v : Placed). v.legends) inside) first_is))
    (All-append IsLegendShown (if b then own else []) (flat_map (λ (v : Placed). v.legends) inside) (either b own all)
    (inside_all inside inside_have))
