-- Why the chart of one plot is that of a plot with its guides.
use Rattle.std.proofs.Common.{◌≡◌, false, is_some, Option, Some, None, ℕ, refl, ap, ◌∙◌}
use Rattle.std.specs.Option.{option_map}
use Rattle.scene_tree.specs.Outcome.{Outcome, ◌>>=◌, outcome_map, in_reach}
use Rattle.plot_scenes.specs.declared.scenes.Drawing.{Drawing}
use Rattle.vega_copies.specs.Outlines.{Opened, opened}
use Rattle.vega_copies.specs.Scopes.{Names}
use Rattle.vega_copies.specs.Panels.{plots_in_facets}
use Rattle.vega_charts.specs.Panels.{with_panels}
use Rattle.vega_charts.specs.Scenes.{drawing_over}
use Rattle.vega_charts.specs.Charts.{drawn_from}
use Rattle.vega_charts.specs.OnePlotLaws.{OnePlotIsDrawn, APlotAlone, OnePlotLaws}
use Rattle.vega_charts.proofs.TopLaws.{laws as top_laws}
use Rattle.vega_charts.proofs.ItemOrder.{in_order_already}
use Rattle.vega_charts.proofs.OnePlot.{drawn_over, plain}

-- what is made of what is in reach
mapped : {X Y : Type 0} (f : X → Y) (o : Option X) → outcome_map f (in_reach o) ≡ in_reach (option_map f o)
mapped f None = refl
mapped f (Some x) = refl

pub drawn : OnePlotIsDrawn
drawn g stores params sources o marks names frame items is =
    let top : Opened = record { object = o; marks = marks } in
    let over : Names → ℕ → Outcome Drawing = λ names n. with_panels n (in_reach (drawing_over g sources top names)) in
    let after : Names → Outcome Drawing = λ names. in_reach (plots_in_facets sources marks false (is_some o.layout) names) >>= over names in
    ap (λ top. outcome_map (λ (d : Drawing). d.scene) (drawn_from g top stores params sources)) is.outline
    ∙ ap (λ (found : Option Names). outcome_map (λ (d : Drawing). d.scene) (in_reach found >>= after)) is.named
    ∙ ap (λ (found : Option ℕ). outcome_map (λ (d : Drawing). d.scene) (in_reach found >>= over names))
    (top_laws.no_panels sources marks false (is_some o.layout) names is.no_groups)
    ∙ mapped (λ (d : Drawing). d.scene) (drawing_over g sources top names)
    ∙ ap in_reach (drawn_over g sources o marks frame items names is.layout is.no_groups is.framed is.found
    (in_order_already (opened g.group).marks marks frame items (ap (λ (top : Opened). top.marks) is.outline) is.no_groups is.found))

alone : APlotAlone
alone g stores params sources o marks names frame items is none space wide high =
    drawn g stores params sources o marks names frame items is ∙ ap in_reach (plain g sources o marks frame items none space wide high)

pub laws : OnePlotLaws
laws = record { drawn = drawn; alone = alone }
