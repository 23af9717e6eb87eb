-- What is to hold of Vega specifications over the direct machine.
use Rattle.std.specs.Prelude.{◌≡◌, Some, List}
use Rattle.cell_value.specs.State.{Dataset, State}
use Rattle.expr_eval.specs.Values.{Values}
use Rattle.scale_kit.specs.Scale.{AreScales}
use Rattle.plot_scenes.specs.declared.scenes.Drawing.{Drawing}
use Rattle.vega_signals.specs.Settling.{Valued}
use Rattle.vega_charts.specs.Charts.{drawing_of}
use Rattle.scene_tree.specs.Outcome.{Drawn}
use Rattle.param_flow.specs.Semantics.{Picture}
use Rattle.param_flow.specs.States.{IsMeaning}
use Rattle.vega_spec.specs.declared.spec.VgSpec.{VgSpec}
use Rattle.vega_copies.specs.Tested.{KeepsRules}
use Rattle.vega_events.specs.Premises.{ItemsAreOfRows}
use Rattle.vega_selections.specs.Kept.{KeepsSelections}
use Rattle.vega_meaning.specs.Semantics.{vega_semantics, rows_in}

-- a specification that keeps the rules has a meaning: its sources have names of their own, its selections are such, and the panels that it draws are
-- of its plots
abbrev pub SpecificationsMean : Type 0
SpecificationsMean = (g : VgSpec) → KeepsRules g → KeepsSelections g → IsMeaning (vega_semantics g)

-- the scales of what is drawn of such a specification are such as callers ask for
abbrev pub DrawnScalesAreSound : Type 0
DrawnScalesAreSound =
    (g : VgSpec) (stores : Values) (params : Valued) (sources : List Dataset) (drawing : Drawing) → KeepsRules g
    → drawing_of g stores params sources ≡ Drawn drawing → AreScales drawing.scales

-- each item with a unit and a key is one of a row that its unit draws
abbrev pub ItemsHaveRows : Type 0
ItemsHaveRows =
    (g : VgSpec) (st : State) (picture : Picture) → KeepsRules g → (vega_semantics g).draw st ≡ Drawn picture
    → ItemsAreOfRows (λ unit. Some (rows_in g st unit)) picture.scene
