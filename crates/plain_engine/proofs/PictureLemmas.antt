-- Pictures of what is drawn.
use Rattle.std.proofs.Common.{◌≡◌, List, sym, ap, ◌∙◌}
use Rattle.std.specs.Prelude.{Result, Ok, Err, IfOk}
use Rattle.std.specs.Result.{result_map_both}
use Rattle.cell_value.specs.declared.state.StoreOf.{StoreOf}
use Rattle.scale_kit.specs.declared.scale.ScaleSet.{ScaleSet}
use Rattle.scene_tree.specs.declared.scene.Scene.{Scene}
use Rattle.scene_tree.specs.Outcome.{Outcome, Drawn, Overflow, Panels, ◌>>=◌, outcome_map}
use Rattle.plot_scenes.specs.declared.scenes.Drawing.{Drawing}
use Rattle.param_flow.specs.Semantics.{Picture}
use Rattle.vega_spec.specs.declared.spec.VgSpec.{VgSpec}
use Rattle.vega_selections.specs.Selections.{selections_of}
use Rattle.vega_events.specs.Laws.{inverted_in}
use Rattle.vega_meaning.specs.declared.open.OpenError.{OpenError}
use Rattle.vega_meaning.specs.declared.open.OpenError.TheVariants as error
use Rattle.vega_meaning.specs.Answers.{Draws}
use Rattle.vega_meaning.specs.Charts.{brushed_scene, picture_of}
use Rattle.plain_engine.specs.inner.Pictures.{scene_of, shown, scales_of, HasScales}

-- an error stays
abbrev pub same_error : OpenError → OpenError
same_error e = e

module _ (g : VgSpec) (stores : List StoreOf) (drawing : Drawing) where
  -- a picture of a scene, with the scales of its plots
  abbrev pictured : ScaleSet → Scene → Picture
  pictured scales scene = record { scene = scene; inverts = inverted_in scales (selections_of g) }

  abbrev with_scene : Scene → Picture
  with_scene scene = pictured drawing.scales scene

  -- what is answered of a brushed scene is what is answered of the picture
  pub picture_answered : (result : Result Drawing OpenError)
      → Draws (brushed_scene g stores drawing.scales drawing.scene) (result_map_both scene_of same_error result)
      → IfOk result (λ d. d.scales ≡ drawing.scales)
      → Draws (picture_of g stores drawing) (result_map_both (shown g) same_error result)
  picture_answered (Ok d) is scales =
      ap (outcome_map with_scene) is ∙ ap (λ (scales : ScaleSet). Drawn (pictured scales d.scene)) (sym scales)
  picture_answered (Err error.Overflow) is scales = ap (outcome_map with_scene) is
  picture_answered (Err (error.Panels n)) is scales = ap (outcome_map with_scene) is
  picture_answered (Err error.Memory) is scales = tt

  -- the picture of what was drawn
  pub picture_drawn : (o : Outcome Drawing) (result : Result Drawing OpenError) → o ≡ Drawn drawing
      → Draws (picture_of g stores drawing) (result_map_both (shown g) same_error result)
      → Draws (o >>= picture_of g stores) (result_map_both (shown g) same_error result)
  picture_drawn o (Ok d) is h = ap (λ o. o >>= picture_of g stores) is ∙ h
  picture_drawn o (Err error.Overflow) is h = ap (λ o. o >>= picture_of g stores) is ∙ h
  picture_drawn o (Err (error.Panels n)) is h = ap (λ o. o >>= picture_of g stores) is ∙ h
  picture_drawn o (Err error.Memory) is h = tt

  -- it has the scales of what was drawn
  pub scales_drawn : (o : Outcome Drawing) (result : Result Drawing OpenError) → o ≡ Drawn drawing → IfOk result (λ d. d.scales ≡ drawing.scales)
      → IfOk result (HasScales o)
  scales_drawn o (Ok d) is scales = ap (outcome_map scales_of) is ∙ ap Drawn (sym scales)
  scales_drawn o (Err e) is scales = tt
