-- What is drawn without stores has no brush.
use Rattle.std.proofs.Common.{◌≡◌, [], refl}
use Rattle.scene_tree.specs.Outcome.{Outcome, Drawn, Overflow, Panels, ◌>>=◌, outcome_map}
use Rattle.svg_text.specs.SceneText.{svg_of}
use Rattle.plot_scenes.specs.declared.scenes.Drawing.{Drawing}
use Rattle.param_flow.specs.Semantics.{text_of}
use Rattle.vega_spec.specs.declared.spec.VgSpec.{VgSpec}
use Rattle.vega_meaning.specs.Charts.{picture_of}

pub unbrushed : (g : VgSpec) (drawn : Outcome Drawing)
    → outcome_map text_of (drawn >>= picture_of g []) ≡ outcome_map svg_of (outcome_map (λ (d : Drawing). d.scene) drawn)
unbrushed g (Drawn d) = refl
unbrushed g Overflow = refl
unbrushed g (Panels n) = refl
