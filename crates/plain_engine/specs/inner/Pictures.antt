-- Pictures that are held with the scales of their plots.
use Rattle.std.specs.Prelude.{◌≡◌}
use Rattle.scale_kit.specs.declared.scale.ScaleSet.{ScaleSet}
use Rattle.scene_tree.specs.declared.scene.Scene.{Scene}
use Rattle.scene_tree.specs.Outcome.{Outcome, Drawn, outcome_map}
use Rattle.plot_scenes.specs.declared.scenes.Drawing.{Drawing}
use Rattle.param_flow.specs.Semantics.{Picture}
use Rattle.vega_spec.specs.declared.spec.VgSpec.{VgSpec}
use Rattle.vega_meaning.specs.Charts.{inverts_in}

-- the picture that is held, as commands see it
abbrev pub shown : VgSpec → Drawing → Picture
shown g held = record { scene = held.scene; inverts = inverts_in g held }

-- what is held of a drawing
abbrev pub scene_of : Drawing → Scene
scene_of d = d.scene

abbrev pub scales_of : Drawing → ScaleSet
scales_of d = d.scales

-- it has the scales of what is drawn
abbrev pub HasScales : Outcome Drawing → Drawing → Type 0
HasScales drawn held = outcome_map scales_of drawn ≡ Drawn held.scales
