-- The size of a plot, first its width. The plot's own view says it, or else the first view in it that does, from the outside in and in the order of the
-- text: a number of pixels, or a step from one cell to the next. A step says nothing on a continuous scale. The scale is that of the first unit in
-- the plot which has one for x; where none has, it is the scale that stands there for its first unit alone, of one null, so that the width is one
-- step. Where nothing is said, a continuous scale has the `continuousWidth` of `config.view`, else 200; a discrete one its `discreteWidth`, else the
-- steps of its `step`, else of 20. The height goes by y alike.
use Rattle.std.specs.Prelude.{◌≡◌, refl, ℕ, ◌==◌, ◌*◌, Bool, true, false, ℤ, pos, Option, Some, None, List, [], ◌∷◌, unwrap_or, if◌then◌else◌}
use Rattle.std.specs.Option.{option_and_then, option_map_or}
use Rattle.fixed_num.specs.Number.{million}
use Rattle.vl_normalize.specs.declared.codes.TheConstants.{X}
use Rattle.vl_spec.specs.declared.sizes.ConfigView.{ConfigView}
use Rattle.vl_spec.specs.declared.sizes.Size.{Size}
use Rattle.vl_spec.specs.declared.sizes.Size.TheVariants as size
use Rattle.plan_kit.specs.declared.sizes.SizePlan.{SizePlan}
use Rattle.plan_kit.specs.declared.sizes.SizePlan.TheVariants.{Pixels, Steps}
use Rattle.guide_infer.specs.First.{first_given}

-- ---- what is said

-- a size on a scale of a number: a step says nothing on a continuous one
abbrev pub size_by : Bool → ℕ → Size → Option SizePlan
size_by continuous scale (size.Number n) = Some (Pixels n)
size_by continuous scale (size.Step n) = if continuous then None else Some (Steps n scale)

-- the first of some sizes that says something
abbrev pub said_size : Bool → ℕ → List Size → Option SizePlan
said_size continuous scale sizes = first_given (size_by continuous scale) sizes

-- ---- what is said of views that say nothing

abbrev pub continuous_member : ℕ → ConfigView → Option ℤ
continuous_member channel c = if channel == X then c.continuous_width else c.continuous_height

abbrev pub discrete_member : ℕ → ConfigView → Option Size
discrete_member channel c = if channel == X then c.discrete_width else c.discrete_height

-- 200 pixels, and 20
abbrev pub usual_size : ℤ
usual_size = pos (200 * million)

abbrev pub usual_step : ℤ
usual_step = pos (20 * million)

abbrev pub continuous_size : ℕ → Option ConfigView → SizePlan
continuous_size channel config = Pixels (unwrap_or (option_and_then (continuous_member channel) config) usual_size)

abbrev pub step_of : Option ConfigView → ℤ
step_of config = unwrap_or (option_and_then (λ (c : ConfigView). c.step) config) usual_step

abbrev pub discrete_by : ℕ → Size → SizePlan
discrete_by scale (size.Number n) = Pixels n
discrete_by scale (size.Step n) = Steps n scale

abbrev pub steps : ℤ → ℕ → SizePlan
steps step scale = Steps step scale

abbrev pub discrete_size : ℕ → ℕ → Option ConfigView → SizePlan
discrete_size channel scale config =
    option_map_or (discrete_by scale) (option_and_then (discrete_member channel) config) (steps (step_of config) scale)

abbrev pub default_size : ℕ → Bool → ℕ → Option ConfigView → SizePlan
default_size channel continuous scale config = if continuous then continuous_size channel config else discrete_size channel scale config

-- the size of a plot along a channel, x or y, whose scale is continuous or not and has this number, by the sizes that its views say
abbrev pub size_of : ℕ → Bool → ℕ → Option ConfigView → List Size → SizePlan
size_of channel continuous scale config sizes = unwrap_or (said_size continuous scale sizes) (default_size channel continuous scale config)

-- The rules at work.

-- pixels
abbrev pixels : ℕ → ℤ
pixels n = pos (n * million)

abbrev some_sizes : ConfigView
some_sizes = record {
  continuous_width = Some (pixels 300);
  continuous_height = None;
  discrete_width = None;
  discrete_height = Some (size.Number (pixels 90));
  step = Some (pixels 12);
}

sizes_that_are_said : (size_of X true 3 None (size.Number (pixels 50) ∷ []) ≡ Pixels (pixels 50))
    × (size_of X false 3 None (size.Step (pixels 8) ∷ []) ≡ Steps (pixels 8) 3)
sizes_that_are_said = (refl, refl)

no_step_on_numbers : (size_of X true 3 None (size.Step (pixels 8) ∷ size.Number (pixels 50) ∷ []) ≡ Pixels (pixels 50))
    × (size_of X true 3 None (size.Step (pixels 8) ∷ []) ≡ Pixels usual_size)
no_step_on_numbers = (refl, refl)

sizes_by_default : (size_of 1 true 3 None [] ≡ Pixels usual_size) × (size_of 1 false 3 None [] ≡ Steps usual_step 3)
sizes_by_default = (refl, refl)

sizes_of_the_config : (size_of X true 3 (Some some_sizes) [] ≡ Pixels (pixels 300)) × (size_of 1 true 3 (Some some_sizes) [] ≡ Pixels usual_size)
    × (size_of X false 3 (Some some_sizes) [] ≡ Steps (pixels 12) 3) × (size_of 1 false 3 (Some some_sizes) [] ≡ Pixels (pixels 90))
sizes_of_the_config = (refl, refl, refl, refl)
