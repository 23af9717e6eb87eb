-- The names that a compiled specification makes of scales are apart from each other: of those of the plan, of those over which places stand in the middle of
-- a plot or at its foot, and of those that drags invert.
use Rattle.std.specs.Prelude.{◌≡◌, ℕ, ◌++◌, Some, List, slice_get}
use Rattle.vl_normalize.specs.declared.codes.TheConstants.{X, Y, COLOR, OPACITY, SIZE, SHAPE}
use Rattle.plan_kit.specs.declared.scales.ScalePlan.{ScalePlan}
use Rattle.vega_assemble.specs.Names.{channel_word, drag_name, foot_name, middle_name, numbered, scale_name}
use Rattle.compiled_rows.specs.Names.{IsPlace}

-- the channels that bear a scale, with their codes
pub data Bearer : Type 0 where
  OnX : Bearer
  OnY : Bearer
  OnColor : Bearer
  OnOpacity : Bearer
  OnSize : Bearer
  OnShape : Bearer

abbrev pub bearer_code : Bearer → ℕ
bearer_code OnX = X
bearer_code OnY = Y
bearer_code OnColor = COLOR
bearer_code OnOpacity = OPACITY
bearer_code OnSize = SIZE
bearer_code OnShape = SHAPE

-- the two directions of a plot
pub data Direction : Type 0 where
  Across : Direction
  Down : Direction

abbrev pub direction_code : Direction → ℕ
direction_code Across = X
direction_code Down = Y

-- What a name of a scale is for: a scale of the plan by its channel and its number; the middle of a plot, or its foot; a drag of the selection of a number.
pub data MadeScale : Type 0 where
  PlanScale : Bearer → ℕ → MadeScale
  MiddleScale : Direction → MadeScale
  FootScale : Direction → MadeScale
  DragScale : ℕ → Direction → MadeScale

abbrev pub made_scale_name : List ℕ → MadeScale → List ℕ
made_scale_name stem (PlanScale b n) = stem ++ numbered (channel_word (bearer_code b)) n
made_scale_name stem (MiddleScale d) = middle_name stem (direction_code d)
made_scale_name stem (FootScale d) = foot_name stem (direction_code d)
made_scale_name stem (DragScale n d) = drag_name stem n (direction_code d)

-- the numbers in it are of 64 bits
abbrev pub ScaleHasPlaces : MadeScale → Type 0
ScaleHasPlaces (PlanScale b n) = IsPlace n
ScaleHasPlaces (MiddleScale d) = Unit {0}
ScaleHasPlaces (FootScale d) = Unit {0}
ScaleHasPlaces (DragScale n d) = IsPlace n

-- Behind one stem, names of different scales differ.
abbrev pub ScaleNamesDiffer : Type 0
ScaleNamesDiffer = (stem : List ℕ) (a b : MadeScale) → ScaleHasPlaces a → ScaleHasPlaces b → made_scale_name stem a ≡ made_scale_name stem b → a ≡ b

-- The name of a scale of the plan is that of its channel and its number.
abbrev pub PlanScalesAreNamed : Type 0
PlanScalesAreNamed = (stem : List ℕ) (scales : List ScalePlan) (n : ℕ) (s : ScalePlan) (b : Bearer) → slice_get scales n ≡ Some s → s.channel ≡ bearer_code b
    → scale_name stem scales n ≡ made_scale_name stem (PlanScale b n)
