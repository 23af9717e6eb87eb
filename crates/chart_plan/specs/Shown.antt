-- Which units share a scale, and what they show on it. A scale is that of a channel and of some units. Beside the scales that units share, x and y
-- have one for each unit alone that has none there, since it shows nothing or pixels alone; so each unit has one scale of x and one of y. The scales
-- stand by the codes of their channels, then by their first units; behind them those of units alone, first of x and then of y. A scale's number is its
-- place, counted from 0.
use Rattle.std.specs.Prelude.{ℕ, not, List, [], ◌∷◌, ◌++◌, filter, flat_map, map, if◌then◌else◌}
use Rattle.vl_spec.specs.declared.definitions.Definition.{Definition}
use Rattle.vl_normalize.specs.declared.codes.TheConstants.{X, Y}
use Rattle.vl_compose.specs.declared.views.SharedScale.{SharedScale}
use Rattle.vl_compose.specs.Definitions.{definitions_at}
use Rattle.vl_compose.specs.Sharing.{has_scale, shared_scales}
use Rattle.vl_compose.specs.Units.{UnitAt}
use Rattle.plan_kit.specs.Among.{is_among}

-- what a unit shows in a channel on a scale of these units: the channel's own definition and those of its conditions, if it is one of them
abbrev pub shown_in : ℕ → List ℕ → UnitAt → List Definition
shown_in channel sharing unit = if is_among sharing unit.number then definitions_at unit.channels channel else []

-- what all of them show, unit after unit
abbrev pub all_shown : List UnitAt → ℕ → List ℕ → List Definition
all_shown units channel sharing = flat_map (shown_in channel sharing) units

-- the scale of a unit alone
abbrev pub alone_in : ℕ → UnitAt → SharedScale
alone_in channel unit = record { channel = channel; units = unit.number ∷ [] }

-- those of units that show nothing on a scale in a channel
abbrev pub alone_for : List UnitAt → ℕ → List SharedScale
alone_for units channel = map (alone_in channel) (filter (λ (u : UnitAt). not (has_scale channel u)) units)

-- all scales of some units
abbrev pub scales_among : List UnitAt → List SharedScale
scales_among units = shared_scales units ++ alone_for units X ++ alone_for units Y
