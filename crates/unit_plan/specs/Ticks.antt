-- Ticks are 1 by 15 about the centre, which is that of a point; upright where x is continuous by its first definition, else lying.
use Rattle.std.specs.Prelude.{ℕ, ℤ, pos, Bool, false, List, if◌then◌else◌}
use Rattle.std.specs.Option.{option_map_or}
use Rattle.vl_normalize.specs.declared.codes.TheConstants.{X}
use Rattle.vl_spec.specs.declared.definitions.Definition.{Definition}
use Rattle.vl_compose.specs.Units.{UnitAt}
use Rattle.scale_infer.specs.Scales.{first_at}
use Rattle.scale_infer.specs.Types.{type_of, is_continuous}
use Rattle.unit_plan.specs.declared.ends.End.TheVariants as end
use Rattle.plan_kit.specs.declared.marks.Along.{Along}
use Rattle.unit_plan.specs.Ends.{ways}
use Rattle.unit_plan.specs.Lanes.{Lane}

-- half of 1, and half of 15
abbrev pub thin : ℤ
thin = pos 500000

abbrev pub long : ℤ
long = pos 7500000

abbrev pub is_upright : UnitAt → Bool
is_upright unit = option_map_or (λ (d : Definition). is_continuous (type_of d)) (first_at unit X) false

-- half of a tick along x, and along y
abbrev pub half_across : Bool → ℤ
half_across upright = if upright then thin else long

abbrev pub half_down : Bool → ℤ
half_down upright = if upright then long else thin

abbrev pub tick_along : (List ℕ → Bool) → ℤ → Lane → Along
tick_along is_selection half lane = record { near = ways is_selection (end.Before half) lane; far = ways is_selection (end.Behind half) lane }
