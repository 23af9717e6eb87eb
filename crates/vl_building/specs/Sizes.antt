-- Sizes, and what views share.
use Rattle.std.specs.Prelude.{◌≡◌, refl, ℕ, ℤ, pos, Option, Some, None, List, [], ◌∷◌, codes}
use Rattle.std.specs.Option.{option_map, option_and_then}
use Rattle.std.specs.List.{filter_map}
use Rattle.json_exact.specs.declared.json.Json.TheVariants as json
use Rattle.json_exact.specs.declared.json.Json.{out-Json}
use Rattle.json_exact.specs.declared.json.Json.TheOpen as level
use Rattle.json_exact.specs.declared.json.Member.{Member}
use Rattle.json_exact.specs.Inside.{members_in}
use Rattle.vl_spec.specs.declared.sizes.Size.{Size}
use Rattle.vl_spec.specs.declared.sizes.Size.TheVariants as size
use Rattle.vl_spec.specs.declared.sizes.ConfigView.{ConfigView}
use Rattle.vl_spec.specs.declared.sizes.Resolve.{Resolve}
use Rattle.vl_spec.specs.declared.sizes.SharingOf.{SharingOf}
use Rattle.vl_spec.specs.Bounds.{over_zero, most_size}
use Rattle.tree_readers.specs.Parts.{Opened, found_at, object_at}
use Rattle.vl_building.specs.Numbers.{between, size_step_at, plain_size_at}
use Rattle.vl_building.specs.Names.{named_in, sharing_named, channel_named}

-- a size that is a number
abbrev pub size_of_number : ℤ → Option Size
size_of_number n = option_map size.Number (between over_zero most_size n)

-- a size by its step
abbrev pub size_of_step : List Member → Option Size
size_of_step members = option_map size.Step (size_step_at members (codes "step"))

-- a size: a number, or the step of an object
abbrev pub size_in : Opened → Option Size
size_in (level.Number n) = size_of_number n
size_in (level.Object members) = size_of_step members
size_in other = None

-- the size under a name
abbrev pub size_at : List Member → List ℕ → Option Size
size_at = found_at size_in

-- the sizes of views that say none
unfoldable pub config_view_of : List Member → ConfigView
config_view_of members = record {
  continuous_width = plain_size_at members (codes "continuousWidth");
  continuous_height = plain_size_at members (codes "continuousHeight");
  discrete_width = size_at members (codes "discreteWidth");
  discrete_height = size_at members (codes "discreteHeight");
  step = size_step_at members (codes "step");
}

-- the same in the object under a name
abbrev pub config_at : List Member → List ℕ → Option ConfigView
config_at members name = option_and_then (λ inner. object_at config_view_of inner (codes "view")) (found_at members_in members name)

-- what is said of a channel of this code
abbrev pub sharing_coded : Member → ℕ → Option SharingOf
sharing_coded m code = option_map (λ sharing. record { channel = code; sharing = sharing }) (named_in sharing_named m.value)

-- what a member says of the channel of its name
unfoldable pub sharing_in : Member → Option SharingOf
sharing_in m = option_and_then (sharing_coded m) (channel_named m.name)

-- which scales views share
unfoldable pub resolve_of : List Member → Resolve
resolve_of members = record { scale = option_map (filter_map sharing_in) (found_at members_in members (codes "scale")) }

-- The rules at work.

a_size_is_over_0 : size_in (level.Number (pos 0)) ≡ None
a_size_is_over_0 = refl

the_greatest_size : size_in (level.Number (pos 10000000000)) ≡ Some (size.Number (pos 10000000000))
the_greatest_size = refl

the_greatest_step : size_of_step (record { name = codes "step"; value = json.Number (pos 1000000000) } ∷ []) ≡ Some (size.Step (pos 1000000000))
unfolding out-Json denote.Hole.Carrier.out
the_greatest_step = refl

a_name_that_is_no_channel_shares_nothing : sharing_in (record { name = codes "radius"; value = json.Text (codes "shared") }) ≡ None
unfolding sharing_in
a_name_that_is_no_channel_shares_nothing = refl
