-- What the members of a view hold.
use Rattle.std.specs.Prelude.{ℕ, Option, List}
use Rattle.std.specs.Option.{option_map, option_and_then}
use Rattle.std.specs.List.{position_from}
use Rattle.std.specs.Str.{bytes_eq}
use Rattle.json_exact.specs.declared.json.Member.{Member}
use Rattle.vl_spec.specs.declared.views.View.{View}
use Rattle.vl_building.specs.Inside.{member_gives}
use Rattle.vl_building.specs.Views.{Naming, Place, AsView, child, as_view, inside_at, object_view}

-- what the members of a view hold
abbrev pub views_inside : Naming → List Member → Place → List ℕ → Option (View × List View)
views_inside naming members place = inside_at members (member_gives (as_view naming) members) place

-- the same where the members are counted from a number on
abbrev pub inside_from : Naming → ℕ → List Member → Place → List ℕ → Option (View × List View)
inside_from naming number members place name = option_and_then
    (λ k. option_map (λ (gives : AsView). gives (child place k)) (member_gives (as_view naming) members name))
    (position_from (λ (m : Member). bytes_eq m.name name) number members)

-- the view of these members
abbrev pub view_in : Naming → List Member → Place → View
view_in naming members place = object_view naming members (member_gives (as_view naming) members) place
