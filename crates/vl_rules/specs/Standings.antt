-- Which scales units share, and whether these have places for intervals.
use Rattle.std.specs.Prelude.{ℕ, ◌==◌, Bool, false, ◌||◌, ◌&&◌, Option, None, List, [], ◌∷◌, is_some, unwrap_or, if◌then◌else◌}
use Rattle.std.specs.Option.{option_and_then, option_map, option_map_or}
use Rattle.std.specs.List.{list_all}
use Rattle.vl_spec.specs.declared.sizes.Sharing.{Sharing}
use Rattle.vl_normalize.specs.Marks.{pointed}
use Rattle.vl_compose.specs.Definitions.{definitions_at}
use Rattle.vl_compose.specs.Rounds.{ViewAt}
use Rattle.vl_compose.specs.Sharing.{home_of, is_independent, sharing_said}
use Rattle.vl_compose.specs.Units.{last_view}
use Rattle.scale_infer.specs.Scales.{first_definition}
use Rattle.scale_infer.specs.Types.{is_continuous, type_of}
use Rattle.vl_rules.specs.declared.standings.Home.{Home}
use Rattle.vl_rules.specs.declared.standings.Standing.{Standing}
use Rattle.vl_rules.specs.Marked.{MarkedAt}
use Rattle.vl_rules.specs.Parts.{PartAt, has_facet, meant}

-- whether what a unit says of a scale itself counts: where its channels part its rows, since the facet then has it, and of a line with points, since the
-- layer of both has it
abbrev pub has_views : MarkedAt → Bool
has_views u = has_facet u || is_some (pointed u.mark)

-- what a unit itself says of a channel
abbrev pub said_at : ℕ → MarkedAt → Option Sharing
said_at code u = option_and_then (λ (v : ViewAt). sharing_said v.resolve code) (last_view u.round)

-- whether a unit keeps the scale of a channel for itself
abbrev pub keeps_apart : ℕ → MarkedAt → Bool
keeps_apart code u = has_views u && option_map_or is_independent (said_at code u) false

-- the number of the unit among all views
abbrev pub own_number : MarkedAt → ℕ
own_number u = option_map_or (λ (v : ViewAt). v.number) (last_view u.round) 0

-- the part of a unit that keeps a scale apart: where a facet does, a line and its points are one, and else not even they share it
abbrev pub own_part : PartAt → ℕ
own_part p = if has_facet p.unit then 0 else p.number

-- up to where a part shares the scale of a channel: up to a view, or, where its unit keeps it apart, within the unit
abbrev pub home_at : ℕ → PartAt → Home
home_at code p =
    if keeps_apart code p.unit then record { view = own_number p.unit; part = own_part p }
    else record { view = home_of p.unit.round code; part = 0 }

abbrev pub same_home : Home → Home → Bool
same_home a b = a.view == b.view && a.part == b.part

-- whether the first definition of a channel that has a scale shows cells on a line; none where no definition has one
abbrev pub opens_at : ℕ → PartAt → Option Bool
opens_at code p = option_map (λ d. is_continuous (type_of d)) (first_definition (definitions_at p.channels code))

abbrev pub standing_at : ℕ → PartAt → Standing
standing_at code p = record { home = home_at code p; opens = opens_at code p }

-- what the first definition of a scale says of a part that shares it
abbrev pub opens_for : Home → Standing → Option Bool
opens_for home s = if same_home home s.home then s.opens else None

-- Whether the cells of the scale that parts share up to here lie on a line: numbers or instants, by its first definition.
abbrev pub on_line : List Standing → Home → Bool
on_line [] home = false
on_line (s ∷ others) home = unwrap_or (opens_for home s) (on_line others home)

-- whether the own definitions of a channel show such cells
abbrev pub lies_on_line : ℕ → PartAt → Bool
lies_on_line code p = list_all (λ d. is_continuous (type_of d)) (meant code p)
