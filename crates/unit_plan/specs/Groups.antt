-- An encoding with an aggregate groups the rows by all its unaggregated fields, those of `detail` and of the facets round the unit included: of bins
-- and units of time by the start and the end. Each aggregate is an operation on the groups.
use Rattle.std.specs.Prelude.{ℕ, Bool, Option, Some, None, List, [], ◌∷◌, ◌++◌, flat_map, is_some, if◌then◌else◌}
use Rattle.std.specs.List.{list_any}
use Rattle.std.specs.Option.{option_map_or}
use Rattle.plain_rows.specs.declared.transforms.GroupOf.{GroupOf}
use Rattle.plain_rows.specs.declared.transforms.OpOf.{OpOf}
use Rattle.vl_spec.specs.declared.definitions.FieldDefinition.{FieldDefinition}
use Rattle.vl_compose.specs.Units.{UnitAt}
use Rattle.scale_infer.specs.Types.{is_aggregated}
use Rattle.plan_kit.specs.declared.steps.Step.{Step}
use Rattle.plan_kit.specs.declared.steps.Step.TheVariants as step
use Rattle.cell_names.specs.Names.{name_of, end_of_field}
use Rattle.unit_plan.specs.Shows.{ShownAt, shows_of, own_shows, field_in}

-- whether a unit aggregates its rows
abbrev pub aggregates : UnitAt → Bool
aggregates unit = list_any (λ (s : ShownAt). is_aggregated s.shows) (own_shows unit)

-- a name that may be absent, as a list
abbrev pub name_list : Option (List ℕ) → List (List ℕ)
name_list None = []
name_list (Some name) = name ∷ []

-- the names by which a definition groups rows
abbrev pub group_names_of : ℕ → FieldDefinition → List (List ℕ)
group_names_of channel d = if is_some d.aggregate then [] else name_list (name_of channel d) ++ name_list (end_of_field channel d)

abbrev pub grouped_by : ShownAt → List (List ℕ)
grouped_by s = option_map_or (group_names_of s.channel) (field_in s.shows) []

-- an operation on groups, where it has a name
abbrev pub op_of : ℕ → Option (List ℕ) → Option (List ℕ) → List OpOf
op_of op field None = []
op_of op field (Some name) = record { op = op; field = field; out = name } ∷ []

-- that of a definition with an aggregate
abbrev pub ops_of : ℕ → FieldDefinition → List OpOf
ops_of channel d = option_map_or (λ op. op_of op d.field (name_of channel d)) d.aggregate []

abbrev pub ops_in : ShownAt → List OpOf
ops_in s = option_map_or (ops_of s.channel) (field_in s.shows) []

-- the groups of a unit that aggregates its rows
abbrev pub groups_of : UnitAt → GroupOf
groups_of unit = record { groupby = flat_map grouped_by (shows_of unit); ops = flat_map ops_in (shows_of unit) }

-- the step that makes them
abbrev pub group_steps : UnitAt → List Step
group_steps unit = if aggregates unit then step.Group (groups_of unit) ∷ [] else []

-- all names by which a unit groups its rows; none where it doesn't aggregate them
abbrev pub group_names : UnitAt → Option (List (List ℕ))
group_names unit = if aggregates unit then Some (groups_of unit).groupby else None
