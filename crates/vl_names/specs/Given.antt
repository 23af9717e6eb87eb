-- The names that data and views give.
use Rattle.std.specs.Prelude.{◌≡◌, refl, ℕ, ◌||◌, Option, None, List, [], ◌∷◌, ◌++◌, codes, flat_map, map, if◌then◌else◌}
use Rattle.std.specs.Option.{option_map, option_map_or}
use Rattle.std.specs.List.{enumerate_from, filter_map}
use Rattle.json_exact.specs.declared.json.Json.{Json}
use Rattle.json_exact.specs.declared.json.Json.TheVariants as json
use Rattle.json_exact.specs.declared.json.Member.{Member}
use Rattle.tree_readers.specs.Parts.{has_member, members_of, needed_members}
use Rattle.vl_spec.specs.declared.transforms.Transform.{Transform}
use Rattle.vl_spec.specs.declared.transforms.Transform.TheVariants as transform
use Rattle.vl_trails.specs.Trails.{Trail, members_at, to_item, to_member}
use Rattle.vl_names.specs.declared.given.Given.{Given}
use Rattle.vl_names.specs.Views.{ViewIn}

-- a name, given at the end of a trail
abbrev pub given_as : List ℕ → Trail → Given
given_as name trail = record { name = name; trail = trail }

-- where data gives the name of its source: at its `name`, or where it has none, as it is `source_i` then, at itself
abbrev pub name_trail : Trail → List Member → Trail
name_trail trail members = if has_member members (codes "name") then to_member trail (codes "name") else trail

-- Data that has its rows itself gives the name of its source. Data that is a name alone gives none.
abbrev pub given_by_data : List ℕ → Trail → List Member → List Given
given_by_data name trail members =
    if has_member members (codes "values") || has_member members (codes "url") then given_as name (name_trail trail members) ∷ [] else []

-- the same of the data to which a trail leads in a tree, by the name of its source
abbrev pub given_at : Json → Trail → List ℕ → List Given
given_at tree trail name = option_map_or (given_by_data name trail) (members_at tree trail) []

-- data that may be absent
abbrev pub given_if : Json → Trail → Option (List ℕ) → List Given
given_if tree trail source = option_map_or (given_at tree trail) source []

-- the name of the source in which a transform looks up
abbrev pub looked_up : Transform → Option (List ℕ)
looked_up (transform.Lookup of) = of.from.data_
looked_up other = None

-- the data of a transform
abbrev pub given_by_transform : Json → Trail → ℕ × Transform → List Given
given_by_transform tree trail item =
    given_if tree (to_member (to_member (to_item trail item.0) (codes "from")) (codes "data")) (looked_up item.1)

-- the data of a view: its own, and that of its lookups
abbrev pub given_by_view : Json → ViewIn → List Given
given_by_view tree v =
    given_if tree (to_member v.trail (codes "data")) v.data_
    ++ flat_map (given_by_transform tree (to_member v.trail (codes "transform"))) (enumerate_from 0 v.transform)

-- a dataset gives its name
abbrev pub given_by_dataset : ℕ × Member → Given
given_by_dataset item = given_as item.1.name (to_item (to_member [] (codes "datasets")) item.0)

abbrev pub datasets_of : Json → List Member
datasets_of tree = needed_members (members_of tree) (codes "datasets")

-- the names of all data of a specification, and of its datasets
abbrev pub data_given : Json → List ViewIn → List Given
data_given tree views = map given_by_dataset (enumerate_from 0 (datasets_of tree)) ++ flat_map (given_by_view tree) views

-- the name of a view
abbrev pub name_given : ViewIn → Option Given
name_given v = option_map (λ name. given_as name (to_member v.trail (codes "name"))) v.name

-- the names of all views
abbrev pub views_given : List ViewIn → List Given
views_given views = filter_map name_given views

-- The rules at work.

-- members of these names, all null
nulls : List (List ℕ) → List Member
nulls names = map (λ name. record { name = name; value = json.Null }) names

a_name_alone_gives_none : given_by_data (codes "t") [] (nulls (codes "name" ∷ codes "format" ∷ [])) ≡ []
unfolding nulls
a_name_alone_gives_none = refl

a_name_is_given_where_it_stands :
    given_by_data (codes "t") [] (nulls (codes "url" ∷ codes "name" ∷ [])) ≡ given_as (codes "t") (to_member [] (codes "name")) ∷ []
unfolding nulls
a_name_is_given_where_it_stands = refl

unnamed_data_gives_one_at_itself : given_by_data (codes "source_0") [] (nulls (codes "values" ∷ [])) ≡ given_as (codes "source_0") [] ∷ []
unfolding nulls
unnamed_data_gives_one_at_itself = refl
