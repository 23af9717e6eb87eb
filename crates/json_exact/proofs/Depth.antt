-- How deep a list or an object is, by its items.
use Rattle.std.proofs.Common.{◌≡◌, ℕ, suc, max, List, [], ◌∷◌, refl, ap, ◌∙◌}
use Rattle.json_exact.specs.declared.json.Json.{Json, Row_of-Json, end_of-Json, more_of-Json, items-the_row-Json}
use Rattle.json_exact.specs.declared.json.Json.{items_hidden-the_row-Json-0, Row_of-Member, end_of-Member, more_of-Member}
use Rattle.json_exact.specs.declared.json.Json.{items-the_row-Member, items_hidden-the_row-Member-1}
use Rattle.json_exact.specs.declared.json.Json.TheBlock.{hidden-the_row-Json-0, hidden-the_row-Member-1}
use Rattle.json_exact.specs.declared.json.Json.TheVariants as json
use Rattle.json_exact.specs.declared.json.Member.{Member}
use Rattle.json_exact.specs.Reading.{depth, items_depth, members_depth}

-- the greatest depth of the items
abbrev pub deepest : List Json → ℕ
deepest [] = 0
deepest (item ∷ items) = max (depth item) (deepest items)

abbrev pub deepest_value : List Member → ℕ
deepest_value [] = 0
deepest_value (m ∷ members) = max (depth m.value) (deepest_value members)

row-is : (n : _) (row : Row_of-Json n) → items_depth row ≡ deepest (items-the_row-Json n row)
row-is n end_of-Json = refl
row-is n (more_of-Json item others) = ap (max (depth item)) (row-is _ others)

member_row-is : (n : _) (row : Row_of-Member n) → members_depth row ≡ deepest_value (items-the_row-Member n row)
member_row-is n end_of-Member = refl
member_row-is n (more_of-Member name value others) = ap (max (depth value)) (member_row-is _ others)

pub depth-List : (items : List Json) → depth (json.List items) ≡ suc (deepest items)
depth-List items = ap suc (row-is _ (hidden-the_row-Json-0 items) ∙ ap deepest (items_hidden-the_row-Json-0 items))

pub depth-Object : (members : List Member) → depth (json.Object members) ≡ suc (deepest_value members)
depth-Object members = ap suc (member_row-is _ (hidden-the_row-Member-1 members) ∙ ap deepest_value (items_hidden-the_row-Member-1 members))
