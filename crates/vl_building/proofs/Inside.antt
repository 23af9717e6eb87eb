-- What a list and an object give: what the rows of a tree give is what its lists of items and members give.
use Rattle.std.proofs.Common.{◌≡◌, ℕ, List, [], ◌∷◌, map, refl, sym, ap, ◌∙◌}
use Rattle.std.specs.Prelude.{Option, Some, Bool, true, false, if◌then◌else◌}
use Rattle.std.specs.Option.{option_map, unwrap_or}
use Rattle.std.specs.Str.{bytes_eq}
use Rattle.json_exact.specs.declared.json.Json.{Json, out-Json, out-roll-Json, Row_of-Json, end_of-Json, more_of-Json, items-the_row-Json}
use Rattle.json_exact.specs.declared.json.Json.{items_hidden-the_row-Json-0, Row_of-Member, end_of-Member, more_of-Member, items-the_row-Member}
use Rattle.json_exact.specs.declared.json.Json.{items_hidden-the_row-Member-1}
use Rattle.json_exact.specs.declared.json.Json.TheBlock.{hidden-the_row-Json-0, hidden-the_row-Member-1}
use Rattle.json_exact.specs.declared.json.Json.TheVariants as json
use Rattle.json_exact.specs.declared.json.Json.TheVariants.{rolls-Object, rolls-List}
use Rattle.json_exact.specs.declared.json.Json.TheOpen as level
use Rattle.json_exact.specs.declared.json.Member.{Member}
use Rattle.json_exact.specs.declared.json.Json.{Null, Flag, Number, Huge, Text, List', Object'}
use Rattle.json_exact.specs.declared.json.Json.{items_shown-the_row-Json-0, items_shown-the_row-Member-1}
use Rattle.json_exact.specs.declared.json.Json.TheVariants.{outs-Null, outs-Flag, outs-Number, outs-Huge, outs-Text, outs-List', outs-Object'}
use Rattle.json_exact.specs.Inside.{members_in, items_in}
use Rattle.tree_readers.specs.Parts.{Opened, members_of}
use Rattle.vl_building.specs.Gather.{items_of}
use Rattle.vl_building.specs.Inside.{Giving, no_members, given_by, given_by_items, given_by_member, member_gives}

-- an object and a list, opened
pub object_opened : (members : List Member) → out-Json (json.Object members) ≡ level.Object members
object_opened members = ap out-Json (sym (rolls-Object members)) ∙ out-roll-Json (level.Object members)

pub list_opened : (items : List Json) → out-Json (json.List items) ≡ level.List items
list_opened items = ap out-Json (sym (rolls-List items)) ∙ out-roll-Json (level.List items)

pub object_members : (members : List Member) → members_of (json.Object members) ≡ members
object_members members = ap (λ (t : Opened). unwrap_or (members_in t) []) (object_opened members)

-- the items of a list
items-are : {A : Type 0} (gives : Giving A) (n : _) (row : Row_of-Json n) →
    given_by_items gives row ≡ map (given_by gives) (items-the_row-Json n row)
items-are gives n end_of-Json = refl
items-are gives n (more_of-Json item others) = ap (λ xs. given_by gives item ∷ xs) (items-are gives _ others)

pub at_list : {A : Type 0} (gives : Giving A) (items : List Json) →
    given_by gives (json.List items) ≡ gives (json.List items) no_members (map (given_by gives) items)
at_list gives items =
    ap (gives (json.List items) no_members) (items-are gives _ (hidden-the_row-Json-0 items)
    ∙ ap (map (given_by gives)) (items_hidden-the_row-Json-0 items))

-- a member, or else the others
one_more : {A : Type 0} (f : Json → A) (b : Bool) (value : Json) (here : Member) (found : Option Member) (others : Option A) → here.value ≡ value →
    others ≡ option_map f (option_map (λ (m : Member). m.value) found) →
    (if b then Some (f value) else others) ≡ option_map f (option_map (λ (m : Member). m.value) (if b then Some here else found))
one_more f true value here found others same is = ap (λ v. Some (f v)) (sym same)
one_more f false value here found others same is = is

-- the first member of a name
members-are : {A : Type 0} (gives : Giving A) (n : _) (row : Row_of-Member n) (asked : List ℕ) →
    given_by_member gives row asked ≡ member_gives (given_by gives) (items-the_row-Member n row) asked
members-are gives n end_of-Member asked = refl
members-are gives n (more_of-Member name value others) asked =
    one_more (given_by gives) (bytes_eq name asked) value _ _ _ refl (members-are gives _ others asked)

each : {A : Type 0} (gives : Giving A) (members : List Member) (asked : List ℕ) →
    given_by_member gives (hidden-the_row-Member-1 members) asked ≡ member_gives (given_by gives) members asked
each gives members asked = members-are gives _ (hidden-the_row-Member-1 members) asked
    ∙ ap (λ ms. member_gives (given_by gives) ms asked) (items_hidden-the_row-Member-1 members)

pub at_object : {A : Type 0} (gives : Giving A) (members : List Member) →
    given_by gives (json.Object members) ≡ gives (json.Object members) (member_gives (given_by gives) members) []
at_object gives members = ap (λ inside. gives (json.Object members) inside []) (λ i asked. each gives members asked i)

-- a value by the members and the items in it, none where it is no object or no list
at_level : {A : Type 0} → Giving A → Json → Opened → A
at_level gives tree t = gives tree (member_gives (given_by gives) (unwrap_or (members_in t) [])) (map (given_by gives) (unwrap_or (items_in t) []))

pub by_parts : {A : Type 0} (gives : Giving A) (tree : Json) →
    gives tree (member_gives (given_by gives) (members_of tree)) (map (given_by gives) (items_of tree)) ≡ given_by gives tree
unfolding at_level
by_parts gives Null = ap (at_level gives Null) outs-Null
by_parts gives (Flag b) = ap (at_level gives (Flag b)) (outs-Flag b)
by_parts gives (Number n) = ap (at_level gives (Number n)) (outs-Number n)
by_parts gives Huge = ap (at_level gives Huge) outs-Huge
by_parts gives (Text t) = ap (at_level gives (Text t)) (outs-Text t)
by_parts gives (List' n row) = ap (at_level gives (List' n row)) (outs-List' n row)
    ∙ ap (λ xs. gives (List' n row) no_members (map (given_by gives) xs)) (items_shown-the_row-Json-0 n row)
    ∙ ap (gives (List' n row) no_members) (sym (items-are gives _ row))
by_parts gives (Object' n row) = ap (at_level gives (Object' n row)) (outs-Object' n row)
    ∙ ap (λ ms. gives (Object' n row) (member_gives (given_by gives) ms) []) (items_shown-the_row-Member-1 n row)
    ∙ ap (λ inside. gives (Object' n row) inside []) (λ i asked. sym (members-are gives _ row asked) i)
