-- The marks inside a mark: what the rows of a tree give is what its lists of items and members give.
use Rattle.std.proofs.Common.{◌≡◌, List, [], ◌∷◌, map, refl, sym, ap, ◌∙◌}
use Rattle.std.specs.Prelude.{Option, Some, Bool, true, false, if◌then◌else◌, codes}
use Rattle.std.specs.Option.{option_map, option_and_then, unwrap_or}
use Rattle.std.specs.Str.{bytes_eq}
use Rattle.json_exact.specs.declared.json.Json.{Json, out-Json, out-roll-Json, Row_of-Json, end_of-Json, more_of-Json, items-the_row-Json}
use Rattle.json_exact.specs.declared.json.Json.{items_hidden-the_row-Json-0, Row_of-Member, end_of-Member, more_of-Member}
use Rattle.json_exact.specs.declared.json.Json.{items-the_row-Member, items_hidden-the_row-Member-1}
use Rattle.json_exact.specs.declared.json.Json.TheBlock.{hidden-the_row-Json-0, hidden-the_row-Member-1}
use Rattle.json_exact.specs.declared.json.Json.TheVariants as json
use Rattle.json_exact.specs.declared.json.Json.TheVariants.{rolls-Object}
use Rattle.json_exact.specs.declared.json.Json.TheOpen as level
use Rattle.json_exact.specs.declared.json.Member.{Member}
use Rattle.json_exact.specs.Inside.{members_in}
use Rattle.vega_spec.specs.declared.spec.VgMark.{VgMark}
use Rattle.tree_readers.specs.Parts.{members_of}
use Rattle.vega_building.specs.Spec.{mark_with, mark_of, marks_in, mark_items, marks_among, marks_at}

-- the marks of a list
items-are : (n : _) (row : Row_of-Json n) → mark_items row ≡ map mark_of (items-the_row-Json n row)
items-are n end_of-Json = refl
items-are n (more_of-Json item others) = ap (λ (marks : List VgMark). mark_of item ∷ marks) (items-are _ others)

pub marks_in-List : (items : List Json) → marks_in (json.List items) ≡ Some (map mark_of items)
marks_in-List items = ap (λ (marks : List VgMark). Some marks)
    (items-are _ (hidden-the_row-Json-0 items) ∙ ap (map mark_of) (items_hidden-the_row-Json-0 items))

-- a member, or else the others
one_more : (b : Bool) (value : Json) (here : Member) (found : Option Member) (others : Option (List VgMark)) → here.value ≡ value →
    others ≡ option_and_then marks_in (option_map (λ (m : Member). m.value) found) →
    (if b then marks_in value else others) ≡ option_and_then marks_in (option_map (λ (m : Member). m.value) (if b then Some here else found))
one_more true value here found others same is = ap marks_in (sym same)
one_more false value here found others same is = is

-- the marks under a name
among-are : (n : _) (row : Row_of-Member n) → marks_among row ≡ marks_at (items-the_row-Member n row) (codes "marks")
among-are n end_of-Member = refl
among-are n (more_of-Member name value others) = one_more (bytes_eq name (codes "marks")) value _ _ _ refl (among-are _ others)

pub mark_of-Object : (members : List Member) → mark_of (json.Object members) ≡ mark_with members (marks_at members (codes "marks"))
mark_of-Object members =
    let inside : members_of (json.Object members) ≡ members =
    ap (λ t. unwrap_or (members_in t) []) (ap out-Json (sym (rolls-Object members)) ∙ out-roll-Json (level.Object members)) in
    ap (λ ms. mark_with ms (marks_among (hidden-the_row-Member-1 members))) inside
    ∙ ap (mark_with members) (among-are _ (hidden-the_row-Member-1 members) ∙ ap (λ ms. marks_at ms (codes "marks")) (items_hidden-the_row-Member-1 members))

-- what an object is, and a list
pub object_is : (tree : Json) (members slice : List Member) → tree ≡ json.Object members → slice ≡ members →
    mark_with slice (marks_at slice (codes "marks")) ≡ mark_of tree
object_is tree members slice is same =
    ap (λ ms. mark_with ms (marks_at ms (codes "marks"))) same ∙ sym (mark_of-Object members) ∙ ap mark_of (sym is)

pub list_is : (tree : Json) (items : List Json) (marks : List VgMark) → tree ≡ json.List items → marks ≡ map mark_of items →
    Some marks ≡ marks_in tree
list_is tree items marks is same = ap (λ (ms : List VgMark). Some ms) same ∙ sym (marks_in-List items) ∙ ap marks_in (sym is)
