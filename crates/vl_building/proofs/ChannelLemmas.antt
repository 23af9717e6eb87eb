-- Conditions that are objects, and lists of conditions.
use Rattle.std.proofs.Common.{◌≡◌, List, [], map, sym, ap, ◌∙◌}
use Rattle.std.specs.Prelude.{Some}
use Rattle.json_exact.specs.declared.json.Json.{Json}
use Rattle.json_exact.specs.declared.json.Json.TheVariants as json
use Rattle.json_exact.specs.declared.json.Member.{Member}
use Rattle.std.proofs.lemmas.Simd.{map-map}
use Rattle.vl_spec.specs.declared.channels.Conditions.TheVariants as conditions
use Rattle.tree_readers.specs.Parts.{members_of}
use Rattle.vl_building.specs.Inside.{no_members, member_gives}
use Rattle.vl_building.specs.Channels.{AsCondition, as_condition, as_condition_with, condition_with, conditions_in, condition_of, conditions_of}
use Rattle.vl_building.proofs.Inside.{object_opened, object_members, list_opened, at_object, at_list}

of_object : (members : List Member) → condition_of (json.Object members) ≡ condition_with members (member_gives as_condition members)
of_object members = ap (λ (c : AsCondition). c.0) (at_object as_condition_with members)
    ∙ ap (λ ms. condition_with ms (member_gives as_condition members)) (object_members members)

pub object_is : (tree : Json) (members slice : List Member) → tree ≡ json.Object members → slice ≡ members →
    condition_with slice (member_gives as_condition slice) ≡ condition_of tree
object_is tree members slice is same =
    ap (λ ms. condition_with ms (member_gives as_condition ms)) same ∙ sym (of_object members) ∙ ap condition_of (sym is)

one_of_object : (members : List Member) →
    conditions_of (json.Object members) ≡ Some (conditions.One (condition_with members (member_gives as_condition members)))
one_of_object members = ap (λ (c : AsCondition). c.1) (at_object as_condition_with members)
    ∙ ap (λ o. conditions_in o (condition_with (members_of (json.Object members)) (member_gives as_condition members)) []) (object_opened members)
    ∙ ap (λ ms. Some (conditions.One (condition_with ms (member_gives as_condition members)))) (object_members members)

pub one_is : (tree : Json) (members slice : List Member) → tree ≡ json.Object members → slice ≡ members →
    Some (conditions.One (condition_with slice (member_gives as_condition slice))) ≡ conditions_of tree
one_is tree members slice is same =
    ap (λ ms. Some (conditions.One (condition_with ms (member_gives as_condition ms)))) same ∙ sym (one_of_object members)
    ∙ ap conditions_of (sym is)

of_list : (items : List Json) → conditions_of (json.List items) ≡ Some (conditions.Several (map condition_of items))
of_list items = ap (λ (c : AsCondition). c.1) (at_list as_condition_with items)
    ∙ ap (λ o. conditions_in o (condition_with (members_of (json.List items)) no_members) (map as_condition items)) (list_opened items)
    ∙ ap (λ cs. Some (conditions.Several cs)) (map-map (λ (c : AsCondition). c.0) as_condition items)

pub list_is : (tree : Json) (items slice : List Json) → tree ≡ json.List items → slice ≡ items →
    Some (conditions.Several (map condition_of slice)) ≡ conditions_of tree
list_is tree items slice is same =
    ap (λ (xs : List Json). Some (conditions.Several (map condition_of xs))) same ∙ sym (of_list items) ∙ ap conditions_of (sym is)
