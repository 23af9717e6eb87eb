-- Filters that are objects, and lists of filters.
use Rattle.std.proofs.Common.{◌≡◌, List, map, sym, ap, ◌∙◌}
use Rattle.json_exact.specs.declared.json.Json.{Json}
use Rattle.json_exact.specs.declared.json.Json.TheVariants as json
use Rattle.json_exact.specs.declared.json.Member.{Member}
use Rattle.std.proofs.lemmas.Simd.{map-map}
use Rattle.vl_building.specs.Inside.{member_gives}
use Rattle.vl_building.specs.Filters.{AsFilter, as_filter, as_filter_with, filter_in, object_filter, filter_of, filters_of}
use Rattle.vl_building.proofs.Inside.{object_opened, at_object, at_list}

of_object : (members : List Member) → filter_of (json.Object members) ≡ object_filter members (member_gives as_filter members)
of_object members = ap (λ (f : AsFilter). f.0) (at_object as_filter_with members)
    ∙ ap (λ o. filter_in o (member_gives as_filter members)) (object_opened members)

pub object_is : (tree : Json) (members slice : List Member) → tree ≡ json.Object members → slice ≡ members →
    object_filter slice (member_gives as_filter slice) ≡ filter_of tree
object_is tree members slice is same =
    ap (λ ms. object_filter ms (member_gives as_filter ms)) same ∙ sym (of_object members) ∙ ap filter_of (sym is)

of_list : (items : List Json) → filters_of (json.List items) ≡ map filter_of items
of_list items = ap (λ (f : AsFilter). f.1) (at_list as_filter_with items) ∙ map-map (λ (f : AsFilter). f.0) as_filter items

pub list_is : (tree : Json) (items slice : List Json) → tree ≡ json.List items → slice ≡ items → map filter_of slice ≡ filters_of tree
list_is tree items slice is same = ap (map filter_of) same ∙ sym (of_list items) ∙ ap filters_of (sym is)
