-- The parts of facets, and the members of groups.
use Rattle.std.proofs.Common.{◌≡◌, ℕ, ◌+◌, List, [], ◌∷◌, ◌++◌, find, cond, refl, sym, ap, subst, ◌∙◌}
use Rattle.std.specs.Prelude.{Option, Some, None, Bool, true, false, not, ◌==◌, ◌&&◌, ◌||◌, codes, bytes_eq, IfSome}
use Rattle.std.specs.Option.{option_map, option_map_or, is_some}
use Rattle.std.specs.List.{enumerate_from, list_all}
use Rattle.json_exact.specs.declared.json.Json.{Json, out-Json}
use Rattle.json_exact.specs.declared.json.Json.TheOpen as level
use Rattle.json_exact.specs.declared.json.Member.{Member}
use Rattle.json_exact.specs.Inside.{text_in}
use Rattle.json_exact.specs.Path.{member_value}
use Rattle.spec_schema.specs.declared.form.Form.{Form}
use Rattle.spec_schema.specs.declared.form.Form.TheVariants as form
use Rattle.spec_schema.specs.declared.layout.Layout.{Layout}
use Rattle.spec_schema.specs.declared.layout.Rule.{Rule}
use Rattle.spec_schema.specs.Values.{Opened, object_passes}
use Rattle.spec_schema.specs.Layouts.{shape_in, layout_in, has_name}
use Rattle.spec_schema.specs.Forms.{taken_form}
use Rattle.spec_walk.specs.Walk.{seen_in, member_parts}
use Rattle.vega_schema.specs.declared.codes.TheConstants.{FACET, GROUP_FROM}
use Rattle.vega_schema.specs.Schema.{vega_schema}
use Rattle.vega_schema.specs.Shapes.{leaves, named as named_shapes, lists, objects}
use Rattle.vega_schema.specs.Guides.{group_mark, axis, legend, grid_layout, top}
use Rattle.vega_schema.specs.Sources.{data_set, data_format, parse, sort, extent_signal}
use Rattle.vega_schema.specs.Transforms.{filter, formula, extent, bin, time_unit, stack, fold}
use Rattle.vega_schema.specs.Groupings.{aggregate, join_aggregate, window, lookup, no_transform}
use Rattle.vega_schema.specs.Signals.{signal, on_event, expression_signal}
use Rattle.vega_schema.specs.Scales.{linear_scale, time_scale, band_scale, point_scale, ordinal_scale, no_scale}
use Rattle.vega_schema.specs.Domains.{domain_of_signal, domain_of_field, domain_of_fields, reference, sort_by_operation, sort_by_cells}
use Rattle.vega_schema.specs.PlainMarks.{rect_mark, symbol_mark, line_mark, area_mark, rule_mark, text_mark}
use Rattle.vega_schema.specs.Marks.{mark_from, group_from, facet, cross, encode, no_mark}
use Rattle.vega_schema.specs.Channels.{channel_members, value, words_value}
use Rattle.vega_schema.specs.Sizes.{size_signal, group_encode, group_channels, size_value}
use Rattle.vega_parts.specs.declared.part.Part.{Part}
use Rattle.vega_parts.specs.declared.part.Used.TheVariants as for_
use Rattle.vega_parts.specs.Trails.{Trail, Place, noted, place_of, child, grandchild, object_round}
use Rattle.vega_parts.specs.Members.{member_at, items_at, has_member}
use Rattle.vega_parts.specs.Facets.{group_of, facet_name, facet_item, facet_names_in, facet_names, facet_rows_in, facet_rows, header}
use Rattle.vega_parts.specs.Facets.{headers_in, headers, facet_faults, facet_names_and_rows, facet_parts}
use Rattle.vega_parts.specs.Lengths.{apart, other_length}
use Rattle.vega_parts.specs.Parts.{parts_at}
use Rattle.vega_standing.proofs.Trees.{Each}
use Rattle.vega_standing.proofs.Stands.{EachFrom, Stands, StandsMember, formed, parts_in, parts_of_members}
use Rattle.vega_standing.proofs.Shapes.{if_taken, form_taken}
use Rattle.vega_standing.proofs.Members.{Laid, laid_out, opened_as}
use Rattle.vega_standing.proofs.Transforms.{member_is}
use Rattle.vega_standing.proofs.Quiet.{IsQuiet, AreQuiet, each_append, each_flat, some_quiet, both_quiet, quiet_items, quiet_apart, quiet_lengths, quiet_shape}
use Rattle.vega_standing.proofs.Dull.{is_dull, dull_parts, found_passes, same_code}
use Rattle.vega_standing.proofs.Known.{concern, quiet_holds}
use Rattle.vega_standing.proofs.Sets.{ruled_as}

-- what holds of the group of a facet holds of all that the facet's own parts concern
module _ (P : List ℕ → Type 0) (trail : Trail) (holds_group : P (place_of (group_of trail))) where
  abbrev Concerns : Part → Type 0
  Concerns p = IfSome (concern p) P

  some_each : {A : Type 0} (f : A → List Part) → ((x : A) → Each Concerns (f x)) → (o : Option A) → Each Concerns (option_map_or f o [])
  some_each f each None = tt
  some_each f each (Some x) = each x

  name_each : (place : Place) (name : List ℕ) → Each Concerns (facet_name trail place name)
  name_each place name = (holds_group, (tt, tt))

  item_each : (number : ℕ) (item : ℕ × Json) → Each Concerns (facet_item trail number item)
  item_each number item = some_each (λ (name : List ℕ). facet_name trail (grandchild trail number item.0) name)
      (λ name. name_each (grandchild trail number item.0) name) (text_in (out-Json item.1))

  names_each : (number : ℕ) (o : Opened) → Each Concerns (facet_names_in trail number o)
  names_each number level.Null = tt
  names_each number (level.Flag b) = tt
  names_each number (level.Number n) = tt
  names_each number level.Huge = tt
  names_each number (level.Text t) = name_each (child trail number) t
  names_each number (level.List items) = each_flat Concerns (facet_item trail number) (item_each number) (enumerate_from 0 items)
  names_each number (level.Object members) = tt

  rows_quiet : (number : ℕ) (o : Opened) → AreQuiet (facet_rows_in trail number o)
  rows_quiet number level.Null = tt
  rows_quiet number (level.Flag b) = tt
  rows_quiet number (level.Number n) = tt
  rows_quiet number level.Huge = tt
  rows_quiet number (level.Text t) = (refl, tt)
  rows_quiet number (level.List items) = quiet_items for_.FacetRows refl (object_round (group_of trail)) trail number items
  rows_quiet number (level.Object members) = tt

  header_quiet : (number : ℕ) (item : ℕ × Json) → AreQuiet (header trail number item)
  header_quiet number item = some_quiet _ (λ (name : List ℕ). (refl, tt)) (text_in (out-Json item.1))

  headers_quiet : (tree : Json) → AreQuiet (headers trail tree)
  headers_quiet tree = some_quiet (λ (m : ℕ × List Json). headers_in trail m.0 m.1)
      (λ m. each_flat IsQuiet (header trail m.0) (header_quiet m.0) (enumerate_from 0 m.1)) (items_at (codes "headers") tree)

  pub facet_each : (tree : Json) → Each Concerns (facet_parts trail tree)
  facet_each tree =
      each_append Concerns (facet_names_and_rows trail tree ++ headers trail tree) (facet_faults trail tree)
      (each_append Concerns (facet_names_and_rows trail tree) (headers trail tree)
      (each_append Concerns (facet_names trail tree) (facet_rows trail tree)
      (some_each (λ (m : ℕ × Json). facet_names_in trail m.0 (out-Json m.1)) (λ m. names_each m.0 (out-Json m.1)) (member_at (codes "name") tree))
      (quiet_holds P (facet_rows trail tree)
      (some_quiet (λ (m : ℕ × Json). facet_rows_in trail m.0 (out-Json m.1)) (λ m. rows_quiet m.0 (out-Json m.1)) (member_at (codes "data") tree))))
      (quiet_holds P (headers trail tree) (headers_quiet tree)))
      (quiet_holds P (facet_faults trail tree)
      (both_quiet (apart (codes "name") (codes "data") trail tree) (other_length (codes "headers") (codes "groupby") trail tree)
      (quiet_apart (codes "name") (codes "data") trail tree) (quiet_lengths (codes "headers") (codes "groupby") trail tree)))

-- ---- values by the members

-- what the parts of each member keep, all keep
pub members_each : (P : Part → Type 0) (trail : Trail) (l : Layout) (n : ℕ) (ms : List Member) → EachFrom (StandsMember trail l) n ms →
    ((i : ℕ) (m : Member) (shape : ℕ) → shape_in l m.name ≡ Some shape → Stands trail i shape m.value → Each P (parts_in trail i shape m.value)) →
    Each P (parts_of_members trail l n ms)
members_each P trail l n [] each f = tt
members_each P trail l n (m ∷ ms) each f =
    each_append P (member_parts l trail (n, (m.name, seen_in vega_schema noted parts_at m.value))) (parts_of_members trail l (n + 1) ms)
    (subst (λ o. Each P (option_map_or (λ shape. parts_in trail n shape m.value) o [])) (sym each.0.1) (f n m each.0.0 each.0.1 each.0.2))
    (members_each P trail l (n + 1) ms each.1 f)

abbrev object_taken : ℕ → Type 0
object_taken shape = (o : Opened) (f : Form) → taken_form vega_schema shape o ≡ Some f →
    (object_passes (λ members. is_some (layout_in vega_schema shape members)) o ≡ true) × (form.Object shape ≡ f)

facet_taken : object_taken FACET
unfolding vega_schema leaves named_shapes lists objects
facet_taken o f e = (
  if_taken (object_passes (λ members. is_some (layout_in vega_schema FACET members)) o) _ f e,
  form_taken (object_passes (λ members. is_some (layout_in vega_schema FACET members)) o) _ f e,
)

from_taken : object_taken GROUP_FROM
unfolding vega_schema leaves named_shapes lists objects
from_taken o f e = (
  if_taken (object_passes (λ members. is_some (layout_in vega_schema GROUP_FROM members)) o) _ f e,
  form_taken (object_passes (λ members. is_some (layout_in vega_schema GROUP_FROM members)) o) _ f e,
)

facet_layout : (ms : List Member) → layout_in vega_schema FACET ms ≡ Some facet
unfolding vega_schema group_mark axis legend grid_layout top data_set data_format parse sort extent_signal
    filter formula extent bin time_unit stack fold aggregate join_aggregate window lookup no_transform signal on_event expression_signal
    linear_scale time_scale band_scale point_scale ordinal_scale no_scale domain_of_signal domain_of_field domain_of_fields reference
    sort_by_operation sort_by_cells rect_mark symbol_mark line_mark area_mark rule_mark text_mark mark_from group_from facet cross
    encode no_mark channel_members value words_value size_signal group_encode group_channels size_value
facet_layout ms = refl

from_by : (a b : Bool) (l : Layout) → cond (a && b) (Some group_from) None ≡ Some l → (a ≡ true) × (group_from ≡ l)
from_by true true l e = (refl, cc)
from_by true false l e = absurd cc
from_by false b l e = absurd cc

-- the rows of a group come from a facet
from_layout : (ms : List Member) (l : Layout) → layout_in vega_schema GROUP_FROM ms ≡ Some l → (has_name ms (codes "facet") ≡ true) × (group_from ≡ l)
unfolding vega_schema group_mark axis legend grid_layout top data_set data_format parse sort extent_signal
    filter formula extent bin time_unit stack fold aggregate join_aggregate window lookup no_transform signal on_event expression_signal
    linear_scale time_scale band_scale point_scale ordinal_scale no_scale domain_of_signal domain_of_field domain_of_fields reference
    sort_by_operation sort_by_cells rect_mark symbol_mark line_mark area_mark rule_mark text_mark mark_from group_from facet cross
    encode no_mark channel_members value words_value size_signal group_encode group_channels size_value
from_layout ms l e = from_by (has_name ms (codes "facet")) (not (has_name ms (codes "data")) && true) l e

facet_dull : list_all (λ (r : Rule). is_dull r.shape) facet.rules ≡ true
unfolding facet
facet_dull = refl

facet_alone : facet.others ≡ None
unfolding facet
facet_alone = refl

abbrev from_rule : Rule → Bool
from_rule r = is_dull r.shape || r.shape == FACET

from_dull : list_all from_rule group_from.rules ≡ true
unfolding group_from
from_dull = refl

from_alone : group_from.others ≡ None
unfolding group_from
from_alone = refl

-- what holds of the group, holds of all that its facet concerns
pub facet_concerns : (P : List ℕ → Type 0) (round : Trail) (number : ℕ) (tree : Json) →
    Stands round number FACET tree → P (place_of (group_of (noted number FACET tree ∷ round))) →
    Each (λ p. IfSome (concern p) P) (parts_in round number FACET tree)
facet_concerns P round number tree s p =
    let form = formed FACET tree s.fine in
    let ms : (ms : List Member) × (out-Json tree ≡ level.Object ms) = opened_as FACET (out-Json tree) (facet_taken (out-Json tree) form.0 form.1).0 in
    let l : Laid round number FACET FACET tree ms.0 = laid_out round number FACET FACET tree ms.0 s ms.1 (λ f e. facet_taken (level.Object ms.0) f e) in
    let is : l.layout ≡ facet = let a = l.applies in let b = facet_layout ms.0 in cc in
    subst (Each (λ p. IfSome (concern p) P)) (sym l.parts)
    (each_append (λ p. IfSome (concern p) P) (parts_at (noted number FACET tree ∷ round) tree)
    (parts_of_members (noted number FACET tree ∷ round) l.layout 0 ms.0)
    (facet_each P (noted number FACET tree ∷ round) p tree)
    (members_each (λ p. IfSome (concern p) P) (noted number FACET tree ∷ round) l.layout 0 ms.0 l.stands.each
    (λ i m shape ruled st. quiet_holds P (parts_in (noted number FACET tree ∷ round) i shape m.value)
    (dull_parts (noted number FACET tree ∷ round) i shape m.value
    (ruled_as facet.rules facet.others m.name shape (λ i. is_dull i ≡ true) facet_alone
    (λ r found. (found_passes (λ (r : Rule). bytes_eq r.name m.name) (λ (r : Rule). is_dull r.shape) facet.rules r found facet_dull).1)
    (ap (λ x. shape_in x m.name) (sym is) ∙ ruled))))))

or_other : (a b : Bool) → (a || b) ≡ true → a ≡ false → b ≡ true
or_other true b e f = absurd cc
or_other false b e f = e

-- a name that some member has leads to a value, and one that none has doesn't
pub has_value : (ms : List Member) (name : List ℕ) → has_name ms name ≡ true → is_some (member_value ms name) ≡ true
has_value [] name e = absurd cc
has_value (m ∷ ms) name e = by_name (bytes_eq m.name name) e (has_value ms name)
  where
    by_name : (b : Bool) → (b || has_name ms name) ≡ true → (has_name ms name ≡ true → is_some (member_value ms name) ≡ true) →
        is_some (option_map (λ (m : Member). m.value) (cond b (Some m) (find (λ (m : Member). bytes_eq m.name name) ms))) ≡ true
    by_name true f rest = refl
    by_name false f rest = rest f

pub no_value : (ms : List Member) (name : List ℕ) → member_value ms name ≡ None → has_name ms name ≡ false
no_value ms name e = by_test (has_name ms name) refl
  where
    by_test : (b : Bool) → has_name ms name ≡ b → b ≡ false
    by_test false f = refl
    by_test true f = let g : is_some (member_value ms name) ≡ true = has_value ms name f in
        absurd (let h : is_some (member_value ms name) ≡ false = ap is_some e in cc)

-- what holds of the group, holds of all that its `from` concerns
pub from_concerns : (P : List ℕ → Type 0) (round : Trail) (number : ℕ) (tree : Json) → Stands round number GROUP_FROM tree → P (place_of round) →
    Each (λ p. IfSome (concern p) P) (parts_in round number GROUP_FROM tree)
from_concerns P round number tree s p =
    let form = formed GROUP_FROM tree s.fine in
    let ms : (ms : List Member) × (out-Json tree ≡ level.Object ms) = opened_as GROUP_FROM (out-Json tree) (from_taken (out-Json tree) form.0 form.1).0 in
    let l : Laid round number GROUP_FROM GROUP_FROM tree ms.0 =
    laid_out round number GROUP_FROM GROUP_FROM tree ms.0 s ms.1 (λ f e. from_taken (level.Object ms.0) f e) in
    let is : group_from ≡ l.layout = (from_layout ms.0 l.layout l.applies).1 in
    subst (Each (λ p. IfSome (concern p) P)) (sym l.parts)
    (each_append (λ p. IfSome (concern p) P) (parts_at (noted number GROUP_FROM tree ∷ round) tree)
    (parts_of_members (noted number GROUP_FROM tree ∷ round) l.layout 0 ms.0)
    (quiet_holds P (parts_at (noted number GROUP_FROM tree ∷ round) tree) (quiet_shape GROUP_FROM refl refl refl (noted number GROUP_FROM tree ∷ round) tree))
    (members_each (λ p. IfSome (concern p) P) (noted number GROUP_FROM tree ∷ round) l.layout 0 ms.0 l.stands.each
    (λ i m shape ruled st. by_rule i m shape st (is_dull shape) refl
    (ruled_as group_from.rules group_from.others m.name shape (λ i. (is_dull i || i == FACET) ≡ true) from_alone
    (λ r found. (found_passes (λ (r : Rule). bytes_eq r.name m.name) from_rule group_from.rules r found from_dull).1)
    (ap (λ x. shape_in x m.name) is ∙ ruled)))))
  where
    of_facet : (shape : ℕ) (b : Bool) → is_dull shape ≡ b → b ≡ false → (is_dull shape || shape == FACET) ≡ true → shape ≡ FACET
    of_facet shape b e f either = same_code shape FACET (or_other (is_dull shape) (shape == FACET) either (e ∙ f))

    by_rule : (i : ℕ) (m : Member) (shape : ℕ) → Stands (noted number GROUP_FROM tree ∷ round) i shape m.value →
        (b : Bool) → is_dull shape ≡ b → (is_dull shape || shape == FACET) ≡ true →
        Each (λ p. IfSome (concern p) P) (parts_in (noted number GROUP_FROM tree ∷ round) i shape m.value)
    by_rule i m shape st true e either = quiet_holds P (parts_in (noted number GROUP_FROM tree ∷ round) i shape m.value)
        (dull_parts (noted number GROUP_FROM tree ∷ round) i shape m.value e)
    by_rule i m shape st false e either =
        let same : shape ≡ FACET = of_facet shape false e refl either in
        subst (λ c. Each (λ p. IfSome (concern p) P) (parts_in (noted number GROUP_FROM tree ∷ round) i c m.value)) (sym same)
        (facet_concerns P (noted number GROUP_FROM tree ∷ round) i m.value (subst (λ c. Stands (noted number GROUP_FROM tree ∷ round) i c m.value) same st) p)

-- a `from` of a group has a facet
pub from_has_facet : (round : Trail) (number : ℕ) (tree : Json) → Stands round number GROUP_FROM tree → has_member (codes "facet") tree ≡ true
from_has_facet round number tree s =
    let form = formed GROUP_FROM tree s.fine in
    let ms : (ms : List Member) × (out-Json tree ≡ level.Object ms) = opened_as GROUP_FROM (out-Json tree) (from_taken (out-Json tree) form.0 form.1).0 in
    let l : Laid round number GROUP_FROM GROUP_FROM tree ms.0 =
    laid_out round number GROUP_FROM GROUP_FROM tree ms.0 s ms.1 (λ f e. from_taken (level.Object ms.0) f e) in
    has_of (member_at (codes "facet") tree) (member_value ms.0 (codes "facet"))
    (member_is tree ms.0 ms.1 (codes "facet")) (named_value ms.0 (from_layout ms.0 l.layout l.applies).0)
  where
    has_of : (o : Option (ℕ × Json)) (p : Option Json) → option_map (λ (m : ℕ × Json). m.1) o ≡ p → is_some p ≡ true → is_some o ≡ true
    has_of None None e f = f
    has_of None (Some v) e f = absurd cc
    has_of (Some m) p e f = refl

    named_value : (ms : List Member) → has_name ms (codes "facet") ≡ true → is_some (member_value ms (codes "facet")) ≡ true
    named_value ms e = has_value ms (codes "facet") e
