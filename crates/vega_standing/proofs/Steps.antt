-- The folds among the transforms of a data set.
use Rattle.std.proofs.Common.{◌≡◌, ℕ, ◌+◌, ◌*◌, ◌≤◌, List, [], ◌∷◌, ◌++◌, map, length, refl, sym, ap, subst, ◌∙◌, ◌⊎◌, inl, inr, arith}
use Rattle.std.specs.Prelude.{Option, Some, None, Bool, true, false, not, ◌==◌, nat_lt, ◌||◌, codes, unwrap_or, if◌then◌else◌, bytes_eq, IfSome}
use Rattle.std.specs.Option.{option_map, option_map_or, option_and_then, is_some}
use Rattle.std.specs.List.{list_any, list_all}
use Rattle.std.proofs.lemmas.Bool.{and_parts as both}
use Rattle.std.proofs.lemmas.Bool.Decides.{nat_tests}
use Rattle.std.proofs.lemmas.List.{length-map}
use Rattle.std.proofs.lemmas.List.Elements.{All-cons, All-nil}
use Rattle.std.proofs.lemmas.Slice.Eq.{bytes_eq-Decides}
use Rattle.json_exact.specs.declared.json.Json.{Json, out-Json}
use Rattle.json_exact.specs.declared.json.Json.TheOpen as level
use Rattle.json_exact.specs.declared.json.Member.{Member}
use Rattle.spec_schema.specs.declared.spec_error.SpecKind.TheVariants.{Wrong}
use Rattle.json_exact.specs.Inside.{items_in, members_in}
use Rattle.json_exact.specs.Path.{member_value}
use Rattle.spec_schema.specs.declared.layout.Layout.{Layout}
use Rattle.spec_schema.specs.declared.layout.Rule.{Rule}
use Rattle.spec_schema.specs.Layouts.{shape_in, rule_in, layout_in, says, applies, holds}
use Rattle.spec_schema.specs.Tables.{must}
use Rattle.spec_walk.specs.Walk.{seen_in, member_parts}
use Rattle.vega_schema.specs.declared.codes.TheConstants.{TRANSFORM, TEXTS, NOTHING}
use Rattle.vega_schema.specs.Schema.{vega_schema}
use Rattle.vega_schema.specs.Guides.{group_mark, axis, legend, grid_layout, top}
use Rattle.vega_schema.specs.Sources.{data_set, data_format, parse, sort, extent_signal}
use Rattle.vega_schema.specs.Transforms.{filter, formula, extent, bin, time_unit, stack, fold}
use Rattle.vega_schema.specs.Groupings.{aggregate, join_aggregate, window, lookup, no_transform}
use Rattle.vega_schema.specs.Signals.{signal, on_event, expression_signal}
use Rattle.vega_schema.specs.Scales.{linear_scale, time_scale, band_scale, point_scale, ordinal_scale, no_scale}
use Rattle.vega_schema.specs.Domains.{domain_of_signal, domain_of_field, domain_of_fields, reference, sort_by_operation, sort_by_cells}
use Rattle.vega_schema.specs.PlainMarks.{rect_mark, symbol_mark, line_mark, area_mark, rule_mark, text_mark}
use Rattle.vega_schema.specs.Marks.{mark_from, group_from, facet, cross, encode, no_mark}
use Rattle.vega_schema.specs.Channels.{channel_members, value, words_value}
use Rattle.vega_schema.specs.Sizes.{size_signal, group_encode, group_channels, size_value}
use Rattle.vega_parts.specs.declared.part.Part.{Part}
use Rattle.vega_parts.specs.declared.part.Part.TheVariants as part
use Rattle.vega_parts.specs.declared.part.Used.TheVariants as for_
use Rattle.vega_parts.specs.Trails.{Trail, noted, place_of, child}
use Rattle.vega_parts.specs.Members.{items_at, text_at as part_text, says_text}
use Rattle.vega_parts.specs.Names.{used_member}
use Rattle.vega_parts.specs.Lengths.{other_length}
use Rattle.vega_parts.specs.Transforms.{data_of, by_type, lookup_parts, fold_fields, longer_list, window_lists, aggregate_lists}
use Rattle.vega_parts.specs.Transforms.{count_of_window, count_of_ops, extent_name}
use Rattle.vega_parts.specs.Parts.{parts_at}
use Rattle.vega_rules.specs.Faults.{fault_if}
use Rattle.vega_rules.specs.Places.{same_place}
use Rattle.vega_rules.specs.Folds.{product_of, folds_after}
use Rattle.vega_spec.specs.declared.transforms.Transform.{Transform}
use Rattle.vega_building.specs.Parts.{text_at, text_of, members_of}
use Rattle.vega_building.specs.Transforms.{transform_of, transform_by}
use Rattle.vega_lists.specs.Products.{fold_length, fold_product, ProductsFit, most_folded}
use Rattle.vega_standing.proofs.Trees.{Each}
use Rattle.vega_standing.proofs.Stands.{EachFrom, Stands, StandsObject, formed, parts_in, parts_of_items, parts_of_members}
use Rattle.vega_standing.proofs.Members.{Laid, laid_out, opened_as, found_as, required, says_is}
use Rattle.vega_standing.proofs.Scales.{nothing_stands}
use Rattle.vega_standing.proofs.Transforms.{says_type, items_are, a_list, texts_form, mapped_some, one_layout, last_layout, transform_taken}
use Rattle.vega_standing.proofs.Quiet.{IsQuiet, AreQuiet, each_append, each_of, both_quiet, if_quiet, else_quiet, some_quiet, quiet_use, quiet_lengths}
use Rattle.vega_standing.proofs.Dull.{is_dull, dull_members, dull_parts, found_passes, then_dull, ruled_dull}
use Rattle.vega_standing.proofs.Known.{concern, quiet_holds, known_after, known_append, folds_append, quiet_known}

-- ---- members

pub dull_row : (trail : Trail) (l : Layout) (n : ℕ) (ms : List Member) → ((name : List ℕ) (inner : ℕ) → shape_in l name ≡ Some inner → is_dull inner ≡ true) →
    AreQuiet (parts_of_members trail l n ms)
dull_row trail l n [] dull = tt
dull_row trail l n (m ∷ ms) dull =
    both_quiet (member_parts l trail (n, (m.name, seen_in vega_schema noted parts_at m.value))) (parts_of_members trail l (n + 1) ms)
    (by_shape (shape_in l m.name) refl) (dull_row trail l (n + 1) ms dull)
  where
    by_shape : (o : Option ℕ) → shape_in l m.name ≡ o → AreQuiet (option_map_or (λ shape. parts_in trail n shape m.value) o [])
    by_shape None e = tt
    by_shape (Some shape) e = dull_parts trail n shape m.value (dull m.name shape e)

abbrev dull_step : Layout → Bool
dull_step l = not (l.object == TRANSFORM) || dull_members l

steps_dull : list_all dull_step vega_schema.layouts ≡ true
unfolding vega_schema group_mark axis legend grid_layout top data_set data_format parse sort extent_signal
    filter formula extent bin time_unit stack fold aggregate join_aggregate window lookup no_transform signal on_event expression_signal
    linear_scale time_scale band_scale point_scale ordinal_scale no_scale domain_of_signal domain_of_field domain_of_fields reference
    sort_by_operation sort_by_cells rect_mark symbol_mark line_mark area_mark rule_mark text_mark mark_from group_from facet cross
    encode no_mark channel_members value words_value size_signal group_encode group_channels size_value
steps_dull = refl

-- the members of a transform are dull
step_dull : (ms : List Member) (l : Layout) (name : List ℕ) (inner : ℕ) →
    layout_in vega_schema TRANSFORM ms ≡ Some l → shape_in l name ≡ Some inner → is_dull inner ≡ true
step_dull ms l name inner laid ruled =
    let passed : (applies vega_schema TRANSFORM ms l ≡ true) × (dull_step l ≡ true) =
    found_passes (applies vega_schema TRANSFORM ms) dull_step vega_schema.layouts l laid steps_dull in
    let is : (l.object == TRANSFORM) ≡ true = (both (l.object == TRANSFORM) (list_all (holds vega_schema ms) l.when) passed.0).0 in
    let members : dull_members l ≡ true = then_dull (l.object == TRANSFORM) (dull_members l) passed.1 is in
    let parts : (list_all (λ (r : Rule). is_dull r.shape) l.rules ≡ true) × (option_map_or is_dull l.others true ≡ true) =
    both (list_all (λ (r : Rule). is_dull r.shape) l.rules) (option_map_or is_dull l.others true) members in
    ruled_dull (rule_in l.rules name) l.others inner
    (λ r e. (found_passes (λ (r : Rule). bytes_eq r.name name) (λ (r : Rule). is_dull r.shape) l.rules r e parts.0).1) parts.1 ruled

-- ---- one transform

quiet_longer : (count : ℕ) (name : List ℕ) (trail : Trail) (tree : Json) → AreQuiet (longer_list count name trail tree)
quiet_longer count name trail tree =
    some_quiet _ (λ (m : ℕ × List Json). if_quiet (nat_lt count (length m.1)) (part.Fault (child trail m.0) Wrong ∷ []) [] (refl, tt) tt) (items_at name tree)

quiet_aggregate : (o : Option ℕ) (trail : Trail) (tree : Json) → AreQuiet (aggregate_lists o trail tree)
quiet_aggregate None trail tree = tt
quiet_aggregate (Some count) trail tree =
    both_quiet (longer_list count (codes "fields") trail tree) (longer_list count (codes "as") trail tree)
    (quiet_longer count (codes "fields") trail tree) (quiet_longer count (codes "as") trail tree)

quiet_window : (o : Option ℕ) (trail : Trail) (tree : Json) → AreQuiet (window_lists o trail tree)
quiet_window None trail tree = tt
quiet_window (Some count) trail tree =
    both_quiet (longer_list count (codes "fields") trail tree ++ longer_list count (codes "params") trail tree) (longer_list count (codes "as") trail tree)
    (both_quiet (longer_list count (codes "fields") trail tree) (longer_list count (codes "params") trail tree)
    (quiet_longer count (codes "fields") trail tree) (quiet_longer count (codes "params") trail tree))
    (quiet_longer count (codes "as") trail tree)

-- one that is no fold gives quiet parts
quiet_step : (trail : Trail) (tree : Json) → says_text (codes "type") (codes "fold") tree ≡ false → AreQuiet (by_type trail tree)
quiet_step trail tree other =
    if_quiet (says_text (codes "type") (codes "extent") tree) _ _ (some_quiet _ (λ (m : ℕ × List ℕ). (refl, tt)) (part_text (codes "signal") tree))
    (if_quiet (says_text (codes "type") (codes "lookup") tree) _ _
    (both_quiet (used_member for_.From (codes "from") trail tree) (other_length (codes "as") (codes "values") trail tree)
    (quiet_use for_.From refl (codes "from") trail tree) (quiet_lengths (codes "as") (codes "values") trail tree))
    (else_quiet (says_text (codes "type") (codes "fold") tree) _ _ other
    (if_quiet (says_text (codes "type") (codes "window") tree) _ _ (quiet_window (count_of_window tree) trail tree)
    (if_quiet (says_text (codes "type") (codes "aggregate") tree || says_text (codes "type") (codes "joinaggregate") tree) _ _
    (quiet_aggregate (count_of_ops tree) trail tree) tt))))

-- what a transform gives, beside the transform that it says: a fold with its length, or quiet parts
abbrev pub IsStep : Trail → Json → Transform → Type 0
IsStep trail tree t = (AreQuiet (parts_at trail tree) × (fold_length t ≡ 1))
    ⊎ (parts_at trail tree ≡ part.Step (place_of trail) (data_of trail) ∷ part.Fold (place_of trail) (data_of trail) (fold_length t) ∷ [])

module _ (round : Trail) (number : ℕ) (tree : Json) (s : Stands round number TRANSFORM tree) (ms : List Member) (is : out-Json tree ≡ level.Object ms) where
  abbrev step_trail : Trail
  step_trail = noted number TRANSFORM tree ∷ round

  abbrev Told : Layout → Type 0
  Told l = StandsObject step_trail l ms → IsStep step_trail tree (transform_of ms)

  other : (word : List ℕ) (l : Layout) → bytes_eq (codes "fold") word ≡ false → fold_length (transform_by word ms) ≡ 1 →
      list_any (says (codes "type") word) ms ≡ true → Told l
  other word l unlike length e o =
      let text : text_at ms (codes "type") ≡ Some word = says_is ms (codes "type") word o.own e in
      let quiet : AreQuiet (parts_at step_trail tree) =
      (refl, quiet_step step_trail tree (says_type round number tree s ms is word (codes "fold") text ∙ unlike)) in
      inl (quiet, ap (λ t. fold_length (transform_by (unwrap_or t []) ms)) text ∙ length)

  fold_is : text_at ms (codes "type") ≡ Some (codes "fold") → by_type step_trail tree ≡ fold_fields step_trail tree
  fold_is e =
      ap (λ b. if b then extent_name step_trail tree
      else (if says_text (codes "type") (codes "lookup") tree then lookup_parts step_trail tree
      else (if says_text (codes "type") (codes "fold") tree then fold_fields step_trail tree
      else (if says_text (codes "type") (codes "window") tree then window_lists (count_of_window tree) step_trail tree
      else (if says_text (codes "type") (codes "aggregate") tree || says_text (codes "type") (codes "joinaggregate") tree
      then aggregate_lists (count_of_ops tree) step_trail tree else []))))) (says_type round number tree s ms is (codes "fold") (codes "extent") e)
      ∙ ap (λ b. if b then lookup_parts step_trail tree
      else (if says_text (codes "type") (codes "fold") tree then fold_fields step_trail tree
      else (if says_text (codes "type") (codes "window") tree then window_lists (count_of_window tree) step_trail tree
      else (if says_text (codes "type") (codes "aggregate") tree || says_text (codes "type") (codes "joinaggregate") tree
      then aggregate_lists (count_of_ops tree) step_trail tree else [])))) (says_type round number tree s ms is (codes "fold") (codes "lookup") e)
      ∙ ap (λ b. if b then fold_fields step_trail tree
      else (if says_text (codes "type") (codes "window") tree then window_lists (count_of_window tree) step_trail tree
      else (if says_text (codes "type") (codes "aggregate") tree || says_text (codes "type") (codes "joinaggregate") tree
      then aggregate_lists (count_of_ops tree) step_trail tree else []))) (says_type round number tree s ms is (codes "fold") (codes "fold") e)

  fields_are : (o : Option (ℕ × List Json)) → is_some o ≡ true →
      option_map_or (λ (m : ℕ × List Json). part.Fold (place_of step_trail) (data_of step_trail) (length m.1) ∷ []) o []
      ≡ part.Fold (place_of step_trail) (data_of step_trail) (length (unwrap_or (option_map (map text_of) (option_map (λ (m : ℕ × List Json). m.1) o)) [])) ∷ []
  fields_are None e = absurd cc
  fields_are (Some m) e = ap (λ n. part.Fold (place_of step_trail) (data_of step_trail) n ∷ []) (sym (length-map m.1 text_of))

  folds : list_any (says (codes "type") (codes "fold")) ms ≡ true → Told fold
  unfolding fold
  folds e o =
      let text : text_at ms (codes "type") ≡ Some (codes "fold") = says_is ms (codes "type") (codes "fold") o.own e in
      let v : (v : Json) × (member_value ms (codes "fields") ≡ Some v) =
      required step_trail fold ms (codes "fields") (must (codes "fields") TEXTS) o refl refl refl in
      let stands : (i : ℕ) × Stands step_trail i TEXTS v.0 = found_as step_trail fold ms (codes "fields") v.0 TEXTS o refl v.1 in
      let form = formed TEXTS v.0 stands.1.fine in
      let listed : is_some (items_in (out-Json v.0)) ≡ true = a_list (out-Json v.0) (texts_form (out-Json v.0) form.0 form.1) in
      let there : is_some (items_at (codes "fields") tree) ≡ true =
      mapped_some (λ (m : ℕ × List Json). m.1) (items_at (codes "fields") tree)
      ∙ ap is_some (items_are tree ms is (codes "fields") ∙ ap (λ o. option_and_then (λ v. items_in (out-Json v)) o) v.1) ∙ listed in
      inr (ap (λ ps. part.Step (place_of step_trail) (data_of step_trail) ∷ ps)
      (fold_is text ∙ fields_are (items_at (codes "fields") tree) there
      ∙ ap (λ o. part.Fold (place_of step_trail) (data_of step_trail) (length (unwrap_or (option_map (map text_of) o) [])) ∷ [])
      (items_are tree ms is (codes "fields"))
      ∙ ap (λ t. part.Fold (place_of step_trail) (data_of step_trail) (fold_length (transform_by (unwrap_or t []) ms)) ∷ []) (sym text)))

  unknown : Told no_transform
  unfolding no_transform
  unknown o =
      let v : (v : Json) × (member_value ms (codes "type") ≡ Some v) =
      required step_trail no_transform ms (codes "type") (must (codes "type") NOTHING) o refl refl refl in
      let stands : (i : ℕ) × Stands step_trail i NOTHING v.0 = found_as step_trail no_transform ms (codes "type") v.0 NOTHING o refl v.1 in
      absurd (nothing_stands step_trail stands.0 v.0 stands.1)

  by_transform : (l : Layout) → layout_in vega_schema TRANSFORM ms ≡ Some l → Told l
  unfolding vega_schema group_mark axis legend grid_layout top data_set data_format parse sort extent_signal
      filter formula extent bin time_unit stack fold aggregate join_aggregate window lookup no_transform signal on_event expression_signal
      linear_scale time_scale band_scale point_scale ordinal_scale no_scale domain_of_signal domain_of_field domain_of_fields reference
      sort_by_operation sort_by_cells rect_mark symbol_mark line_mark area_mark rule_mark text_mark mark_from group_from facet cross
      encode no_mark channel_members value words_value size_signal group_encode group_channels size_value
  by_transform l e =
      let a : List ℕ → Bool = λ word. list_any (says (codes "type") word) ms in
      one_layout Told (a (codes "filter")) filter l _ e (other (codes "filter") filter refl refl) (λ e.
      one_layout Told (a (codes "formula")) formula l _ e (other (codes "formula") formula refl refl) (λ e.
      one_layout Told (a (codes "extent")) extent l _ e (other (codes "extent") extent refl refl) (λ e.
      one_layout Told (a (codes "bin")) bin l _ e (other (codes "bin") bin refl refl) (λ e.
      one_layout Told (a (codes "timeunit")) time_unit l _ e (other (codes "timeunit") time_unit refl refl) (λ e.
      one_layout Told (a (codes "stack")) stack l _ e (other (codes "stack") stack refl refl) (λ e.
      one_layout Told (a (codes "fold")) fold l _ e folds (λ e.
      one_layout Told (a (codes "aggregate")) aggregate l _ e (other (codes "aggregate") aggregate refl refl) (λ e.
      one_layout Told (a (codes "joinaggregate")) join_aggregate l _ e (other (codes "joinaggregate") join_aggregate refl refl) (λ e.
      one_layout Told (a (codes "window")) window l _ e (other (codes "window") window refl refl) (λ e.
      one_layout Told (a (codes "lookup")) lookup l _ e (other (codes "lookup") lookup refl refl) (λ e.
      last_layout Told no_transform l e unknown)))))))))))

-- the parts of a transform: its own, and quiet ones
pub record StepParts (round : Trail) (number : ℕ) (tree : Json) : Type 0 where
  pub inner : List Part
  pub parts : parts_in round number TRANSFORM tree ≡ parts_at (noted number TRANSFORM tree ∷ round) tree ++ inner
  pub quiet : AreQuiet inner
  pub is_step : IsStep (noted number TRANSFORM tree ∷ round) tree (transform_of (members_of tree))

pub step_parts : (round : Trail) (number : ℕ) (tree : Json) → Stands round number TRANSFORM tree → StepParts round number tree
step_parts round number tree s =
    let form = formed TRANSFORM tree s.fine in
    let ms : (ms : List Member) × (out-Json tree ≡ level.Object ms) = opened_as TRANSFORM (out-Json tree) (transform_taken (out-Json tree) form.0 form.1).0 in
    let l : Laid round number TRANSFORM TRANSFORM tree ms.0 =
    laid_out round number TRANSFORM TRANSFORM tree ms.0 s ms.1 (λ f e. transform_taken (level.Object ms.0) f e) in
    let same : members_of tree ≡ ms.0 = ap (λ o. unwrap_or (members_in o) []) ms.1 in
    record {
      inner = parts_of_members (noted number TRANSFORM tree ∷ round) l.layout 0 ms.0;
      parts = l.parts;
      quiet = dull_row (noted number TRANSFORM tree ∷ round) l.layout 0 ms.0 (λ name inner ruled. step_dull ms.0 l.layout name inner l.applies ruled);
      is_step = subst (λ m. IsStep (noted number TRANSFORM tree ∷ round) tree (transform_of m)) (sym same)
          (by_transform round number tree s ms.0 ms.1 l.layout l.applies l.stands);
    }

-- ---- all transforms

-- what some parts make of the product of a data set, beside its transforms
pub record Multiplied (whole : List Part) (known : List (List ℕ × ℕ)) (set : List ℕ) (parts : List Part) (transforms : List Transform) : Type 0 where
  pub product : product_of (known_after whole known parts) set ≡ fold_product (product_of known set) transforms
  pub fits : ProductsFit (product_of known set) transforms
  pub few : product_of (known_after whole known parts) set ≤ most_folded

not_more : (a b : ℕ) (at : List ℕ) → fault_if (nat_lt 8 (a * b)) Wrong at ≡ [] → a * b ≤ 8
not_more a b at e = by_test (nat_lt 8 (a * b)) refl e
  where
    by_test : (t : Bool) → nat_lt 8 (a * b) ≡ t → fault_if t Wrong at ≡ [] → a * b ≤ 8
    by_test true same none = absurd cc
    by_test false same none = grind (arith, nat_tests)

none_of : {X : Type 0} (xs ys : List X) → xs ++ ys ≡ [] → (xs ≡ []) × (ys ≡ [])
none_of [] ys e = (refl, e)
none_of (x ∷ xs) ys e = absurd cc

once : (n k : ℕ) → k ≡ 1 → n ≡ n * k
once n k e = rw e (omega arith)

-- one transform
one_multiplied : (whole : List Part) (known : List (List ℕ × ℕ)) (round : Trail) (number : ℕ) (tree : Json) (set : List ℕ) → StepParts round number tree →
    data_of (noted number TRANSFORM tree ∷ round) ≡ set → product_of known set ≤ 8 → folds_after whole known (parts_in round number TRANSFORM tree) ≡ [] →
    (product_of (known_after whole known (parts_in round number TRANSFORM tree)) set ≡ product_of known set * fold_length (transform_of (members_of tree)))
    × (product_of known set * fold_length (transform_of (members_of tree)) ≤ 8)
one_multiplied whole known round number tree set s at few none = by_step s.is_step
  where
    again : known_after whole known (parts_in round number TRANSFORM tree) ≡ known_after whole known (parts_at (noted number TRANSFORM tree ∷ round) tree)
    again = ap (known_after whole known) s.parts ∙ known_append whole known (parts_at (noted number TRANSFORM tree ∷ round) tree) s.inner
        ∙ quiet_known whole (known_after whole known (parts_at (noted number TRANSFORM tree ∷ round) tree)) s.inner s.quiet

    own : folds_after whole known (parts_at (noted number TRANSFORM tree ∷ round) tree) ≡ []
    own = (none_of (folds_after whole known (parts_at (noted number TRANSFORM tree ∷ round) tree)) _
        (sym (folds_append whole known (parts_at (noted number TRANSFORM tree ∷ round) tree) s.inner) ∙ ap (folds_after whole known) (sym s.parts) ∙ none)).0

    fold_made : (k : ℕ) (parts : List Part) → parts
        ≡ part.Step (place_of (noted number TRANSFORM tree ∷ round)) set ∷ part.Fold (place_of (noted number TRANSFORM tree ∷ round)) set k ∷ [] →
        folds_after whole known parts ≡ [] →
        (product_of (known_after whole known parts) set ≡ product_of known set * k) × (product_of known set * k ≤ 8)
    fold_made k parts is none =
        let same : same_place set set ≡ true = (bytes_eq-Decides set set).1 refl in
        let f = ap (folds_after whole known) (sym is) ∙ none in (
          ap (λ ps. product_of (known_after whole known ps) set) is ∙ ap (λ b. if b then product_of known set * k else product_of known set) same,
          not_more (product_of known set) k (place_of (noted number TRANSFORM tree ∷ round)) (none_of _ [] f).0,
        )

    at_most : (n k : ℕ) → k ≡ 1 → n ≤ 8 → n * k ≤ 8
    at_most n k e few = subst (λ m. m ≤ 8) (once n k e) few

    by_step : IsStep (noted number TRANSFORM tree ∷ round) tree (transform_of (members_of tree)) →
        (product_of (known_after whole known (parts_in round number TRANSFORM tree)) set ≡ product_of known set * fold_length (transform_of (members_of tree)))
        × (product_of known set * fold_length (transform_of (members_of tree)) ≤ 8)
    by_step (inl (quiet, length)) = (
      ap (λ k. product_of k set) (again ∙ quiet_known whole known (parts_at (noted number TRANSFORM tree ∷ round) tree) quiet)
          ∙ once (product_of known set) (fold_length (transform_of (members_of tree))) length,
      at_most (product_of known set) (fold_length (transform_of (members_of tree))) length few,
    )
    by_step (inr is) =
        let made = fold_made (fold_length (transform_of (members_of tree))) (parts_at (noted number TRANSFORM tree ∷ round) tree)
        (is ∙ ap (λ x. part.Step (place_of (noted number TRANSFORM tree ∷ round)) x
        ∷ part.Fold (place_of (noted number TRANSFORM tree ∷ round)) x (fold_length (transform_of (members_of tree))) ∷ []) at) own in
        (ap (λ k. product_of k set) again ∙ made.0, made.1)

-- and all of a list of them
pub all_multiplied : (whole : List Part) (known : List (List ℕ × ℕ)) (trail : Trail) (n : ℕ) (items : List Json) (set : List ℕ) →
    EachFrom (λ i v. Stands trail i TRANSFORM v) n items → ((i : ℕ) (v : Json) → data_of (noted i TRANSFORM v ∷ trail) ≡ set) → product_of known set ≤ 8 →
    folds_after whole known (parts_of_items trail TRANSFORM n items) ≡ [] →
    Multiplied whole known set (parts_of_items trail TRANSFORM n items) (map (λ t. transform_of (members_of t)) items)
all_multiplied whole known trail n [] set each at few none = record { product = refl; fits = All-nil (λ product. product ≤ most_folded); few = few }
all_multiplied whole known trail n (v ∷ items) set each at few none =
    let parts = none_of (folds_after whole known (parts_in trail n TRANSFORM v)) _
    (sym (folds_append whole known (parts_in trail n TRANSFORM v) (parts_of_items trail TRANSFORM (n + 1) items)) ∙ none) in
    let one = one_multiplied whole known trail n v set (step_parts trail n v each.0) (at n v) few parts.0 in
    let after : List (List ℕ × ℕ) = known_after whole known (parts_in trail n TRANSFORM v) in
    let rest : Multiplied whole after set (parts_of_items trail TRANSFORM (n + 1) items) (map (λ t. transform_of (members_of t)) items) =
    all_multiplied whole after trail (n + 1) items set each.1 at (subst (λ m. m ≤ 8) (sym one.0) one.1) parts.1 in
    let all : known_after whole known (parts_of_items trail TRANSFORM n (v ∷ items)) ≡ known_after whole after (parts_of_items trail TRANSFORM (n + 1) items) =
    known_append whole known (parts_in trail n TRANSFORM v) (parts_of_items trail TRANSFORM (n + 1) items) in
    record {
      product = ap (λ k. product_of k set) all ∙ rest.product ∙ ap (λ b. fold_product b (map (λ t. transform_of (members_of t)) items)) one.0;
      fits = All-cons (λ product. product ≤ most_folded) _ _ one.1
          (subst (λ b. ProductsFit b (map (λ t. transform_of (members_of t)) items)) one.0 rest.fits);
      few = subst (λ k. product_of k set ≤ most_folded) (sym all) rest.few;
    }

-- what holds of the data set, holds of all that they concern
pub steps_concern : (P : List ℕ → Type 0) (trail : Trail) (n : ℕ) (items : List Json) (set : List ℕ) → P set →
    EachFrom (λ i v. Stands trail i TRANSFORM v) n items → ((i : ℕ) (v : Json) → data_of (noted i TRANSFORM v ∷ trail) ≡ set) →
    Each (λ p. IfSome (concern p) P) (parts_of_items trail TRANSFORM n items)
steps_concern P trail n [] set p each at = tt
steps_concern P trail n (v ∷ items) set p each at =
    let s : StepParts trail n v = step_parts trail n v each.0 in
    each_append (λ p. IfSome (concern p) P) (parts_in trail n TRANSFORM v) (parts_of_items trail TRANSFORM (n + 1) items)
    (subst (Each (λ p. IfSome (concern p) P)) (sym s.parts)
    (each_append (λ p. IfSome (concern p) P) (parts_at (noted n TRANSFORM v ∷ trail) v) s.inner (own s.is_step) (quiet_holds P s.inner s.quiet)))
    (steps_concern P trail (n + 1) items set p each.1 at)
  where
    own : IsStep (noted n TRANSFORM v ∷ trail) v (transform_of (members_of v)) → Each (λ p. IfSome (concern p) P) (parts_at (noted n TRANSFORM v ∷ trail) v)
    own (inl (quiet, length)) = quiet_holds P (parts_at (noted n TRANSFORM v ∷ trail) v) quiet
    own (inr is) = subst (Each (λ p. IfSome (concern p) P)) (sym is) (tt, (subst P (sym (at n v)) p, tt))

-- what each quiet part and each fold of the data set keeps, all its transforms keep
pub steps_keep : (P : Part → Type 0) → ((p : Part) → IsQuiet p → P p) →
    (trail : Trail) (n : ℕ) (items : List Json) (set : List ℕ) → ((at : List ℕ) (k : ℕ) → P (part.Fold at set k)) →
    EachFrom (λ i v. Stands trail i TRANSFORM v) n items → ((i : ℕ) (v : Json) → data_of (noted i TRANSFORM v ∷ trail) ≡ set) →
    Each P (parts_of_items trail TRANSFORM n items)
steps_keep P quiet trail n [] set made each at = tt
steps_keep P quiet trail n (v ∷ items) set made each at =
    let s : StepParts trail n v = step_parts trail n v each.0 in
    each_append P (parts_in trail n TRANSFORM v) (parts_of_items trail TRANSFORM (n + 1) items)
    (subst (Each P) (sym s.parts)
    (each_append P (parts_at (noted n TRANSFORM v ∷ trail) v) s.inner (own s.is_step) (each_of IsQuiet P quiet s.inner s.quiet)))
    (steps_keep P quiet trail (n + 1) items set made each.1 at)
  where
    own : IsStep (noted n TRANSFORM v ∷ trail) v (transform_of (members_of v)) → Each P (parts_at (noted n TRANSFORM v ∷ trail) v)
    own (inl (calm, length)) = each_of IsQuiet P quiet (parts_at (noted n TRANSFORM v ∷ trail) v) calm
    own (inr is) = subst (Each P) (sym is) (
      quiet (part.Step (place_of (noted n TRANSFORM v ∷ trail)) (data_of (noted n TRANSFORM v ∷ trail))) refl,
      (
        subst (λ x. P (part.Fold (place_of (noted n TRANSFORM v ∷ trail)) x (fold_length (transform_of (members_of v))))) (sym (at n v))
            (made (place_of (noted n TRANSFORM v ∷ trail)) (fold_length (transform_of (members_of v)))),
        tt,
      ),
    )
