-- Parts that are no data set, no transform, no source and no signal.
use Rattle.std.proofs.Common.{◌≡◌, ℕ, List, [], ◌∷◌, ◌++◌, refl, ap, sym, subst, arith}
use Rattle.std.specs.Prelude.{Option, Some, None, Bool, true, false, not, is_none, IfSome, nat_lt, ◌&&◌, ◌||◌, ◌==◌, codes, length, if◌then◌else◌}
use Rattle.std.specs.Option.{option_map_or}
use Rattle.std.specs.List.{enumerate_from}
use Rattle.json_exact.specs.declared.json.Json.{Json, out-Json}
use Rattle.spec_schema.specs.declared.spec_error.SpecKind.{SpecKind}
use Rattle.spec_schema.specs.declared.spec_error.SpecKind.TheVariants.{Wrong, Unsupported}
use Rattle.json_exact.specs.Inside.{text_in}
use Rattle.expr_syntax.specs.declared.expr.Expr.{Expr}
use Rattle.expr_syntax.specs.Expressions.{has_domain_length}
use Rattle.expr_reading.specs.Readings.{expression_of}
use Rattle.expr_reading.specs.Mentions.{parameters_in, selections_in, scales_in}
use Rattle.vega_schema.specs.declared.codes.TheConstants.{AXIS, DATA, EXPRESSION, EXTENT, FACET, LABEL_FORMAT, LEGEND, MARK, MARK_FROM}
use Rattle.vega_schema.specs.declared.codes.TheConstants.{REFERENCE, SCALE, SCALE_DOMAIN, SIGNAL, SIZE_EXPRESSION, SORT, TOP, TRANSFORM}
use Rattle.vega_parts.specs.declared.part.Part.{Part}
use Rattle.vega_parts.specs.declared.part.Part.TheVariants as part
use Rattle.vega_parts.specs.declared.part.Given.TheVariants as given_as
use Rattle.vega_parts.specs.declared.part.Used.{Used}
use Rattle.vega_parts.specs.declared.part.Used.TheVariants as for_
use Rattle.vega_parts.specs.Trails.{Trail, place_of, scope_of, child, grandchild, object_round, is_top, is_plot, has_layout, is_object_itself}
use Rattle.vega_parts.specs.Members.{text_at, member_at, items_at, has_member}
use Rattle.vega_parts.specs.Names.{given, used, used_member, fault_member, used_item, used_items, used_names}
use Rattle.vega_parts.specs.Lengths.{unequal, other_length, unlike, apart, go_together, text_count_at, sort_parts}
use Rattle.vega_parts.specs.Signals.{signal_name, store_name, signal_names, on_in_group, mark_names, selector, selectors_in, selectors}
use Rattle.vega_parts.specs.declared.selections.Entry.{Entry}
use Rattle.vega_parts.specs.declared.selections.Concerned.{Concerned}
use Rattle.vega_parts.specs.declared.updates.Update.{Update}
use Rattle.vega_parts.specs.Updates.{fields_of, is_drag}
use Rattle.vega_parts.specs.Selections.{entries_of, is_wrong_entry, entry_fault, intervals_in, intervals_of, entry_intervals, entry_parts}
use Rattle.vega_parts.specs.Selections.{entries_parts, concerned_by, updates_in, update_parts}
use Rattle.vega_parts.specs.LabelFormats.{is_label_format, label_format_parts}
use Rattle.vega_parts.specs.Expressions.{read_parts, expression_parts}
use Rattle.vega_parts.specs.Scales.{scale_parts, for_size, for_legend, two_scales}
use Rattle.vega_parts.specs.Marks.{plot_parts, is_open_plot, beside_layout, layout_in_plot, mark_faults, mark_parts}
use Rattle.vega_parts.specs.Parts.{signal_itself, signal_parts, leaf_parts, use_parts, guide_parts, is_value, is_size}
use Rattle.std.proofs.lemmas.Bool.Decides.{nat_tests}
use Rattle.json_exact.specs.declared.json.Json.TheOpen as level
use Rattle.spec_schema.specs.Values.{Opened}
use Rattle.vega_parts.specs.declared.around.Around.{Around}
use Rattle.vega_parts.specs.Trails.{noted, is_faceted}
use Rattle.vega_parts.specs.Data.{data_parts, data_set, data_names, data_name, source_name, data_faults, transform_in_facet, far_url, is_far}
use Rattle.vega_parts.specs.Transforms.{transform_parts, step, by_type, lookup_parts, fold_fields, longer_list, window_lists}
use Rattle.vega_parts.specs.Transforms.{aggregate_lists, count_of_window, count_of_ops}
use Rattle.vega_parts.specs.Members.{says_text}
use Rattle.vega_parts.specs.Facets.{group_of, facet_name, facet_item, facet_names_in, facet_names, facet_rows_in, facet_rows, header}
use Rattle.vega_parts.specs.Facets.{headers_in, headers, facet_faults, facet_names_and_rows, facet_parts}
use Rattle.vega_parts.specs.Parts.{parts_at}
use Rattle.vega_rules.specs.Places.{parent}
use Rattle.vega_rules.specs.Folds.{is_source}
use Rattle.vega_rules.specs.declared.nodes.Thing.{Thing}
use Rattle.vega_rules.specs.declared.nodes.Thing.TheVariants as thing
use Rattle.vega_rules.specs.Nodes.{key, key_of}
use Rattle.vega_standing.proofs.Trees.{Each}
use Rattle.vega_standing.proofs.Quiet.{each_append, each_of, each_flat}
use Rattle.vega_standing.proofs.Rows.{parent_child}

-- it has no key among things that need something or are needed
abbrev pub IsKeyless : Part → Type 0
IsKeyless p = is_none (key_of p) ≡ true

abbrev pub AreKeyless : List Part → Type 0
AreKeyless parts = Each IsKeyless parts

silent : (kind : Used) (at : List ℕ) → is_source kind ≡ false → is_none (if is_source kind then Some (key thing.Source (parent at)) else None) ≡ true
silent kind at other = ap (λ b. is_none (if b then Some (key thing.Source (parent at)) else None)) other

pub both_keyless : (xs ys : List Part) → AreKeyless xs → AreKeyless ys → AreKeyless (xs ++ ys)
both_keyless xs ys a b = each_append IsKeyless xs ys a b

pub if_keyless : (b : Bool) (xs ys : List Part) → AreKeyless xs → AreKeyless ys → AreKeyless (if b then xs else ys)
if_keyless true xs ys a b = a
if_keyless false xs ys a b = b

pub else_keyless : (b : Bool) (xs ys : List Part) → b ≡ false → AreKeyless ys → AreKeyless (if b then xs else ys)
else_keyless true xs ys e b = absurd cc
else_keyless false xs ys e b = b

pub some_keyless : {A : Type 0} (f : A → List Part) → ((x : A) → AreKeyless (f x)) → (o : Option A) → AreKeyless (option_map_or f o [])
some_keyless f each None = tt
some_keyless f each (Some x) = each x

-- ---- parts by their definitions

pub keyless_use : (kind : Used) → is_source kind ≡ false → (name : List ℕ) (trail : Trail) (tree : Json) → AreKeyless (used_member kind name trail tree)
keyless_use kind other name trail tree =
    some_keyless (λ (m : ℕ × List ℕ). used kind (scope_of trail) (child trail m.0) m.1 ∷ [])
    (λ m. (silent kind (child trail m.0) other, tt)) (text_at name tree)

keyless_item : (kind : Used) → is_source kind ≡ false → (object trail : Trail) (number : ℕ) (item : ℕ × Json)
    → AreKeyless (used_item kind object trail number item)
keyless_item kind other object trail number item =
    some_keyless (λ (name : List ℕ). used kind (place_of object) (grandchild trail number item.0) name ∷ [])
    (λ name. (silent kind (grandchild trail number item.0) other, tt)) (text_in (out-Json item.1))

pub keyless_items : (kind : Used) → is_source kind ≡ false
    → (object trail : Trail) (number : ℕ) (items : List Json) → AreKeyless (used_items kind object trail number items)
keyless_items kind other object trail number items =
    each_flat IsKeyless (used_item kind object trail number) (keyless_item kind other object trail number) (enumerate_from 0 items)

keyless_names : (kind : Used) → is_source kind ≡ false → (trail : Trail) (names : List (List ℕ)) → AreKeyless (used_names kind trail names)
keyless_names kind other trail [] = tt
keyless_names kind other trail (name ∷ names) = (silent kind (place_of trail) other, keyless_names kind other trail names)

pub keyless_fault : (kind : SpecKind) (name : List ℕ) (trail : Trail) (tree : Json) → AreKeyless (fault_member kind name trail tree)
keyless_fault kind name trail tree = some_keyless (λ (m : ℕ × Json). part.Fault (child trail m.0) kind ∷ []) (λ m. (refl, tt)) (member_at name tree)

keyless_if_fault : (b : Bool) (at : List ℕ) → AreKeyless (if b then [] else part.Fault at Wrong ∷ [])
keyless_if_fault true at = tt
keyless_if_fault false at = (refl, tt)

pub keyless_lengths : (name other : List ℕ) (trail : Trail) (tree : Json) → AreKeyless (other_length name other trail tree)
keyless_lengths name other trail tree =
    some_keyless (λ (m : ℕ × List Json). option_map_or (λ (n : ℕ × List Json). unequal trail m.0 (length m.1) (length n.1)) (items_at other tree) [])
    (λ m. some_keyless (λ (n : ℕ × List Json). unequal trail m.0 (length m.1) (length n.1))
    (λ n. keyless_if_fault (length m.1 == length n.1) (child trail m.0)) (items_at other tree))
    (items_at name tree)

pub keyless_apart : (name other : List ℕ) (trail : Trail) (tree : Json) → AreKeyless (apart name other trail tree)
keyless_apart name other trail tree =
    some_keyless (λ (m : ℕ × Json). option_map_or (λ (n : ℕ × Json). unlike trail m.0 m.1 n.1) (member_at other tree) [])
    (λ m. some_keyless (λ (n : ℕ × Json). unlike trail m.0 m.1 n.1)
    (λ n. keyless_if_fault (go_together (out-Json n.1) (out-Json m.1)) (child trail m.0)) (member_at other tree))
    (member_at name tree)

keyless_sort : (trail : Trail) (tree : Json) → AreKeyless (sort_parts trail tree)
keyless_sort trail tree =
    some_keyless (λ (m : ℕ × ℕ). option_map_or (λ (n : ℕ × ℕ). unequal trail m.0 m.1 n.1) (text_count_at (codes "field") tree) [])
    (λ m. some_keyless (λ (n : ℕ × ℕ). unequal trail m.0 m.1 n.1) (λ n. keyless_if_fault (m.1 == n.1) (child trail m.0)) (text_count_at (codes "field") tree))
    (text_count_at (codes "order") tree)

-- ---- what selections give

keyless_scales : (concerned : Concerned) (at : List ℕ) (fields : List (List ℕ)) → AreKeyless (intervals_in concerned at fields)
keyless_scales concerned at [] = tt
keyless_scales concerned at (x ∷ []) = tt
keyless_scales concerned at (x ∷ s ∷ []) = tt
keyless_scales concerned at (x ∷ s ∷ f ∷ []) = (refl, tt)
keyless_scales concerned at (x ∷ s ∷ f ∷ y ∷ []) = tt
keyless_scales concerned at (x ∷ s ∷ f ∷ y ∷ t ∷ []) = tt
keyless_scales concerned at (x ∷ s ∷ f ∷ y ∷ t ∷ g ∷ []) = (refl, (refl, tt))
keyless_scales concerned at (x ∷ s ∷ f ∷ y ∷ t ∷ g ∷ h ∷ rest) = tt

keyless_entry : (concerned : Concerned) (earlier : List Entry) (entry : Entry) → AreKeyless (entry_parts concerned earlier entry)
keyless_entry concerned earlier entry =
    both_keyless (entry_fault concerned.own earlier entry) (entry_intervals concerned entry)
    (if_keyless (is_wrong_entry concerned.own earlier entry) (part.Fault entry.at Wrong ∷ []) [] (refl, tt) tt)
    (some_keyless (λ (u : Update). intervals_of concerned entry.at u) (λ (u : Update). if_keyless (is_drag u.change)
    (intervals_in concerned entry.at (fields_of u)) [] (keyless_scales concerned entry.at (fields_of u)) tt) entry.update)

keyless_entries : (concerned : Concerned) (earlier entries : List Entry) → AreKeyless (entries_parts concerned earlier entries)
keyless_entries concerned earlier [] = tt
keyless_entries concerned earlier (entry ∷ later) =
    both_keyless (entry_parts concerned earlier entry) (entries_parts concerned (earlier ++ entry ∷ []) later)
    (keyless_entry concerned earlier entry) (keyless_entries concerned (earlier ++ entry ∷ []) later)

keyless_updates : (trail : Trail) (tree : Json) → AreKeyless (update_parts trail tree)
keyless_updates trail tree =
    some_keyless (λ (m : ℕ × List Json). updates_in trail tree m.0 m.1)
    (λ m. keyless_entries (concerned_by trail tree) [] (entries_of trail m.0 m.1)) (items_at (codes "on") tree)

keyless_formats : (trail : Trail) (tree : Json) → AreKeyless (label_format_parts trail tree)
keyless_formats trail tree =
    some_keyless (λ (text : List ℕ). if is_label_format text then [] else part.Fault (place_of trail) Wrong ∷ [])
    (λ text. keyless_if_fault (is_label_format text) (place_of trail)) (text_in (out-Json tree))

keyless_read : (lengths : Bool) (trail : Trail) (o : Option Expr) → AreKeyless (read_parts lengths trail o)
keyless_read lengths trail None = (refl, tt)
keyless_read lengths trail (Some e) =
    if_keyless (has_domain_length e && not lengths) _ _ (refl, tt)
    (both_keyless (used_names for_.Signal trail (parameters_in e) ++ used_names for_.Store trail (selections_in e)) (used_names for_.Scale trail (scales_in e))
    (both_keyless (used_names for_.Signal trail (parameters_in e)) (used_names for_.Store trail (selections_in e))
    (keyless_names for_.Signal refl trail (parameters_in e)) (keyless_names for_.Store refl trail (selections_in e)))
    (keyless_names for_.Scale refl trail (scales_in e)))

keyless_expression : (lengths : Bool) (trail : Trail) (tree : Json) → AreKeyless (expression_parts lengths trail tree)
keyless_expression lengths trail tree =
    some_keyless (λ (text : List ℕ). read_parts lengths trail (expression_of text))
    (λ text. keyless_read lengths trail (expression_of text)) (text_in (out-Json tree))

keyless_scale : (trail : Trail) (tree : Json) → AreKeyless (scale_parts trail tree)
keyless_scale trail tree = some_keyless _ (λ (m : ℕ × List ℕ). (refl, tt)) (text_at (codes "name") tree)

no_source : (b : Bool) → is_source (if b then for_.SizedScale else for_.Scale) ≡ false
no_source true = refl
no_source false = refl

keyless_two : (a b : List ℕ) (trail : Trail) (tree : Json) → AreKeyless (two_scales a b trail tree)
keyless_two a b trail tree =
    both_keyless (used_member (for_legend trail) a trail tree) (used_member (for_legend trail) b trail tree)
    (keyless_use (for_legend trail) (no_source (has_layout (object_round trail))) a trail tree)
    (keyless_use (for_legend trail) (no_source (has_layout (object_round trail))) b trail tree)

keyless_plot : (trail : Trail) → AreKeyless (plot_parts trail)
keyless_plot trail = if_keyless (is_open_plot trail) _ [] (refl, tt) tt

keyless_mark : (trail : Trail) (tree : Json) → AreKeyless (mark_parts trail tree)
keyless_mark trail tree = (
  refl,
  both_keyless (plot_parts trail) (mark_faults trail tree) (keyless_plot trail)
      (both_keyless (beside_layout trail) (layout_in_plot trail tree)
      (if_keyless (not (is_object_itself trail) && has_layout (object_round trail)) _ [] (refl, tt) tt)
      (if_keyless (is_object_itself trail && not (has_layout (object_round trail))) _ [] (keyless_fault Unsupported (codes "layout") trail tree) tt)),
)

-- ---- parts by shapes

keyless_leaf : (shape : ℕ) (trail : Trail) (tree : Json) → AreKeyless (leaf_parts shape trail tree)
keyless_leaf shape trail tree =
    if_keyless (shape == EXPRESSION) _ _ (keyless_expression false trail tree)
    (if_keyless (shape == SIZE_EXPRESSION) _ _ (keyless_expression true trail tree)
    (if_keyless (shape == LABEL_FORMAT) _ _ (keyless_formats trail tree) tt))

keyless_uses : (shape : ℕ) (trail : Trail) (tree : Json) → AreKeyless (use_parts shape trail tree)
keyless_uses shape trail tree =
    if_keyless (shape == EXTENT) _ _ (keyless_use for_.Signal refl (codes "signal") trail tree)
    (if_keyless (shape == SCALE_DOMAIN || shape == REFERENCE) _ _ (keyless_use for_.Domain refl (codes "data") trail tree)
    (if_keyless (shape == MARK_FROM) _ _ (keyless_use for_.MarkRows refl (codes "data") trail tree) (keyless_leaf shape trail tree)))

keyless_guide : (shape : ℕ) (trail : Trail) (tree : Json) → AreKeyless (guide_parts shape trail tree)
keyless_guide shape trail tree =
    if_keyless (is_value shape || shape == AXIS) _ _ (keyless_use for_.Scale refl (codes "scale") trail tree)
    (if_keyless (is_size shape) _ _ (keyless_use (for_size trail) (no_source (is_plot (object_round trail))) (codes "scale") trail tree)
    (if_keyless (shape == LEGEND) _ _
    (both_keyless (two_scales (codes "fill") (codes "opacity") trail tree) (two_scales (codes "shape") (codes "size") trail tree)
    (keyless_two (codes "fill") (codes "opacity") trail tree) (keyless_two (codes "shape") (codes "size") trail tree))
    (keyless_uses shape trail tree)))

-- ---- facets

keyless_apart_list : (trail : Trail) (tree : Json) → AreKeyless (facet_faults trail tree)
keyless_apart_list trail tree =
    both_keyless (apart (codes "name") (codes "data") trail tree) (other_length (codes "headers") (codes "groupby") trail tree)
    (keyless_apart (codes "name") (codes "data") trail tree) (keyless_lengths (codes "headers") (codes "groupby") trail tree)

keyless_facet_item : (trail : Trail) (number : ℕ) (item : ℕ × Json) → AreKeyless (facet_item trail number item)
keyless_facet_item trail number item =
    some_keyless (λ (name : List ℕ). facet_name trail (grandchild trail number item.0) name) (λ name. (refl, (refl, tt))) (text_in (out-Json item.1))

keyless_facet_names_in : (trail : Trail) (number : ℕ) (o : Opened) → AreKeyless (facet_names_in trail number o)
keyless_facet_names_in trail number level.Null = tt
keyless_facet_names_in trail number (level.Flag b) = tt
keyless_facet_names_in trail number (level.Number n) = tt
keyless_facet_names_in trail number level.Huge = tt
keyless_facet_names_in trail number (level.Text t) = (refl, (refl, tt))
keyless_facet_names_in trail number (level.List items) =
    each_flat IsKeyless (facet_item trail number) (keyless_facet_item trail number) (enumerate_from 0 items)
keyless_facet_names_in trail number (level.Object ms) = tt

keyless_facet_rows_in : (trail : Trail) (number : ℕ) (o : Opened) → AreKeyless (facet_rows_in trail number o)
keyless_facet_rows_in trail number level.Null = tt
keyless_facet_rows_in trail number (level.Flag b) = tt
keyless_facet_rows_in trail number (level.Number n) = tt
keyless_facet_rows_in trail number level.Huge = tt
keyless_facet_rows_in trail number (level.Text t) = (refl, tt)
keyless_facet_rows_in trail number (level.List items) = keyless_items for_.FacetRows refl (object_round (group_of trail)) trail number items
keyless_facet_rows_in trail number (level.Object ms) = tt

keyless_header : (trail : Trail) (number : ℕ) (item : ℕ × Json) → AreKeyless (header trail number item)
keyless_header trail number item =
    some_keyless (λ (name : List ℕ). given given_as.Header (place_of trail) (place_of trail) (grandchild trail number item.0) name ∷ [])
    (λ name. (refl, tt)) (text_in (out-Json item.1))

keyless_facet : (trail : Trail) (tree : Json) → AreKeyless (facet_parts trail tree)
keyless_facet trail tree =
    both_keyless (facet_names_and_rows trail tree ++ headers trail tree) (facet_faults trail tree)
    (both_keyless (facet_names_and_rows trail tree) (headers trail tree)
    (both_keyless (facet_names trail tree) (facet_rows trail tree)
    (some_keyless (λ (m : ℕ × Json). facet_names_in trail m.0 (out-Json m.1))
    (λ m. keyless_facet_names_in trail m.0 (out-Json m.1)) (member_at (codes "name") tree))
    (some_keyless (λ (m : ℕ × Json). facet_rows_in trail m.0 (out-Json m.1))
    (λ m. keyless_facet_rows_in trail m.0 (out-Json m.1)) (member_at (codes "data") tree)))
    (some_keyless (λ (m : ℕ × List Json). headers_in trail m.0 m.1)
    (λ m. each_flat IsKeyless (header trail m.0) (keyless_header trail m.0) (enumerate_from 0 m.1)) (items_at (codes "headers") tree)))
    (keyless_apart_list trail tree)

-- ---- signals

keyless_on : (trail : Trail) (tree : Json) → AreKeyless (on_in_group trail tree)
keyless_on trail tree = if_keyless (is_top (object_round trail)) [] _ tt (keyless_fault Wrong (codes "on") trail tree)

keyless_marks : (trail : Trail) (tree : Json) → AreKeyless (mark_names trail tree)
keyless_marks trail tree =
    some_keyless (λ (m : ℕ × List Json). used_items for_.MarkBelow (object_round trail) trail m.0 m.1)
    (λ m. keyless_items for_.MarkBelow refl (object_round trail) trail m.0 m.1) (items_at (codes "marks") tree)

keyless_selector : (trail : Trail) (number : ℕ) (entry : ℕ × Json) → AreKeyless (selector trail number entry)
keyless_selector trail number entry =
    some_keyless (λ (m : ℕ × List ℕ).
    given given_as.Selector (place_of trail) (grandchild trail number entry.0) (grandchild trail number entry.0 ++ m.0 ∷ []) m.1 ∷ [])
    (λ m. (refl, tt)) (text_at (codes "events") entry.1)

keyless_selectors : (trail : Trail) (tree : Json) → AreKeyless (selectors trail tree)
keyless_selectors trail tree =
    some_keyless (λ (m : ℕ × List Json). selectors_in trail m.0 m.1)
    (λ m. each_flat IsKeyless (selector trail m.0) (keyless_selector trail m.0) (enumerate_from 0 m.1)) (items_at (codes "on") tree)

-- ---- keys by shapes

-- the things that a value of a shape can be
abbrev pub suits : Thing → ℕ → Bool
suits thing.Signal shape = shape == SIGNAL || shape == TRANSFORM
suits thing.Step shape = shape == TRANSFORM
suits thing.Source shape = shape == DATA
suits thing.Set shape = shape == DATA

-- where a part has a key, it is that of a thing at a place, which suits a shape
abbrev pub IsKeyed : List ℕ → ℕ → Part → Type 0
IsKeyed place shape p = IfSome (key_of p) (λ k. (t : Thing) × (k ≡ key t place) × (suits t shape ≡ true))

none_kept : (o : Option (List ℕ)) (P : List ℕ → Type 0) → is_none o ≡ true → IfSome o P
none_kept None P e = tt
none_kept (Some k) P e = absurd cc

keyless_keyed : (place : List ℕ) (shape : ℕ) (p : Part) → IsKeyless p → IsKeyed place shape p
keyless_keyed place shape p e = none_kept (key_of p) _ e

all_keyless : (place : List ℕ) (shape : ℕ) (parts : List Part) → AreKeyless parts → Each (IsKeyed place shape) parts
all_keyless place shape parts each = each_of IsKeyless (IsKeyed place shape) (keyless_keyed place shape) parts each

some_each : {A X : Type 0} (P : X → Type 0) (f : A → List X) → ((x : A) → Each P (f x)) → (o : Option A) → Each P (option_map_or f o [])
some_each P f each None = tt
some_each P f each (Some x) = each x

if_each : {X : Type 0} (P : X → Type 0) (b : Bool) (xs ys : List X) → Each P xs → Each P ys → Each P (if b then xs else ys)
if_each P true xs ys a b = a
if_each P false xs ys a b = b

-- the same where a test tells how
pub if_known : {X : Type 0} (P : X → Type 0) (b : Bool) (xs ys : List X) → (b ≡ true → Each P xs) → (b ≡ false → Each P ys) → Each P (if b then xs else ys)
if_known P true xs ys a b = a refl
if_known P false xs ys a b = b refl

keyed_set : (here : Around) (round : Trail) (tree : Json) → Each (IsKeyed (place_of (here ∷ round)) DATA) (data_parts (here ∷ round) tree)
keyed_set here round tree =
    let trail : Trail = here ∷ round in
    let P : Part → Type 0 = IsKeyed (place_of trail) DATA in
    each_append P (data_set trail ++ data_names trail tree ++ used_member for_.Source (codes "source") trail tree) (data_faults trail tree)
    (each_append P (data_set trail ++ data_names trail tree) (used_member for_.Source (codes "source") trail tree)
    (each_append P (data_set trail) (data_names trail tree) ((thing.Set, refl, refl), tt)
    (all_keyless (place_of trail) DATA (data_names trail tree)
    (some_keyless (λ (m : ℕ × List ℕ). data_name trail m ++ source_name trail tree m)
    (λ m. (refl, if_keyless (has_member (codes "source") tree) [] _ tt (refl, tt))) (text_at (codes "name") tree))))
    (some_each P (λ (m : ℕ × List ℕ). used for_.Source (scope_of trail) (child trail m.0) m.1 ∷ [])
    (λ m. ((thing.Source, ap (key thing.Source) (parent_child (place_of trail) m.0), refl), tt)) (text_at (codes "source") tree)))
    (all_keyless (place_of trail) DATA (data_faults trail tree)
    (both_keyless (transform_in_facet trail tree) (far_url trail tree)
    (if_keyless (is_faceted (object_round trail)) _ [] (keyless_fault Unsupported (codes "transform") trail tree) tt)
    (some_keyless _ (λ (m : ℕ × List ℕ). if_keyless (is_far m.1) (part.Fault (child trail m.0) Unsupported ∷ []) [] (refl, tt) tt)
    (text_at (codes "url") tree))))

keyless_longer : (count : ℕ) (name : List ℕ) (trail : Trail) (tree : Json) → AreKeyless (longer_list count name trail tree)
keyless_longer count name trail tree =
    some_keyless _ (λ (m : ℕ × List Json). if_keyless (nat_lt count (length m.1)) (part.Fault (child trail m.0) Wrong ∷ []) [] (refl, tt) tt)
    (items_at name tree)

keyless_aggregate : (o : Option ℕ) (trail : Trail) (tree : Json) → AreKeyless (aggregate_lists o trail tree)
keyless_aggregate None trail tree = tt
keyless_aggregate (Some count) trail tree =
    both_keyless (longer_list count (codes "fields") trail tree) (longer_list count (codes "as") trail tree)
    (keyless_longer count (codes "fields") trail tree) (keyless_longer count (codes "as") trail tree)

keyless_window : (o : Option ℕ) (trail : Trail) (tree : Json) → AreKeyless (window_lists o trail tree)
keyless_window None trail tree = tt
keyless_window (Some count) trail tree =
    both_keyless (longer_list count (codes "fields") trail tree ++ longer_list count (codes "params") trail tree) (longer_list count (codes "as") trail tree)
    (both_keyless (longer_list count (codes "fields") trail tree) (longer_list count (codes "params") trail tree)
    (keyless_longer count (codes "fields") trail tree) (keyless_longer count (codes "params") trail tree))
    (keyless_longer count (codes "as") trail tree)

keyed_step : (trail : Trail) (tree : Json) → Each (IsKeyed (place_of trail) TRANSFORM) (transform_parts trail tree)
keyed_step trail tree =
    let P : Part → Type 0 = IsKeyed (place_of trail) TRANSFORM in
    let Q : (ps : List Part) → AreKeyless ps → Each P ps = all_keyless (place_of trail) TRANSFORM in
    each_append P (step trail) (by_type trail tree) ((thing.Step, refl, refl), tt)
    (if_each P (says_text (codes "type") (codes "extent") tree) _ _
    (some_each P (λ (m : ℕ × List ℕ). given given_as.Signal (scope_of trail) (place_of trail) (child trail m.0) m.1 ∷ [])
    (λ m. ((thing.Signal, refl, refl), tt)) (text_at (codes "signal") tree))
    (if_each P (says_text (codes "type") (codes "lookup") tree) _ _
    (Q (lookup_parts trail tree) (both_keyless (used_member for_.From (codes "from") trail tree) (other_length (codes "as") (codes "values") trail tree)
    (keyless_use for_.From refl (codes "from") trail tree) (keyless_lengths (codes "as") (codes "values") trail tree)))
    (if_each P (says_text (codes "type") (codes "fold") tree) _ _
    (Q (fold_fields trail tree) (some_keyless _ (λ (m : ℕ × List Json). (refl, tt)) (items_at (codes "fields") tree)))
    (if_each P (says_text (codes "type") (codes "window") tree) _ _
    (Q (window_lists (count_of_window tree) trail tree) (keyless_window (count_of_window tree) trail tree))
    (if_each P (says_text (codes "type") (codes "aggregate") tree || says_text (codes "type") (codes "joinaggregate") tree) _ _
    (Q (aggregate_lists (count_of_ops tree) trail tree) (keyless_aggregate (count_of_ops tree) trail tree)) tt)))))

keyed_signal : (trail : Trail) (tree : Json) → Each (IsKeyed (place_of trail) SIGNAL) (signal_parts trail tree)
keyed_signal trail tree =
    let P : Part → Type 0 = IsKeyed (place_of trail) SIGNAL in
    let Q : (ps : List Part) → AreKeyless ps → Each P ps = all_keyless (place_of trail) SIGNAL in
    each_append P (signal_itself trail tree ++ selectors trail tree) (update_parts trail tree)
    (each_append P (signal_itself trail tree) (selectors trail tree)
    (each_append P (signal_names trail tree ++ on_in_group trail tree) (mark_names trail tree)
    (each_append P (signal_names trail tree) (on_in_group trail tree)
    (some_each P (λ (m : ℕ × List ℕ). signal_name trail m ++ store_name trail tree m)
    (λ m. ((thing.Signal, refl, refl), if_each P (has_member (codes "on") tree && is_top (object_round trail)) _ [] (tt, tt) tt)) (text_at (codes "name") tree))
    (Q (on_in_group trail tree) (keyless_on trail tree)))
    (Q (mark_names trail tree) (keyless_marks trail tree)))
    (Q (selectors trail tree) (keyless_selectors trail tree)))
    (Q (update_parts trail tree) (keyless_updates trail tree))

same_code : (a b : ℕ) → (a == b) ≡ true → a ≡ b
same_code a b e = grind (arith, nat_tests)

-- what a value gives itself has keys that suit its shape, with its place
pub keyed_here : (number shape : ℕ) (tree : Json) (round : Trail)
    → Each (IsKeyed (place_of (noted number shape tree ∷ round)) shape) (parts_at (noted number shape tree ∷ round) tree)
keyed_here number shape tree round =
    if_known P (shape == DATA) _ _ (λ e. subst (λ s. Each (IsKeyed (place_of trail) s) (data_parts trail tree))
    (sym (same_code shape DATA e)) (keyed_set (noted number shape tree) round tree)) (λ a.
    if_known P (shape == TRANSFORM) _ _ (λ e.
    subst (λ s. Each (IsKeyed (place_of trail) s) (transform_parts trail tree)) (sym (same_code shape TRANSFORM e)) (keyed_step trail tree)) (λ b.
    if_each P (shape == SORT) _ _ (Q (sort_parts trail tree) (keyless_sort trail tree))
    (if_known P (shape == SIGNAL) _ _
    (λ e. subst (λ s. Each (IsKeyed (place_of trail) s) (signal_parts trail tree)) (sym (same_code shape SIGNAL e)) (keyed_signal trail tree)) (λ c.
    if_each P (shape == TOP) _ _ (Q (plot_parts trail) (keyless_plot trail))
    (if_each P (shape == MARK) _ _ (Q (mark_parts trail tree) (keyless_mark trail tree))
    (if_each P (shape == FACET) _ _ (Q (facet_parts trail tree) (keyless_facet trail tree))
    (if_each P (shape == SCALE) _ _ (Q (scale_parts trail tree) (keyless_scale trail tree))
    (Q (guide_parts shape trail tree) (keyless_guide shape trail tree)))))))))
  where
    trail : Trail
    trail = noted number shape tree ∷ round

    P : Part → Type 0
    P = IsKeyed (place_of trail) shape

    Q : (ps : List Part) → AreKeyless ps → Each P ps
    Q = all_keyless (place_of trail) shape
