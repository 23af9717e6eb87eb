-- Parts that have no share in the folds of data sets.
use Rattle.std.proofs.Common.{◌≡◌, ℕ, List, [], ◌∷◌, ◌++◌, flat_map, refl, ap}
use Rattle.std.specs.Prelude.{Option, Some, None, Bool, true, false, not, ◌&&◌, ◌||◌, ◌==◌, codes, length, if◌then◌else◌}
use Rattle.std.specs.Option.{option_map_or}
use Rattle.std.specs.List.{enumerate_from}
use Rattle.json_exact.specs.declared.json.Json.{Json, out-Json}
use Rattle.spec_schema.specs.declared.spec_error.SpecKind.{SpecKind}
use Rattle.spec_schema.specs.declared.spec_error.SpecKind.TheVariants.{Wrong, Unsupported}
use Rattle.json_exact.specs.Inside.{text_in}
use Rattle.expr_syntax.specs.declared.expr.Expr.{Expr}
use Rattle.expr_syntax.specs.Expressions.{has_domain_length}
use Rattle.expr_reading.specs.Readings.{expression_of}
use Rattle.expr_reading.specs.Mentions.{parameters_in, selections_in, scales_in}
use Rattle.vega_schema.specs.declared.codes.TheConstants.{AXIS, DATA, EXPRESSION, EXTENT, FACET, LABEL_FORMAT, LEGEND, MARK, MARK_FROM}
use Rattle.vega_schema.specs.declared.codes.TheConstants.{REFERENCE, SCALE, SCALE_DOMAIN, SIGNAL, SIZE_EXPRESSION, SORT, TOP, TRANSFORM}
use Rattle.vega_parts.specs.declared.part.Part.{Part}
use Rattle.vega_parts.specs.declared.part.Part.TheVariants as part
use Rattle.vega_parts.specs.declared.part.Given.{Given}
use Rattle.vega_parts.specs.declared.part.Given.TheVariants as given_as
use Rattle.vega_parts.specs.declared.part.Used.{Used}
use Rattle.vega_parts.specs.declared.part.Used.TheVariants as for_
use Rattle.vega_parts.specs.Trails.{Trail, place_of, scope_of, child, grandchild, object_round, is_top, is_plot, has_layout, is_object_itself}
use Rattle.vega_parts.specs.Members.{text_at, member_at, items_at, has_member}
use Rattle.vega_parts.specs.Names.{given, used, used_member, fault_member, used_item, used_items, used_names}
use Rattle.vega_parts.specs.Lengths.{unequal, other_length, unlike, apart, go_together, text_count_at, sort_parts}
use Rattle.vega_parts.specs.Signals.{signal_name, store_name, signal_names, on_in_group, mark_names, selector, selectors_in, selectors}
use Rattle.vega_parts.specs.declared.selections.Entry.{Entry}
use Rattle.vega_parts.specs.declared.selections.Concerned.{Concerned}
use Rattle.vega_parts.specs.declared.updates.Update.{Update}
use Rattle.vega_parts.specs.Updates.{fields_of, is_drag}
use Rattle.vega_parts.specs.Selections.{entries_of, is_wrong_entry, entry_fault, intervals_in, intervals_of, entry_intervals, entry_parts}
use Rattle.vega_parts.specs.Selections.{entries_parts, concerned_by, updates_in, update_parts}
use Rattle.vega_parts.specs.LabelFormats.{is_label_format, label_format_parts}
use Rattle.vega_parts.specs.Expressions.{read_parts, expression_parts}
use Rattle.vega_parts.specs.Scales.{scale_parts, for_size, for_legend, two_scales}
use Rattle.vega_parts.specs.Marks.{plot_parts, is_open_plot, beside_layout, layout_in_plot, mark_faults, mark_parts}
use Rattle.vega_parts.specs.Parts.{signal_itself, signal_parts, leaf_parts, use_parts, guide_parts, by_shape, is_value, is_size}
use Rattle.vega_rules.specs.Folds.{is_source}
use Rattle.vega_standing.proofs.Trees.{Each}

-- ---- lists

pub each_append : {X : Type 0} (P : X → Type 0) (xs ys : List X) → Each P xs → Each P ys → Each P (xs ++ ys)
each_append P [] ys a b = b
each_append P (x ∷ xs) ys a b = (a.0, each_append P xs ys a.1 b)

pub each_of : {X : Type 0} (P Q : X → Type 0) → ((x : X) → P x → Q x) → (xs : List X) → Each P xs → Each Q xs
each_of P Q f [] a = tt
each_of P Q f (x ∷ xs) a = (f x a.0, each_of P Q f xs a.1)

pub each_flat : {X Y : Type 0} (P : Y → Type 0) (f : X → List Y) → ((x : X) → Each P (f x)) → (xs : List X) → Each P (flat_map f xs)
each_flat P f each [] = tt
each_flat P f each (x ∷ xs) = each_append P (f x) (flat_map f xs) (each x) (each_flat P f each xs)

-- ---- quiet parts

-- a name of this kind stands for no rows
abbrev pub is_quiet_name : Given → Bool
is_quiet_name given_as.Data = false
is_quiet_name given_as.Source = true
is_quiet_name given_as.Facet = false
is_quiet_name given_as.Signal = true
is_quiet_name given_as.Store = true
is_quiet_name given_as.Scale = true
is_quiet_name given_as.FacetName = true
is_quiet_name given_as.Selector = true
is_quiet_name given_as.Header = true

-- a part that is no data set, no fold, no source and no name of rows
abbrev pub is_quiet : Part → Bool
is_quiet (part.Given g) = is_quiet_name g.kind
is_quiet (part.Used u) = not (is_source u.kind)
is_quiet (part.Data at) = false
is_quiet (part.Fold at set fields) = false
is_quiet (part.Fault at kind) = true
is_quiet (part.Mark at scope name group) = true
is_quiet (part.Plot at) = true
is_quiet (part.Step at set) = true
is_quiet (part.Interval at scope scale marks) = true

abbrev pub IsQuiet : Part → Type 0
IsQuiet p = is_quiet p ≡ true

abbrev pub AreQuiet : List Part → Type 0
AreQuiet parts = Each IsQuiet parts

pub both_quiet : (xs ys : List Part) → AreQuiet xs → AreQuiet ys → AreQuiet (xs ++ ys)
both_quiet xs ys a b = each_append IsQuiet xs ys a b

pub if_quiet : (b : Bool) (xs ys : List Part) → AreQuiet xs → AreQuiet ys → AreQuiet (if b then xs else ys)
if_quiet true xs ys a b = a
if_quiet false xs ys a b = b

pub else_quiet : (b : Bool) (xs ys : List Part) → b ≡ false → AreQuiet ys → AreQuiet (if b then xs else ys)
else_quiet true xs ys e b = absurd cc
else_quiet false xs ys e b = b

pub some_quiet : {A : Type 0} (f : A → List Part) → ((x : A) → AreQuiet (f x)) → (o : Option A) → AreQuiet (option_map_or f o [])
some_quiet f each None = tt
some_quiet f each (Some x) = each x

-- ---- parts by their definitions

pub quiet_use : (kind : Used) → is_source kind ≡ false → (name : List ℕ) (trail : Trail) (tree : Json) → AreQuiet (used_member kind name trail tree)
quiet_use kind other name trail tree =
    some_quiet (λ (m : ℕ × List ℕ). used kind (scope_of trail) (child trail m.0) m.1 ∷ []) (λ m. (ap not other, tt)) (text_at name tree)

quiet_item : (kind : Used) → is_source kind ≡ false → (object trail : Trail) (number : ℕ) (item : ℕ × Json) → AreQuiet (used_item kind object trail number item)
quiet_item kind other object trail number item =
    some_quiet (λ (name : List ℕ). used kind (place_of object) (grandchild trail number item.0) name ∷ [])
    (λ name. (ap not other, tt)) (text_in (out-Json item.1))

pub quiet_items : (kind : Used) → is_source kind ≡ false →
    (object trail : Trail) (number : ℕ) (items : List Json) → AreQuiet (used_items kind object trail number items)
quiet_items kind other object trail number items =
    each_flat IsQuiet (used_item kind object trail number) (quiet_item kind other object trail number) (enumerate_from 0 items)

quiet_names : (kind : Used) → is_source kind ≡ false → (trail : Trail) (names : List (List ℕ)) → AreQuiet (used_names kind trail names)
quiet_names kind other trail [] = tt
quiet_names kind other trail (name ∷ names) = (ap not other, quiet_names kind other trail names)

pub quiet_fault : (kind : SpecKind) (name : List ℕ) (trail : Trail) (tree : Json) → AreQuiet (fault_member kind name trail tree)
quiet_fault kind name trail tree = some_quiet (λ (m : ℕ × Json). part.Fault (child trail m.0) kind ∷ []) (λ m. (refl, tt)) (member_at name tree)

quiet_if_fault : (b : Bool) (at : List ℕ) → AreQuiet (if b then [] else part.Fault at Wrong ∷ [])
quiet_if_fault true at = tt
quiet_if_fault false at = (refl, tt)

pub quiet_lengths : (name other : List ℕ) (trail : Trail) (tree : Json) → AreQuiet (other_length name other trail tree)
quiet_lengths name other trail tree =
    some_quiet (λ (m : ℕ × List Json). option_map_or (λ (n : ℕ × List Json). unequal trail m.0 (length m.1) (length n.1)) (items_at other tree) [])
    (λ m. some_quiet (λ (n : ℕ × List Json). unequal trail m.0 (length m.1) (length n.1))
    (λ n. quiet_if_fault (length m.1 == length n.1) (child trail m.0)) (items_at other tree))
    (items_at name tree)

pub quiet_apart : (name other : List ℕ) (trail : Trail) (tree : Json) → AreQuiet (apart name other trail tree)
quiet_apart name other trail tree =
    some_quiet (λ (m : ℕ × Json). option_map_or (λ (n : ℕ × Json). unlike trail m.0 m.1 n.1) (member_at other tree) [])
    (λ m. some_quiet (λ (n : ℕ × Json). unlike trail m.0 m.1 n.1)
    (λ n. quiet_if_fault (go_together (out-Json n.1) (out-Json m.1)) (child trail m.0)) (member_at other tree))
    (member_at name tree)

quiet_sort : (trail : Trail) (tree : Json) → AreQuiet (sort_parts trail tree)
quiet_sort trail tree =
    some_quiet (λ (m : ℕ × ℕ). option_map_or (λ (n : ℕ × ℕ). unequal trail m.0 m.1 n.1) (text_count_at (codes "field") tree) [])
    (λ m. some_quiet (λ (n : ℕ × ℕ). unequal trail m.0 m.1 n.1) (λ n. quiet_if_fault (m.1 == n.1) (child trail m.0)) (text_count_at (codes "field") tree))
    (text_count_at (codes "order") tree)

quiet_signal_names : (trail : Trail) (tree : Json) → AreQuiet (signal_names trail tree)
quiet_signal_names trail tree =
    some_quiet (λ (m : ℕ × List ℕ). signal_name trail m ++ store_name trail tree m)
    (λ m. (refl, if_quiet (has_member (codes "on") tree && is_top (object_round trail)) _ [] (refl, tt) tt)) (text_at (codes "name") tree)

quiet_marks : (trail : Trail) (tree : Json) → AreQuiet (mark_names trail tree)
quiet_marks trail tree =
    some_quiet (λ (m : ℕ × List Json). used_items for_.MarkBelow (object_round trail) trail m.0 m.1)
    (λ m. quiet_items for_.MarkBelow refl (object_round trail) trail m.0 m.1) (items_at (codes "marks") tree)

quiet_selector : (trail : Trail) (number : ℕ) (entry : ℕ × Json) → AreQuiet (selector trail number entry)
quiet_selector trail number entry =
    some_quiet (λ (m : ℕ × List ℕ).
    given given_as.Selector (place_of trail) (grandchild trail number entry.0) (grandchild trail number entry.0 ++ m.0 ∷ []) m.1 ∷ [])
    (λ m. (refl, tt)) (text_at (codes "events") entry.1)

quiet_selectors : (trail : Trail) (tree : Json) → AreQuiet (selectors trail tree)
quiet_selectors trail tree =
    some_quiet (λ (m : ℕ × List Json). selectors_in trail m.0 m.1)
    (λ m. each_flat IsQuiet (selector trail m.0) (quiet_selector trail m.0) (enumerate_from 0 m.1)) (items_at (codes "on") tree)

-- ---- what selections give

quiet_scales : (concerned : Concerned) (at : List ℕ) (fields : List (List ℕ)) → AreQuiet (intervals_in concerned at fields)
quiet_scales concerned at [] = tt
quiet_scales concerned at (x ∷ []) = tt
quiet_scales concerned at (x ∷ s ∷ []) = tt
quiet_scales concerned at (x ∷ s ∷ f ∷ []) = (refl, tt)
quiet_scales concerned at (x ∷ s ∷ f ∷ y ∷ []) = tt
quiet_scales concerned at (x ∷ s ∷ f ∷ y ∷ t ∷ []) = tt
quiet_scales concerned at (x ∷ s ∷ f ∷ y ∷ t ∷ g ∷ []) = (refl, (refl, tt))
quiet_scales concerned at (x ∷ s ∷ f ∷ y ∷ t ∷ g ∷ h ∷ rest) = tt

quiet_entry : (concerned : Concerned) (earlier : List Entry) (entry : Entry) → AreQuiet (entry_parts concerned earlier entry)
quiet_entry concerned earlier entry =
    both_quiet (entry_fault concerned.own earlier entry) (entry_intervals concerned entry)
    (if_quiet (is_wrong_entry concerned.own earlier entry) (part.Fault entry.at Wrong ∷ []) [] (refl, tt) tt)
    (some_quiet (λ (u : Update). intervals_of concerned entry.at u) (λ (u : Update).
    if_quiet (is_drag u.change) (intervals_in concerned entry.at (fields_of u)) [] (quiet_scales concerned entry.at (fields_of u)) tt) entry.update)

quiet_entries : (concerned : Concerned) (earlier entries : List Entry) → AreQuiet (entries_parts concerned earlier entries)
quiet_entries concerned earlier [] = tt
quiet_entries concerned earlier (entry ∷ later) =
    both_quiet (entry_parts concerned earlier entry) (entries_parts concerned (earlier ++ entry ∷ []) later)
    (quiet_entry concerned earlier entry) (quiet_entries concerned (earlier ++ entry ∷ []) later)

quiet_updates : (trail : Trail) (tree : Json) → AreQuiet (update_parts trail tree)
quiet_updates trail tree =
    some_quiet (λ (m : ℕ × List Json). updates_in trail tree m.0 m.1)
    (λ m. quiet_entries (concerned_by trail tree) [] (entries_of trail m.0 m.1)) (items_at (codes "on") tree)

quiet_formats : (trail : Trail) (tree : Json) → AreQuiet (label_format_parts trail tree)
quiet_formats trail tree =
    some_quiet (λ (text : List ℕ). if is_label_format text then [] else part.Fault (place_of trail) Wrong ∷ [])
    (λ text. quiet_if_fault (is_label_format text) (place_of trail)) (text_in (out-Json tree))

quiet_signal : (trail : Trail) (tree : Json) → AreQuiet (signal_parts trail tree)
quiet_signal trail tree =
    both_quiet (signal_itself trail tree ++ selectors trail tree) (update_parts trail tree)
    (both_quiet (signal_itself trail tree) (selectors trail tree)
    (both_quiet (signal_names trail tree ++ on_in_group trail tree) (mark_names trail tree)
    (both_quiet (signal_names trail tree) (on_in_group trail tree) (quiet_signal_names trail tree)
    (if_quiet (is_top (object_round trail)) [] _ tt (quiet_fault Wrong (codes "on") trail tree)))
    (quiet_marks trail tree))
    (quiet_selectors trail tree))
    (quiet_updates trail tree)

quiet_read : (lengths : Bool) (trail : Trail) (o : Option Expr) → AreQuiet (read_parts lengths trail o)
quiet_read lengths trail None = (refl, tt)
quiet_read lengths trail (Some e) =
    if_quiet (has_domain_length e && not lengths) _ _ (refl, tt)
    (both_quiet (used_names for_.Signal trail (parameters_in e) ++ used_names for_.Store trail (selections_in e)) (used_names for_.Scale trail (scales_in e))
    (both_quiet (used_names for_.Signal trail (parameters_in e)) (used_names for_.Store trail (selections_in e))
    (quiet_names for_.Signal refl trail (parameters_in e)) (quiet_names for_.Store refl trail (selections_in e)))
    (quiet_names for_.Scale refl trail (scales_in e)))

quiet_expression : (lengths : Bool) (trail : Trail) (tree : Json) → AreQuiet (expression_parts lengths trail tree)
quiet_expression lengths trail tree =
    some_quiet (λ (text : List ℕ). read_parts lengths trail (expression_of text))
    (λ text. quiet_read lengths trail (expression_of text)) (text_in (out-Json tree))

quiet_scale : (trail : Trail) (tree : Json) → AreQuiet (scale_parts trail tree)
quiet_scale trail tree = some_quiet _ (λ (m : ℕ × List ℕ). (refl, tt)) (text_at (codes "name") tree)

no_source : (b : Bool) → is_source (if b then for_.SizedScale else for_.Scale) ≡ false
no_source true = refl
no_source false = refl

quiet_two : (a b : List ℕ) (trail : Trail) (tree : Json) → AreQuiet (two_scales a b trail tree)
quiet_two a b trail tree =
    both_quiet (used_member (for_legend trail) a trail tree) (used_member (for_legend trail) b trail tree)
    (quiet_use (for_legend trail) (no_source (has_layout (object_round trail))) a trail tree)
    (quiet_use (for_legend trail) (no_source (has_layout (object_round trail))) b trail tree)

quiet_plot : (trail : Trail) → AreQuiet (plot_parts trail)
quiet_plot trail = if_quiet (is_open_plot trail) _ [] (refl, tt) tt

quiet_mark : (trail : Trail) (tree : Json) → AreQuiet (mark_parts trail tree)
quiet_mark trail tree = (
  refl,
  both_quiet (plot_parts trail) (mark_faults trail tree) (quiet_plot trail)
      (both_quiet (beside_layout trail) (layout_in_plot trail tree)
      (if_quiet (not (is_object_itself trail) && has_layout (object_round trail)) _ [] (refl, tt) tt)
      (if_quiet (is_object_itself trail && not (has_layout (object_round trail))) _ [] (quiet_fault Unsupported (codes "layout") trail tree) tt)),
)

-- ---- parts by shapes

quiet_leaf : (shape : ℕ) (trail : Trail) (tree : Json) → AreQuiet (leaf_parts shape trail tree)
quiet_leaf shape trail tree =
    if_quiet (shape == EXPRESSION) _ _ (quiet_expression false trail tree)
    (if_quiet (shape == SIZE_EXPRESSION) _ _ (quiet_expression true trail tree)
    (if_quiet (shape == LABEL_FORMAT) _ _ (quiet_formats trail tree) tt))

quiet_uses : (shape : ℕ) (trail : Trail) (tree : Json) → AreQuiet (use_parts shape trail tree)
quiet_uses shape trail tree =
    if_quiet (shape == EXTENT) _ _ (quiet_use for_.Signal refl (codes "signal") trail tree)
    (if_quiet (shape == SCALE_DOMAIN || shape == REFERENCE) _ _ (quiet_use for_.Domain refl (codes "data") trail tree)
    (if_quiet (shape == MARK_FROM) _ _ (quiet_use for_.MarkRows refl (codes "data") trail tree) (quiet_leaf shape trail tree)))

quiet_guide : (shape : ℕ) (trail : Trail) (tree : Json) → AreQuiet (guide_parts shape trail tree)
quiet_guide shape trail tree =
    if_quiet (is_value shape || shape == AXIS) _ _ (quiet_use for_.Scale refl (codes "scale") trail tree)
    (if_quiet (is_size shape) _ _ (quiet_use (for_size trail) (no_source (is_plot (object_round trail))) (codes "scale") trail tree)
    (if_quiet (shape == LEGEND) _ _
    (both_quiet (two_scales (codes "fill") (codes "opacity") trail tree) (two_scales (codes "shape") (codes "size") trail tree)
    (quiet_two (codes "fill") (codes "opacity") trail tree) (quiet_two (codes "shape") (codes "size") trail tree))
    (quiet_uses shape trail tree)))

-- a value that is no data set, no transform and no facet gives quiet parts itself
pub quiet_shape : (shape : ℕ) → (shape == DATA) ≡ false → (shape == TRANSFORM) ≡ false → (shape == FACET) ≡ false → (trail : Trail) (tree : Json) →
    AreQuiet (by_shape shape trail tree)
quiet_shape shape no_set no_step no_facet trail tree =
    else_quiet (shape == DATA) _ _ no_set
    (else_quiet (shape == TRANSFORM) _ _ no_step
    (if_quiet (shape == SORT) _ _ (quiet_sort trail tree)
    (if_quiet (shape == SIGNAL) _ _ (quiet_signal trail tree)
    (if_quiet (shape == TOP) _ _ (quiet_plot trail)
    (if_quiet (shape == MARK) _ _ (quiet_mark trail tree)
    (else_quiet (shape == FACET) _ _ no_facet
    (if_quiet (shape == SCALE) _ _ (quiet_scale trail tree) (quiet_guide shape trail tree))))))))
