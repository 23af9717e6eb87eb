-- Transforms and data sets that stand in a specification without faults.
use Rattle.std.proofs.Common.{◌≡◌, ℕ, ℤ, pos, List, [], ◌∷◌, map, length, cond, find, refl, sym, ap, subst, ◌∙◌, arith, ◌+◌}
use Rattle.std.specs.Prelude.{Option, Some, None, Bool, true, false, ◌==◌, nat_eq, int_lt, ◌&&◌, ◌||◌, IfSome, IsTrue, codes, unwrap_or}
use Rattle.std.specs.Prelude.{if◌then◌else◌, bytes_eq}
use Rattle.std.specs.Option.{option_map, option_map_or, option_and_then, is_some}
use Rattle.std.specs.List.{list_any, enumerate_from}
use Rattle.std.proofs.lemmas.Bool.Decides.{nat_tests}
use Rattle.std.proofs.lemmas.List.{length-map}
use Rattle.json_exact.specs.declared.json.Json.{Json, out-Json}
use Rattle.json_exact.specs.declared.json.Json.TheOpen as level
use Rattle.json_exact.specs.declared.json.Member.{Member}
use Rattle.json_exact.specs.Inside.{number_in, members_in, text_in, items_in}
use Rattle.json_exact.specs.Path.{member_value}
use Rattle.spec_schema.specs.declared.form.Form.{Form}
use Rattle.spec_schema.specs.declared.form.Form.TheVariants as form
use Rattle.spec_schema.specs.declared.layout.Layout.{Layout}
use Rattle.spec_schema.specs.Values.{Opened, text_passes, list_passes, object_passes, has_length}
use Rattle.spec_schema.specs.Layouts.{shape_in, layout_in, says}
use Rattle.spec_schema.specs.Forms.{taken_form, items_shape}
use Rattle.spec_schema.specs.Faults.{members_of as members_opened}
use Rattle.spec_schema.specs.Tables.{must}
use Rattle.vega_schema.specs.declared.codes.TheConstants.{TRANSFORM, TRANSFORMS, DATA, STEP, TEXTS, NOTHING}
use Rattle.vega_schema.specs.Schema.{vega_schema}
use Rattle.vega_schema.specs.Shapes.{leaves, named as named_shapes, lists, objects, MAX_LENGTH}
use Rattle.vega_schema.specs.Guides.{group_mark, axis, legend, grid_layout, top}
use Rattle.vega_schema.specs.Sources.{data_set, data_format, parse, sort, extent_signal}
use Rattle.vega_schema.specs.Transforms.{filter, formula, extent, bin, time_unit, stack, fold}
use Rattle.vega_schema.specs.Groupings.{aggregate, join_aggregate, window, lookup, no_transform}
use Rattle.vega_schema.specs.Signals.{signal, on_event, expression_signal}
use Rattle.vega_schema.specs.Scales.{linear_scale, time_scale, band_scale, point_scale, ordinal_scale, no_scale}
use Rattle.vega_schema.specs.Domains.{domain_of_signal, domain_of_field, domain_of_fields, reference, sort_by_operation, sort_by_cells}
use Rattle.vega_schema.specs.PlainMarks.{rect_mark, symbol_mark, line_mark, area_mark, rule_mark, text_mark}
use Rattle.vega_schema.specs.Marks.{mark_from, group_from, facet, cross, encode, no_mark}
use Rattle.vega_schema.specs.Channels.{channel_members, value, words_value}
use Rattle.vega_schema.specs.Sizes.{size_signal, group_encode, group_channels, size_value}
use Rattle.vega_parts.specs.declared.part.Used.TheVariants as for_
use Rattle.vega_parts.specs.declared.part.Part.TheVariants as part
use Rattle.spec_schema.specs.declared.spec_error.SpecKind.TheVariants.{Wrong}
use Rattle.vega_parts.specs.Trails.{Trail, noted, child}
use Rattle.vega_parts.specs.Members.{named, member_at, items_at, says_text}
use Rattle.vega_parts.specs.Names.{used_member}
use Rattle.vega_parts.specs.Lengths.{other_length, unequal}
use Rattle.vega_parts.specs.Transforms.{by_type, step as step_part, lookup_parts, fold_fields, window_lists, aggregate_lists}
use Rattle.vega_parts.specs.Transforms.{count_of_window, count_of_ops, extent_name}
use Rattle.vega_parts.specs.Parts.{parts_at}
use Rattle.vega_rules.specs.Rules.{shown}
use Rattle.vega_spec.specs.declared.transforms.Transform.{Transform}
use Rattle.vega_building.specs.Parts.{found_at, number_at, text_at, text_of, members_of}
use Rattle.vega_building.specs.Transforms.{transform_of, transform_by}
use Rattle.vega_building.specs.Sources.{data_set_of}
use Rattle.vega_lists.specs.Transforms.{is_kept, OfTransforms}
use Rattle.vega_standing.proofs.Stands.{Stands, StandsObject, formed, quiet_here, quiet_parts}
use Rattle.vega_standing.proofs.Shapes.{if_taken, form_taken, step}
use Rattle.vega_standing.proofs.Members.{Laid, laid_out, opened_as, found_as, reads_kept, required, says_is, list_kept}
use Rattle.vega_standing.proofs.Scales.{nothing_stands}

-- ---- members with their numbers

named_value : (n : ℕ) (name : List ℕ) (ms : List Member) →
    option_map (λ (m : ℕ × Json). m.1)
    (option_map (λ (m : ℕ × Member). (m.0, m.1.value)) (find (λ (m : ℕ × Member). bytes_eq m.1.name name) (enumerate_from n ms)))
    ≡ member_value ms name
named_value n name [] = refl
named_value n name (m ∷ ms) = by_name (bytes_eq m.name name) (named_value (n + 1) name ms)
  where
    by_name : (b : Bool) → option_map (λ (m : ℕ × Json). m.1)
        (option_map (λ (m : ℕ × Member). (m.0, m.1.value)) (find (λ (m : ℕ × Member). bytes_eq m.1.name name) (enumerate_from (n + 1) ms)))
        ≡ member_value ms name → option_map (λ (m : ℕ × Json). m.1) (option_map (λ (m : ℕ × Member). (m.0, m.1.value))
        (cond b (Some (n, m)) (find (λ (m : ℕ × Member). bytes_eq m.1.name name) (enumerate_from (n + 1) ms))))
        ≡ option_map (λ (m : Member). m.value) (cond b (Some m) (find (λ (m : Member). bytes_eq m.name name) ms))
    by_name true rest = refl
    by_name false rest = rest

module _ (tree : Json) (ms : List Member) (is : out-Json tree ≡ level.Object ms) where
  pub member_is : (name : List ℕ) → option_map (λ (m : ℕ × Json). m.1) (member_at name tree) ≡ member_value ms name
  member_is name = ap (λ o. option_map (λ (m : ℕ × Json). m.1) (named name (members_opened o))) is ∙ named_value 0 name ms

  pub says_member : (name text : List ℕ) → says_text name text tree ≡ option_map_or (λ v. text_passes (bytes_eq text) (out-Json v)) (member_value ms name) false
  says_member name text = by_member (member_at name tree) (member_value ms name) (member_is name)
    where
      by_member : (o : Option (ℕ × Json)) (p : Option Json) → option_map (λ (m : ℕ × Json). m.1) o ≡ p →
          option_map_or (λ (m : ℕ × Json). text_passes (bytes_eq text) (out-Json m.1)) o false
          ≡ option_map_or (λ v. text_passes (bytes_eq text) (out-Json v)) p false
      by_member None None e = refl
      by_member None (Some v) e = absurd cc
      by_member (Some m) None e = absurd cc
      by_member (Some m) (Some v) e = let same : m.1 ≡ v = cc in ap (λ x. text_passes (bytes_eq text) (out-Json x)) same

  pub items_are : (name : List ℕ) → option_map (λ (m : ℕ × List Json). m.1) (items_at name tree) ≡ found_at items_in ms name
  items_are name = by_member (member_at name tree) ∙ ap (λ o. option_and_then (λ v. items_in (out-Json v)) o) (member_is name)
    where
      by_member : (o : Option (ℕ × Json)) →
          option_map (λ (m : ℕ × List Json). m.1) (option_and_then (λ (m : ℕ × Json). option_map (λ items. (m.0, items)) (items_in (out-Json m.1))) o)
          ≡ option_and_then (λ v. items_in (out-Json v)) (option_map (λ (m : ℕ × Json). m.1) o)
      by_member None = refl
      by_member (Some m) = by_items (items_in (out-Json m.1))
        where
          by_items : (o : Option (List Json)) → option_map (λ (m : ℕ × List Json). m.1) (option_map (λ items. (m.0, items)) o) ≡ o
          by_items None = refl
          by_items (Some items) = refl

-- ---- lookups

same_lengths : (m n : ℕ) → (m == n) ≡ true → nat_eq m n ≡ true
same_lengths m n e = grind (arith, nat_tests)

equal_lengths : (m : ℕ) → nat_eq m m ≡ true
equal_lengths m = grind (arith, nat_tests)

if_equal : (trail : Trail) (number : ℕ) (b : Bool) → shown (if b then [] else part.Fault (child trail number) Wrong ∷ []) ≡ [] → b ≡ true
if_equal trail number true e = refl
if_equal trail number false e = absurd cc

abbrev named_by : Option (List Json) → Option (List (List ℕ))
named_by o = option_map (map text_of) o

lengths_go : (trail : Trail) (a v : Option (ℕ × List Json)) →
    shown (option_map_or (λ (m : ℕ × List Json). option_map_or (λ (n : ℕ × List Json). unequal trail m.0 (length m.1) (length n.1)) v []) a []) ≡ [] →
    is_some v ≡ true →
    nat_eq (length (unwrap_or (named_by (option_map (λ (m : ℕ × List Json). m.1) a)) (unwrap_or (named_by (option_map (λ (m : ℕ × List Json). m.1) v)) [])))
    (length (unwrap_or (named_by (option_map (λ (m : ℕ × List Json). m.1) v)) [])) ≡ true
lengths_go trail None v quiet there = equal_lengths _
lengths_go trail (Some a) None quiet there = absurd cc
lengths_go trail (Some a) (Some v) quiet there =
    let same : (length a.1 == length v.1) ≡ true = if_equal trail a.0 (length a.1 == length v.1) quiet in
    rw (length-map a.1 text_of, length-map v.1 text_of) (same_lengths (length a.1) (length v.1) same)

pub texts_form : (o : Opened) (f : Form) → taken_form vega_schema TEXTS o ≡ Some f → list_passes (has_length 0 MAX_LENGTH) o ≡ true
unfolding vega_schema leaves named_shapes lists objects
texts_form o f e = if_taken _ _ f e

pub a_list : (o : Opened) → list_passes (has_length 0 MAX_LENGTH) o ≡ true → is_some (items_in o) ≡ true
a_list level.Null e = absurd cc
a_list (level.Flag b) e = absurd cc
a_list (level.Number n) e = absurd cc
a_list level.Huge e = absurd cc
a_list (level.Text t) e = absurd cc
a_list (level.List items) e = refl
a_list (level.Object ms) e = absurd cc

pub mapped_some : {A B : Type 0} (f : A → B) (o : Option A) → is_some o ≡ is_some (option_map f o)
mapped_some f None = refl
mapped_some f (Some x) = refl

-- ---- by layouts

pub one_layout : (P : Layout → Type 0) (a : Bool) (here l : Layout) (rest : Option Layout) → cond (a && true) (Some here) rest ≡ Some l →
    (a ≡ true → P here) → (rest ≡ Some l → P l) → P l
one_layout P true here l rest e p q = let same : here ≡ l = cc in subst P same (p refl)
one_layout P false here l rest e p q = q e

pub last_layout : (P : Layout → Type 0) (here l : Layout) → Some here ≡ Some l → P here → P l
last_layout P here l e p = let same : here ≡ l = cc in subst P same p

module _ (round : Trail) (number : ℕ) (tree : Json) (s : Stands round number TRANSFORM tree) (ms : List Member) (is : out-Json tree ≡ level.Object ms) where
  abbrev trail : Trail
  trail = noted number TRANSFORM tree ∷ round

  abbrev Kept : Layout → Type 0
  Kept l = StandsObject trail l ms → is_kept (transform_of ms) ≡ true

  -- a transform by what its type says
  typed : (l : Layout) (word : List ℕ) → StandsObject trail l ms → list_any (says (codes "type") word) ms ≡ true →
      is_kept (transform_of ms) ≡ is_kept (transform_by word ms)
  typed l word o e = ap (λ t. is_kept (transform_by (unwrap_or t []) ms)) (says_is ms (codes "type") word o.own e)

  step_or : (o : Option ℤ) → IfSome o (λ n. int_lt (pos 0) n ≡ true) → option_map_or (int_lt (pos 0)) o true ≡ true
  step_or None e = refl
  step_or (Some n) e = e

  kept_bin : list_any (says (codes "type") (codes "bin")) ms ≡ true → Kept bin
  unfolding bin
  kept_bin e o = typed bin (codes "bin") o e
      ∙ step_or (number_at ms (codes "step"))
      (reads_kept (λ n. int_lt (pos 0) n ≡ true) number_in trail bin ms (codes "step") STEP o refl (λ i v t. step trail i v t))

  quiet : shown (parts_at trail tree) ≡ []
  quiet = quiet_here round number TRANSFORM tree s

  pub says_type : (word other : List ℕ) → text_at ms (codes "type") ≡ Some word → says_text (codes "type") other tree ≡ bytes_eq other word
  says_type word other e = says_member tree ms is (codes "type") other ∙ by_value (member_value ms (codes "type")) e
    where
      by_text : (o : Opened) → text_in o ≡ Some word → text_passes (bytes_eq other) o ≡ bytes_eq other word
      by_text level.Null e = absurd cc
      by_text (level.Flag b) e = absurd cc
      by_text (level.Number n) e = absurd cc
      by_text level.Huge e = absurd cc
      by_text (level.Text t) e = let same : t ≡ word = cc in ap (bytes_eq other) same
      by_text (level.List items) e = absurd cc
      by_text (level.Object ms) e = absurd cc

      by_value : (o : Option Json) → option_and_then (λ v. text_in (out-Json v)) o ≡ Some word →
          option_map_or (λ v. text_passes (bytes_eq other) (out-Json v)) o false ≡ bytes_eq other word
      by_value None e = absurd cc
      by_value (Some v) e = by_text (out-Json v) e

  -- what a lookup gives
  pub lookup_is : text_at ms (codes "type") ≡ Some (codes "lookup") → by_type trail tree ≡ lookup_parts trail tree
  lookup_is e =
      ap (λ b. if b then extent_name trail tree
      else (if says_text (codes "type") (codes "lookup") tree then lookup_parts trail tree
      else (if says_text (codes "type") (codes "fold") tree then fold_fields trail tree
      else (if says_text (codes "type") (codes "window") tree then window_lists (count_of_window tree) trail tree
      else (if says_text (codes "type") (codes "aggregate") tree || says_text (codes "type") (codes "joinaggregate") tree
      then aggregate_lists (count_of_ops tree) trail tree else []))))) (says_type (codes "lookup") (codes "extent") e)
      ∙ ap (λ b. if b then lookup_parts trail tree
      else (if says_text (codes "type") (codes "fold") tree then fold_fields trail tree
      else (if says_text (codes "type") (codes "window") tree then window_lists (count_of_window tree) trail tree
      else (if says_text (codes "type") (codes "aggregate") tree || says_text (codes "type") (codes "joinaggregate") tree
      then aggregate_lists (count_of_ops tree) trail tree else [])))) (says_type (codes "lookup") (codes "lookup") e)

  lookup_quiet : text_at ms (codes "type") ≡ Some (codes "lookup") → shown (other_length (codes "as") (codes "values") trail tree) ≡ []
  lookup_quiet e =
      let inner : shown (by_type trail tree) ≡ [] = (quiet_parts (step_part trail) (by_type trail tree) quiet).1 in
      (quiet_parts (used_member for_.From (codes "from") trail tree)
      (other_length (codes "as") (codes "values") trail tree) (ap shown (sym (lookup_is e)) ∙ inner)).1

  kept_lookup : list_any (says (codes "type") (codes "lookup")) ms ≡ true → Kept lookup
  unfolding lookup
  kept_lookup e o =
      let text : text_at ms (codes "type") ≡ Some (codes "lookup") = says_is ms (codes "type") (codes "lookup") o.own e in
      let v : (v : Json) × (member_value ms (codes "values") ≡ Some v) =
      required trail lookup ms (codes "values") (must (codes "values") TEXTS) o refl refl refl in
      let stands : (i : ℕ) × Stands trail i TEXTS v.0 = found_as trail lookup ms (codes "values") v.0 TEXTS o refl v.1 in
      let form = formed TEXTS v.0 stands.1.fine in
      let listed : is_some (items_in (out-Json v.0)) ≡ true = a_list (out-Json v.0) (texts_form (out-Json v.0) form.0 form.1) in
      let there : is_some (items_at (codes "values") tree) ≡ true =
      mapped_some (λ (m : ℕ × List Json). m.1) (items_at (codes "values") tree)
      ∙ ap is_some (items_are tree ms is (codes "values") ∙ ap (λ o. option_and_then (λ v. items_in (out-Json v)) o) v.1) ∙ listed in
      let go = lengths_go trail (items_at (codes "as") tree) (items_at (codes "values") tree) (lookup_quiet text) there in
      typed lookup (codes "lookup") o e
      ∙ (λ i. nat_eq (length
      (unwrap_or (named_by (sym (items_are tree ms is (codes "as")) i)) (unwrap_or (named_by (sym (items_are tree ms is (codes "values")) i)) [])))
      (length (unwrap_or (named_by (sym (items_are tree ms is (codes "values")) i)) [])))
      ∙ go

  unknown : Kept no_transform
  unfolding no_transform
  unknown o =
      let v : (v : Json) × (member_value ms (codes "type") ≡ Some v) =
      required trail no_transform ms (codes "type") (must (codes "type") NOTHING) o refl refl refl in
      let stands : (i : ℕ) × Stands trail i NOTHING v.0 = found_as trail no_transform ms (codes "type") v.0 NOTHING o refl v.1 in
      absurd (nothing_stands trail stands.0 v.0 stands.1)

  by_transform : (l : Layout) → layout_in vega_schema TRANSFORM ms ≡ Some l → Kept l
  unfolding vega_schema group_mark axis legend grid_layout top data_set data_format parse sort extent_signal
      filter formula extent bin time_unit stack fold aggregate join_aggregate window lookup no_transform signal on_event expression_signal
      linear_scale time_scale band_scale point_scale ordinal_scale no_scale domain_of_signal domain_of_field domain_of_fields reference
      sort_by_operation sort_by_cells rect_mark symbol_mark line_mark area_mark rule_mark text_mark mark_from group_from facet cross
      encode no_mark channel_members value words_value size_signal group_encode group_channels size_value
  by_transform l e =
      let a : List ℕ → Bool = λ word. list_any (says (codes "type") word) ms in
      one_layout Kept (a (codes "filter")) filter l _ e (λ t o. typed filter (codes "filter") o t) (λ e.
      one_layout Kept (a (codes "formula")) formula l _ e (λ t o. typed formula (codes "formula") o t) (λ e.
      one_layout Kept (a (codes "extent")) extent l _ e (λ t o. typed extent (codes "extent") o t) (λ e.
      one_layout Kept (a (codes "bin")) bin l _ e kept_bin (λ e.
      one_layout Kept (a (codes "timeunit")) time_unit l _ e (λ t o. typed time_unit (codes "timeunit") o t) (λ e.
      one_layout Kept (a (codes "stack")) stack l _ e (λ t o. typed stack (codes "stack") o t) (λ e.
      one_layout Kept (a (codes "fold")) fold l _ e (λ t o. typed fold (codes "fold") o t) (λ e.
      one_layout Kept (a (codes "aggregate")) aggregate l _ e (λ t o. typed aggregate (codes "aggregate") o t) (λ e.
      one_layout Kept (a (codes "joinaggregate")) join_aggregate l _ e (λ t o. typed join_aggregate (codes "joinaggregate") o t) (λ e.
      one_layout Kept (a (codes "window")) window l _ e (λ t o. typed window (codes "window") o t) (λ e.
      one_layout Kept (a (codes "lookup")) lookup l _ e kept_lookup (λ e.
      last_layout Kept no_transform l e unknown)))))))))))

pub transform_taken : (o : Opened) (f : Form) → taken_form vega_schema TRANSFORM o ≡ Some f →
    (object_passes (λ members. is_some (layout_in vega_schema TRANSFORM members)) o ≡ true) × (form.Object TRANSFORM ≡ f)
unfolding vega_schema leaves named_shapes lists objects
transform_taken o f e = (
  if_taken (object_passes (λ members. is_some (layout_in vega_schema TRANSFORM members)) o) _ f e,
  form_taken (object_passes (λ members. is_some (layout_in vega_schema TRANSFORM members)) o) _ f e,
)

-- each transform is one that charts ask
pub transform_kept : (round : Trail) (number : ℕ) (tree : Json) → Stands round number TRANSFORM tree → IsTrue (is_kept (transform_of (members_of tree)))
transform_kept round number tree s =
    let form = formed TRANSFORM tree s.fine in
    let ms : (ms : List Member) × (out-Json tree ≡ level.Object ms) = opened_as TRANSFORM (out-Json tree) (transform_taken (out-Json tree) form.0 form.1).0 in
    let l : Laid round number TRANSFORM TRANSFORM tree ms.0 =
    laid_out round number TRANSFORM TRANSFORM tree ms.0 s ms.1 (λ f e. transform_taken (level.Object ms.0) f e) in
    let same : members_of tree ≡ ms.0 = ap (λ o. unwrap_or (members_in o) []) ms.1 in
    let P : List Member → Type 0 = λ m. IsTrue (is_kept (transform_of m)) in
    subst P (sym same) (by_transform round number tree s ms.0 ms.1 l.layout l.applies l.stands)

pub transforms_listed : (items : List Json) (f : Form) → taken_form vega_schema TRANSFORMS (level.List items) ≡ Some f → items_shape f ≡ Some TRANSFORM
unfolding vega_schema leaves named_shapes lists objects
transforms_listed items f e = ap items_shape (sym (form_taken (has_length 0 MAX_LENGTH items) _ f e))

pub data_taken : (o : Opened) (f : Form) → taken_form vega_schema DATA o ≡ Some f →
    (object_passes (λ members. is_some (layout_in vega_schema DATA members)) o ≡ true) × (form.Object DATA ≡ f)
unfolding vega_schema leaves named_shapes lists objects
data_taken o f e = (
  if_taken (object_passes (λ members. is_some (layout_in vega_schema DATA members)) o) _ f e,
  form_taken (object_passes (λ members. is_some (layout_in vega_schema DATA members)) o) _ f e,
)

pub data_layout : (ms : List Member) → layout_in vega_schema DATA ms ≡ Some data_set
unfolding vega_schema group_mark axis legend grid_layout top data_set data_format parse sort extent_signal
    filter formula extent bin time_unit stack fold aggregate join_aggregate window lookup no_transform signal on_event expression_signal
    linear_scale time_scale band_scale point_scale ordinal_scale no_scale domain_of_signal domain_of_field domain_of_fields reference
    sort_by_operation sort_by_cells rect_mark symbol_mark line_mark area_mark rule_mark text_mark mark_from group_from facet cross
    encode no_mark channel_members value words_value size_signal group_encode group_channels size_value
data_layout ms = refl

pub data_transforms : shape_in data_set (codes "transform") ≡ Some TRANSFORMS
unfolding data_set
data_transforms = refl

-- the transforms of each data set are such
pub data_kept : (round : Trail) (number : ℕ) (tree : Json) → Stands round number DATA tree → OfTransforms is_kept (data_set_of (members_of tree))
data_kept round number tree s =
    let form = formed DATA tree s.fine in
    let ms : (ms : List Member) × (out-Json tree ≡ level.Object ms) = opened_as DATA (out-Json tree) (data_taken (out-Json tree) form.0 form.1).0 in
    let l : Laid round number DATA DATA tree ms.0 = laid_out round number DATA DATA tree ms.0 s ms.1 (λ f e. data_taken (level.Object ms.0) f e) in
    let is : l.layout ≡ data_set = let a = l.applies in let b = data_layout ms.0 in cc in
    let same : members_of tree ≡ ms.0 = ap (λ o. unwrap_or (members_in o) []) ms.1 in
    let P : List Member → Type 0 = λ m. OfTransforms is_kept (data_set_of m) in
    let o : StandsObject (noted number DATA tree ∷ round) data_set ms.0 = subst (λ x. StandsObject (noted number DATA tree ∷ round) x ms.0) is l.stands in
    subst P (sym same) (list_kept (λ (t : Transform). IsTrue (is_kept t)) (λ t. transform_of (members_of t))
    (noted number DATA tree ∷ round) data_set ms.0 (codes "transform") TRANSFORMS TRANSFORM
    o data_transforms transforms_listed (λ r i v t. transform_kept r i v t))
