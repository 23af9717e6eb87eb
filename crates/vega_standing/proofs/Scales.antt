-- Scales that stand in a specification without faults.
use Rattle.std.proofs.Common.{◌≡◌, ℕ, ℤ, List, [], ◌∷◌, map, cond, refl, sym, ap, subst, ◌∙◌, ◌⊎◌, inl, inr}
use Rattle.std.specs.Prelude.{Option, Some, None, Bool, true, false, not, ◌==◌, ◌&&◌, ◌||◌, IfSome, IsTrue, codes, unwrap_or}
use Rattle.std.specs.Option.{option_map, option_and_then, is_some}
use Rattle.std.specs.List.{list_any}
use Rattle.std.proofs.lemmas.Bool.{and_parts as both}
use Rattle.json_exact.specs.declared.json.Json.{Json, out-Json}
use Rattle.json_exact.specs.declared.json.Json.TheOpen as level
use Rattle.json_exact.specs.declared.json.Member.{Member}
use Rattle.json_exact.specs.Inside.{number_in, members_in}
use Rattle.json_exact.specs.Path.{member_value}
use Rattle.case_table.specs.Names.{index_of, scale_kinds}
use Rattle.cell_value.specs.declared.cell.Cell.{Cell}
use Rattle.cell_value.specs.declared.cell.Cell.TheVariants as cell
use Rattle.spec_schema.specs.declared.form.Form.{Form}
use Rattle.spec_schema.specs.declared.form.Form.TheVariants as form
use Rattle.spec_schema.specs.declared.form.Shape.{Shape}
use Rattle.spec_schema.specs.declared.layout.Layout.{Layout}
use Rattle.spec_schema.specs.declared.layout.Rule.{Rule}
use Rattle.spec_schema.specs.Values.{Opened, text_passes, list_passes, object_passes, among, is_pair, is_number, has_length}
use Rattle.spec_schema.specs.Layouts.{shape_in, rule_in, layout_in, says}
use Rattle.spec_schema.specs.Forms.{taken_form, items_shape}
use Rattle.spec_schema.specs.Tables.{must}
use Rattle.vega_schema.specs.declared.codes.TheConstants.{SCALE, SCALE_DOMAIN, SHARE, CONTINUOUS_RANGE, DISCRETE_RANGE, ORDINAL_RANGE}
use Rattle.vega_schema.specs.declared.codes.TheConstants.{RANGE_NUMBER, RANGE_ITEM, NOTHING, CONTINUOUS_NAMES, DISCRETE_NAMES}
use Rattle.vega_schema.specs.declared.codes.TheConstants.{ORDINAL_NAMES}
use Rattle.vega_schema.specs.Schema.{vega_schema}
use Rattle.vega_schema.specs.Shapes.{leaves, named, lists, objects, MAX_LENGTH}
use Rattle.vega_schema.specs.Words.{continuous_names, discrete_names, ordinal_names}
use Rattle.vega_schema.specs.Guides.{group_mark, axis, legend, grid_layout, top}
use Rattle.vega_schema.specs.Sources.{data_set, data_format, parse, sort, extent_signal}
use Rattle.vega_schema.specs.Transforms.{filter, formula, extent, bin, time_unit, stack, fold}
use Rattle.vega_schema.specs.Groupings.{aggregate, join_aggregate, window, lookup, no_transform}
use Rattle.vega_schema.specs.Signals.{signal, on_event, expression_signal}
use Rattle.vega_schema.specs.Scales.{linear_scale, time_scale, band_scale, point_scale, ordinal_scale, no_scale}
use Rattle.vega_schema.specs.Domains.{domain_of_signal, domain_of_field, domain_of_fields, reference, sort_by_operation, sort_by_cells}
use Rattle.vega_schema.specs.PlainMarks.{rect_mark, symbol_mark, line_mark, area_mark, rule_mark, text_mark}
use Rattle.vega_schema.specs.Marks.{mark_from, group_from, facet, cross, encode, no_mark}
use Rattle.vega_schema.specs.Channels.{channel_members, value, words_value}
use Rattle.vega_schema.specs.Sizes.{size_signal, group_encode, group_channels, size_value}
use Rattle.vega_parts.specs.Trails.{Trail, noted}
use Rattle.vega_spec.specs.declared.scales.Scale.{Scale as VegaScale}
use Rattle.vega_spec.specs.declared.scales.Range.{Range}
use Rattle.vega_spec.specs.declared.scales.Range.TheVariants as range
use Rattle.vega_spec.specs.declared.domains.Domain.{Domain}
use Rattle.vega_spec.specs.declared.domains.Domain.TheVariants as domain
use Rattle.vega_building.specs.Parts.{cell_of, cell_in, members_of}
use Rattle.vega_building.specs.Names.{needed_scale_kind}
use Rattle.vega_building.specs.Domains.{domain_in}
use Rattle.vega_building.specs.Scales.{range_in, range_named, needed_range, scale_of}
use Rattle.scale_kit.specs.Scale.{IsPadding, IsRange, IsPixel}
use Rattle.vega_scales.specs.Scales.{is_ramp, has_ends, has_entries, fits_range, given_ends, is_domain_built, KeepsBounds}
use Rattle.vega_scales.specs.Scales as scaling
use Rattle.vega_standing.specs.OwnNames.{AreOwn}
use Rattle.vega_standing.proofs.Stands.{Stands, StandsObject, formed, list_stands}
use Rattle.vega_standing.proofs.Shapes.{if_taken, form_taken, share, place}
use Rattle.vega_standing.proofs.Members.{Laid, laid_out, opened_as, found_as, reads_kept, required, says_is, among_each}
use Rattle.vega_standing.proofs.Domains.{domain_kept}

-- ---- ranges

-- the first of two forms that a value has
either_form : (a b : Bool) (s t : Shape) (f : Form) → option_map (λ (s : Shape). s.form) (cond a (Some s) (cond b (Some t) None)) ≡ Some f →
    ((a ≡ true) × (s.form ≡ f)) ⊎ ((b ≡ true) × (t.form ≡ f))
either_form true b s t f e = inl (refl, cc)
either_form false true s t f e = inr (refl, cc)
either_form false false s t f e = absurd cc

-- a range of places, or a ramp
pub record IsPlaces (r : Range) : Type 0 where
  pub fits : (is_ramp r || has_ends r) ≡ true
  pub ends : IfSome (given_ends r) IsRange

-- two numbers in a list
number_of : (o : Opened) → is_number o ≡ true → (n : ℤ) × (o ≡ level.Number n)
number_of level.Null e = absurd cc
number_of (level.Flag b) e = absurd cc
number_of (level.Number n) e = (n, refl)
number_of level.Huge e = absurd cc
number_of (level.Text t) e = absurd cc
number_of (level.List items) e = absurd cc
number_of (level.Object members) e = absurd cc

pixel : (round : Trail) (i : ℕ) (v : Json) (n : ℤ) → out-Json v ≡ level.Number n → Stands round i RANGE_NUMBER v → IsPixel n
pixel round i v n is s =
    let P : Opened → Type 0 = λ o. IfSome (number_in o) IsPixel in
    subst P is (place round i v s)

two_places : (round : Trail) (number shape : ℕ) (tree : Json) (items : List Json) (f : Form) →
    Stands round number shape tree → out-Json tree ≡ level.List items →
    taken_form vega_schema shape (level.List items) ≡ Some f → items_shape f ≡ Some RANGE_NUMBER → is_pair items ≡ true →
    (m : ℤ) × (n : ℤ) × (map cell_of items ≡ cell.Number m ∷ cell.Number n ∷ []) × IsPixel m × IsPixel n
two_places round number shape tree [] f s is taken asks e = absurd cc
two_places round number shape tree (a ∷ []) f s is taken asks e = absurd cc
two_places round number shape tree (a ∷ b ∷ []) f s is taken asks e =
    let numbers = both (is_number (out-Json a)) (is_number (out-Json b)) e in
    let m : (n : ℤ) × (out-Json a ≡ level.Number n) = number_of (out-Json a) numbers.0 in
    let n : (n : ℤ) × (out-Json b ≡ level.Number n) = number_of (out-Json b) numbers.1 in
    let each = list_stands round number shape tree (a ∷ b ∷ []) f RANGE_NUMBER s is taken asks in
    let first : cell_of a ≡ cell.Number m.0 = ap (λ o. unwrap_or (cell_in o) cell.Null) m.1 in
    let second : cell_of b ≡ cell.Number n.0 = ap (λ o. unwrap_or (cell_in o) cell.Null) n.1 in
    (m.0, n.0, (λ i. first i ∷ second i ∷ []), pixel _ 0 a m.0 m.1 each.0, pixel _ 1 b n.0 n.1 each.1.0)
two_places round number shape tree (a ∷ b ∷ c ∷ items) f s is taken asks e = absurd cc

places_of_two : (cells : List Cell) (m n : ℤ) → cells ≡ cell.Number m ∷ cell.Number n ∷ [] → IsPixel m → IsPixel n → IsPlaces (range.Cells cells)
places_of_two cells m n is a b =
    let P : List Cell → Type 0 = λ cs. IsPlaces (range.Cells cs) in
    subst P (sym is) (record { fits = refl; ends = (a, b) })

abbrev Named : List ℕ → Type 0
Named text = (r : Range) × (range_named text ≡ Some r) × IsPlaces r

named_continuous : (t : List ℕ) → among continuous_names t ≡ true → Named t
unfolding continuous_names
named_continuous t e = among_each Named continuous_names t (
  (range.Width, refl, record { fits = refl; ends = tt }),
  ((range.Height, refl, record { fits = refl; ends = tt }), ((range.Ramp, refl, record { fits = refl; ends = tt }), tt)),
) e

-- the range of a band has no ramp
pub record IsPlain (r : Range) : Type 0 where
  pub fits : has_ends r ≡ true
  pub ends : IfSome (given_ends r) IsRange

abbrev NamedPlain : List ℕ → Type 0
NamedPlain text = (r : Range) × (range_named text ≡ Some r) × IsPlain r

named_discrete : (t : List ℕ) → among discrete_names t ≡ true → NamedPlain t
unfolding discrete_names
named_discrete t e = among_each NamedPlain discrete_names t
    ((range.Width, refl, record { fits = refl; ends = tt }), ((range.Height, refl, record { fits = refl; ends = tt }), tt)) e

abbrev NamedEntries : List ℕ → Type 0
NamedEntries text = (r : Range) × (range_named text ≡ Some r) × (has_entries r ≡ true)

named_ordinal : (t : List ℕ) → among ordinal_names t ≡ true → NamedEntries t
unfolding ordinal_names
named_ordinal t e = among_each NamedEntries ordinal_names t
    ((range.Category, refl, refl), ((range.Ramp, refl, refl), ((range.Symbol, refl, refl), tt))) e

-- what forms the ranges have
continuous_forms : (o : Opened) (f : Form) → taken_form vega_schema CONTINUOUS_RANGE o ≡ Some f →
    ((list_passes is_pair o ≡ true) × (form.Pair RANGE_NUMBER ≡ f)) ⊎ ((text_passes (among continuous_names) o ≡ true) × (form.Name CONTINUOUS_NAMES ≡ f))
unfolding vega_schema leaves named lists objects
continuous_forms o f e = either_form _ _ _ _ f e

discrete_forms : (o : Opened) (f : Form) → taken_form vega_schema DISCRETE_RANGE o ≡ Some f →
    ((list_passes is_pair o ≡ true) × (form.Pair RANGE_NUMBER ≡ f)) ⊎ ((text_passes (among discrete_names) o ≡ true) × (form.Name DISCRETE_NAMES ≡ f))
unfolding vega_schema leaves named lists objects
discrete_forms o f e = either_form _ _ _ _ f e

ordinal_forms : (o : Opened) (f : Form) → taken_form vega_schema ORDINAL_RANGE o ≡ Some f →
    ((list_passes (has_length 1 MAX_LENGTH) o ≡ true) × (form.List 1 MAX_LENGTH RANGE_ITEM ≡ f))
    ⊎ ((text_passes (among ordinal_names) o ≡ true) × (form.Name ORDINAL_NAMES ≡ f))
unfolding vega_schema leaves named lists objects
ordinal_forms o f e = either_form _ _ _ _ f e

abbrev ReadAs : (Range → Type 0) → Opened → Type 0
ReadAs P o = (r : Range) × (range_in o ≡ Some r) × P r

-- a list of two numbers, or a name
by_form : (P : Range → Type 0) (round : Trail) (number shape : ℕ) (tree : Json) (names : List (List ℕ)) (code : ℕ) (f : Form) → Stands round number shape tree →
    ((t : List ℕ) → among names t ≡ true → (r : Range) × (range_named t ≡ Some r) × P r) →
    ((m n : ℤ) → IsPixel m → IsPixel n → P (range.Cells (cell.Number m ∷ cell.Number n ∷ []))) →
    (o : Opened) → out-Json tree ≡ o → taken_form vega_schema shape o ≡ Some f →
    ((list_passes is_pair o ≡ true) × (form.Pair RANGE_NUMBER ≡ f)) ⊎ ((text_passes (among names) o ≡ true) × (form.Name code ≡ f)) → ReadAs P o
by_form P round number shape tree names code f s called paired level.Null is taken (inl e) = absurd (let x = e.0 in cc)
by_form P round number shape tree names code f s called paired level.Null is taken (inr e) = absurd (let x = e.0 in cc)
by_form P round number shape tree names code f s called paired (level.Flag b) is taken (inl e) = absurd (let x = e.0 in cc)
by_form P round number shape tree names code f s called paired (level.Flag b) is taken (inr e) = absurd (let x = e.0 in cc)
by_form P round number shape tree names code f s called paired (level.Number n) is taken (inl e) = absurd (let x = e.0 in cc)
by_form P round number shape tree names code f s called paired (level.Number n) is taken (inr e) = absurd (let x = e.0 in cc)
by_form P round number shape tree names code f s called paired level.Huge is taken (inl e) = absurd (let x = e.0 in cc)
by_form P round number shape tree names code f s called paired level.Huge is taken (inr e) = absurd (let x = e.0 in cc)
by_form P round number shape tree names code f s called paired (level.Object ms) is taken (inl e) = absurd (let x = e.0 in cc)
by_form P round number shape tree names code f s called paired (level.Object ms) is taken (inr e) = absurd (let x = e.0 in cc)
by_form P round number shape tree names code f s called paired (level.Text t) is taken (inl e) = absurd (let x = e.0 in cc)
by_form P round number shape tree names code f s called paired (level.Text t) is taken (inr e) = called t e.0
by_form P round number shape tree names code f s called paired (level.List items) is taken (inr e) = absurd (let x = e.0 in cc)
by_form P round number shape tree names code f s called paired (level.List items) is taken (inl e) =
    let two = two_places round number shape tree items f s is taken (ap items_shape (sym e.1)) e.0 in
    let Q : List Cell → Type 0 = λ cells. P (range.Cells cells) in
    (range.Cells (map cell_of items), refl, subst Q (sym two.2) (paired two.0 two.1 two.3 two.4))

continuous : (round : Trail) (number : ℕ) (tree : Json) → Stands round number CONTINUOUS_RANGE tree → ReadAs IsPlaces (out-Json tree)
continuous round number tree s =
    let form = formed CONTINUOUS_RANGE tree s.fine in
    by_form IsPlaces round number CONTINUOUS_RANGE tree continuous_names CONTINUOUS_NAMES form.0 s named_continuous
    (λ m n a b. record { fits = refl; ends = (a, b) }) (out-Json tree) refl form.1 (continuous_forms (out-Json tree) form.0 form.1)

discrete : (round : Trail) (number : ℕ) (tree : Json) → Stands round number DISCRETE_RANGE tree → ReadAs IsPlain (out-Json tree)
discrete round number tree s =
    let form = formed DISCRETE_RANGE tree s.fine in
    by_form IsPlain round number DISCRETE_RANGE tree discrete_names DISCRETE_NAMES form.0 s named_discrete
    (λ m n a b. record { fits = refl; ends = (a, b) }) (out-Json tree) refl form.1 (discrete_forms (out-Json tree) form.0 form.1)

entries : (o : Opened) → (list_passes (has_length 1 MAX_LENGTH) o ≡ true) ⊎ (text_passes (among ordinal_names) o ≡ true) → ReadAs (λ r. has_entries r ≡ true) o
entries level.Null (inl e) = absurd cc
entries level.Null (inr e) = absurd cc
entries (level.Flag b) (inl e) = absurd cc
entries (level.Flag b) (inr e) = absurd cc
entries (level.Number n) (inl e) = absurd cc
entries (level.Number n) (inr e) = absurd cc
entries level.Huge (inl e) = absurd cc
entries level.Huge (inr e) = absurd cc
entries (level.Object ms) (inl e) = absurd cc
entries (level.Object ms) (inr e) = absurd cc
entries (level.Text t) (inl e) = absurd cc
entries (level.Text t) (inr e) = named_ordinal t e
entries (level.List []) (inl e) = absurd (let f : false ≡ true = e in cc)
entries (level.List (item ∷ items)) (inl e) = (range.Cells (map cell_of (item ∷ items)), refl, refl)
entries (level.List items) (inr e) = absurd cc

one_of_both : {A B C D : Type 0} → (A × B) ⊎ (C × D) → A ⊎ C
one_of_both (inl x) = inl x.0
one_of_both (inr x) = inr x.0

with_entries : (round : Trail) (number : ℕ) (tree : Json) → Stands round number ORDINAL_RANGE tree → ReadAs (λ r. has_entries r ≡ true) (out-Json tree)
with_entries round number tree s =
    let form = formed ORDINAL_RANGE tree s.fine in
    entries (out-Json tree) (one_of_both (ordinal_forms (out-Json tree) form.0 form.1))

-- ---- scales

pub record KeepsScale (s : VegaScale) : Type 0 where
  pub built : IsTrue (scaling.is_built s)
  pub domain : IsTrue (is_domain_built s.domain)
  pub bounds : KeepsBounds s

-- what a range has by the kind of a scale
pub record FitsKind (kind : ℕ) (r : Range) : Type 0 where
  pub fits : fits_range kind r ≡ true
  pub ends : (kind == scaling.ordinal) ≡ false → IfSome (given_ends r) IsRange

-- the members of a scale that every layout has alike
pub record ScaleRules (l : Layout) : Type 0 where
  pub domain : shape_in l (codes "domain") ≡ Some SCALE_DOMAIN
  pub both : shape_in l (codes "padding") ≡ Some SHARE
  pub inner : shape_in l (codes "paddingInner") ≡ Some SHARE
  pub outer : shape_in l (codes "paddingOuter") ≡ Some SHARE

built_by : (kind : ℕ) (r : Range) (d : Bool) → fits_range kind r ≡ true → d ≡ true →
    (fits_range kind r && (not (kind == 2 || (kind == 3 || kind == 4)) || d)) ≡ true
built_by kind r d fits built = rw (fits, built) (or_true (not (kind == 2 || (kind == 3 || kind == 4))))
  where
    or_true : (b : Bool) → (b || true) ≡ true
    or_true true = refl
    or_true false = refl

domain_or : (o : Option Domain) → IfSome o (λ d. IsTrue (is_domain_built d)) → IsTrue (is_domain_built (unwrap_or o (domain.Cells [])))
domain_or None e = refl
domain_or (Some d) e = e

module _ (trail : Trail) (l : Layout) (ms : List Member) (s : StandsObject trail l ms) where
  -- a scale of a kind over a range of its kind
  scale_kept : (kind shape : ℕ) (rule : Rule) → ScaleRules l → needed_scale_kind ms (codes "type") ≡ kind →
      shape_in l (codes "range") ≡ Some shape → rule_in l.rules (codes "range") ≡ Some rule → rule.required ≡ true → rule.name ≡ codes "range" →
      ((i : ℕ) (v : Json) → Stands trail i shape v → ReadAs (FitsKind kind) (out-Json v)) → KeepsScale (scale_of ms)
  scale_kept kind shape rule rules is ruled there wanted named_so reads =
      let v : (v : Json) × (member_value ms (codes "range") ≡ Some v) = required trail l ms (codes "range") rule s there wanted named_so in
      let stands : (i : ℕ) × Stands trail i shape v.0 = found_as trail l ms (codes "range") v.0 shape s ruled v.1 in
      let r : ReadAs (FitsKind kind) (out-Json v.0) = reads stands.0 v.0 stands.1 in
      let ranged : needed_range ms (codes "range") ≡ r.0 =
      ap (λ o. unwrap_or (option_and_then (λ tree. range_in (out-Json tree)) o) (range.Cells [])) v.1 ∙ ap (λ o. unwrap_or o (range.Cells [])) r.1 in
      let dom : IsTrue (is_domain_built (scale_of ms).domain) = domain_or _ (reads_kept (λ d. IsTrue (is_domain_built d)) domain_in trail l ms
      (codes "domain") SCALE_DOMAIN s rules.domain (λ i v t. domain_kept trail i v t)) in
      let F : Range → Type 0 = FitsKind kind in
      let fits : FitsKind kind (needed_range ms (codes "range")) = subst F (sym ranged) r.2 in
      let K : ℕ → Type 0 = λ k. FitsKind k (needed_range ms (codes "range")) in
      let own : FitsKind (needed_scale_kind ms (codes "type")) (needed_range ms (codes "range")) = subst K (sym is) fits in
      record {
        built = built_by (needed_scale_kind ms (codes "type")) (needed_range ms (codes "range")) (is_domain_built (scale_of ms).domain) own.fits dom;
        domain = dom;
        bounds = record {
          both = reads_kept IsPadding number_in trail l ms (codes "padding") SHARE s rules.both (λ i v t. share trail i v t);
          inner = reads_kept IsPadding number_in trail l ms (codes "paddingInner") SHARE s rules.inner (λ i v t. share trail i v t);
          outer = reads_kept IsPadding number_in trail l ms (codes "paddingOuter") SHARE s rules.outer (λ i v t. share trail i v t);
          ends = own.ends;
        };
      }

-- a scale of no known type can't be: its type would have to be of no shape
no_shape : (o : Opened) → taken_form vega_schema NOTHING o ≡ None
unfolding vega_schema leaves named lists objects
no_shape o = refl

pub nothing_stands : (round : Trail) (number : ℕ) (tree : Json) → Stands round number NOTHING tree → ⊥
nothing_stands round number tree s =
    let form = formed NOTHING tree s.fine in
    let none : taken_form vega_schema NOTHING (out-Json tree) ≡ None = no_shape (out-Json tree) in
    let x = form.1 in absurd cc

kind_is : (ms : List Member) (word : List ℕ) (kind : ℕ) → AreOwn ms → list_any (says (codes "type") word) ms ≡ true → index_of scale_kinds word ≡ Some kind →
    needed_scale_kind ms (codes "type") ≡ kind
kind_is ms word kind own e coded =
    ap (λ o. unwrap_or (option_and_then (index_of scale_kinds) o) 0) (says_is ms (codes "type") word own e) ∙ ap (λ o. unwrap_or o 0) coded

and_true : (b : Bool) → (b && true) ≡ true → b ≡ true
and_true true e = refl
and_true false e = absurd cc

-- which of the layouts it is
by_layouts : (P : Layout → Type 0) (a b c d e : Bool) (la lb lc ld le ln l : Layout) →
    cond (a && true) (Some la)
    (cond (b && true) (Some lb) (cond (c && true) (Some lc) (cond (d && true) (Some ld) (cond (e && true) (Some le) (Some ln))))) ≡ Some l →
    (a ≡ true → P la) → (b ≡ true → P lb) → (c ≡ true → P lc) → (d ≡ true → P ld) → (e ≡ true → P le) → P ln → P l
by_layouts P true b c d e la lb lc ld le ln l is pa pb pc pd pe pn = let same : la ≡ l = cc in subst P same (pa refl)
by_layouts P false true c d e la lb lc ld le ln l is pa pb pc pd pe pn = let same : lb ≡ l = cc in subst P same (pb refl)
by_layouts P false false true d e la lb lc ld le ln l is pa pb pc pd pe pn = let same : lc ≡ l = cc in subst P same (pc refl)
by_layouts P false false false true e la lb lc ld le ln l is pa pb pc pd pe pn = let same : ld ≡ l = cc in subst P same (pd refl)
by_layouts P false false false false true la lb lc ld le ln l is pa pb pc pd pe pn = let same : le ≡ l = cc in subst P same (pe refl)
by_layouts P false false false false false la lb lc ld le ln l is pa pb pc pd pe pn = let same : ln ≡ l = cc in subst P same pn

fits_continuous : (kind : ℕ) (o : Opened) → ((r : Range) → fits_range kind r ≡ (is_ramp r || has_ends r)) → ReadAs IsPlaces o → ReadAs (FitsKind kind) o
fits_continuous kind o same r = (r.0, r.1, record { fits = same r.0 ∙ r.2.fits; ends = λ other. r.2.ends })

fits_plain : (kind : ℕ) (o : Opened) → ((r : Range) → fits_range kind r ≡ has_ends r) → ReadAs IsPlain o → ReadAs (FitsKind kind) o
fits_plain kind o same r = (r.0, r.1, record { fits = same r.0 ∙ r.2.fits; ends = λ other. r.2.ends })

fits_entries : (o : Opened) → ReadAs (λ r. has_entries r ≡ true) o → ReadAs (FitsKind 4) o
fits_entries o r = (r.0, r.1, record { fits = r.2; ends = λ other. absurd (let f : true ≡ false = other in cc) })

module _ (trail : Trail) (ms : List Member) where
  abbrev Keeps : Layout → Type 0
  Keeps l = StandsObject trail l ms → KeepsScale (scale_of ms)

  kept_linear : list_any (says (codes "type") (codes "linear")) ms ≡ true → Keeps linear_scale
  unfolding linear_scale
  kept_linear e s = scale_kept trail linear_scale ms s 0 CONTINUOUS_RANGE (must (codes "range") CONTINUOUS_RANGE)
      (record { domain = refl; both = refl; inner = refl; outer = refl }) (kind_is ms (codes "linear") 0 s.own e refl) refl refl refl refl
      (λ i v t. fits_continuous 0 (out-Json v) (λ r. refl) (continuous trail i v t))

  kept_time : list_any (says (codes "type") (codes "time")) ms ≡ true → Keeps time_scale
  unfolding time_scale
  kept_time e s = scale_kept trail time_scale ms s 1 CONTINUOUS_RANGE (must (codes "range") CONTINUOUS_RANGE)
      (record { domain = refl; both = refl; inner = refl; outer = refl }) (kind_is ms (codes "time") 1 s.own e refl) refl refl refl refl
      (λ i v t. fits_continuous 1 (out-Json v) (λ r. refl) (continuous trail i v t))

  kept_band : list_any (says (codes "type") (codes "band")) ms ≡ true → Keeps band_scale
  unfolding band_scale
  kept_band e s = scale_kept trail band_scale ms s 2 DISCRETE_RANGE (must (codes "range") DISCRETE_RANGE)
      (record { domain = refl; both = refl; inner = refl; outer = refl }) (kind_is ms (codes "band") 2 s.own e refl) refl refl refl refl
      (λ i v t. fits_plain 2 (out-Json v) (λ r. refl) (discrete trail i v t))

  kept_point : list_any (says (codes "type") (codes "point")) ms ≡ true → Keeps point_scale
  unfolding point_scale
  kept_point e s = scale_kept trail point_scale ms s 3 DISCRETE_RANGE (must (codes "range") DISCRETE_RANGE)
      (record { domain = refl; both = refl; inner = refl; outer = refl }) (kind_is ms (codes "point") 3 s.own e refl) refl refl refl refl
      (λ i v t. fits_plain 3 (out-Json v) (λ r. refl) (discrete trail i v t))

  kept_ordinal : list_any (says (codes "type") (codes "ordinal")) ms ≡ true → Keeps ordinal_scale
  unfolding ordinal_scale
  kept_ordinal e s = scale_kept trail ordinal_scale ms s 4 ORDINAL_RANGE (must (codes "range") ORDINAL_RANGE)
      (record { domain = refl; both = refl; inner = refl; outer = refl }) (kind_is ms (codes "ordinal") 4 s.own e refl) refl refl refl refl
      (λ i v t. fits_entries (out-Json v) (with_entries trail i v t))

  no_kind : Keeps no_scale
  unfolding no_scale
  no_kind s =
      let v : (v : Json) × (member_value ms (codes "type") ≡ Some v) =
      required trail no_scale ms (codes "type") (must (codes "type") NOTHING) s refl refl refl in
      let stands : (i : ℕ) × Stands trail i NOTHING v.0 = found_as trail no_scale ms (codes "type") v.0 NOTHING s refl v.1 in
      absurd (nothing_stands trail stands.0 v.0 stands.1)

  by_scale : (l : Layout) → layout_in vega_schema SCALE ms ≡ Some l → Keeps l
  unfolding vega_schema group_mark axis legend grid_layout top data_set data_format parse sort extent_signal
      filter formula extent bin time_unit stack fold aggregate join_aggregate window lookup no_transform signal on_event expression_signal
      linear_scale time_scale band_scale point_scale ordinal_scale no_scale domain_of_signal domain_of_field domain_of_fields reference
      sort_by_operation sort_by_cells rect_mark symbol_mark line_mark area_mark rule_mark text_mark mark_from group_from facet cross
      encode no_mark channel_members value words_value size_signal group_encode group_channels size_value
  by_scale l e = by_layouts Keeps (list_any (says (codes "type") (codes "linear")) ms) (list_any (says (codes "type") (codes "time")) ms)
      (list_any (says (codes "type") (codes "band")) ms) (list_any (says (codes "type") (codes "point")) ms)
      (list_any (says (codes "type") (codes "ordinal")) ms)
      linear_scale time_scale band_scale point_scale ordinal_scale no_scale l e kept_linear kept_time kept_band kept_point kept_ordinal no_kind

scale_taken : (o : Opened) (f : Form) → taken_form vega_schema SCALE o ≡ Some f →
    (object_passes (λ members. is_some (layout_in vega_schema SCALE members)) o ≡ true) × (form.Object SCALE ≡ f)
unfolding vega_schema leaves named lists objects
scale_taken o f e = (
  if_taken (object_passes (λ members. is_some (layout_in vega_schema SCALE members)) o) _ f e,
  form_taken (object_passes (λ members. is_some (layout_in vega_schema SCALE members)) o) _ f e,
)

-- each scale of a specification without faults keeps what charts ask
pub scale_keeps : (round : Trail) (number : ℕ) (tree : Json) → Stands round number SCALE tree → KeepsScale (scale_of (members_of tree))
scale_keeps round number tree s =
    let form = formed SCALE tree s.fine in
    let ms : (ms : List Member) × (out-Json tree ≡ level.Object ms) = opened_as SCALE (out-Json tree) (scale_taken (out-Json tree) form.0 form.1).0 in
    let l : Laid round number SCALE SCALE tree ms.0 = laid_out round number SCALE SCALE tree ms.0 s ms.1 (λ f e. scale_taken (level.Object ms.0) f e) in
    let same : members_of tree ≡ ms.0 = ap (λ o. unwrap_or (members_in o) []) ms.1 in
    let P : List Member → Type 0 = λ m. KeepsScale (scale_of m) in
    subst P (sym same) (by_scale (noted number SCALE tree ∷ round) ms.0 l.layout l.applies l.stands)
