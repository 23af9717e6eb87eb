-- What the channels of a text of the form show.
use Rattle.std.proofs.Common.{◌≡◌, ℕ, ◌==◌, true, ◌&&◌, List, [], ◌∷◌, ◌++◌, length, Option, Some, None, codes, refl, sym, ap, subst, ◌∙◌}
use Rattle.std.specs.Prelude.{flat_map}
use Rattle.std.specs.List.{enumerate_from, filter_map}
use Rattle.std.specs.Option.{option_map, option_and_then}
use Rattle.std.specs.Str.{bytes_eq}
use Rattle.std.proofs.lemmas.Slice.Eq.{bytes_eq-Decides}
use Rattle.json_exact.specs.declared.json.Json.{Json, out-Json}
use Rattle.json_exact.specs.declared.json.Json.TheOpen as level
use Rattle.json_exact.specs.declared.json.Member.{Member}
use Rattle.json_exact.specs.Path.{member_value}
use Rattle.json_exact.specs.Inside.{text_in}
use Rattle.spec_walk.specs.Walk.{Visiting, seen_in, seen_members, member_parts}
use Rattle.vl_schema.specs.Schema.{vl_schema}
use Rattle.vl_schema.specs.Channels.{encoding}
use Rattle.vl_schema.specs.declared.codes.TheConstants.{ENCODING, X_CHANNEL, Y_CHANNEL}
use Rattle.vl_spec.specs.declared.channels.Channel.{Channel, roll-Channel}
use Rattle.vl_spec.specs.declared.channels.ChannelKind.{ChannelKind}
use Rattle.vl_spec.specs.declared.channels.ChannelKind.TheVariants as channel_kind
use Rattle.vl_spec.specs.declared.channels.ChannelOf.{ChannelOf}
use Rattle.vl_spec.specs.declared.definitions.Definition.TheVariants as definition
use Rattle.vl_spec.specs.declared.definitions.FieldType.{FieldType}
use Rattle.vl_spec.specs.declared.definitions.FieldType.TheVariants.{Quantitative, Nominal}
use Rattle.vl_spec.specs.declared.guides.Axis.{Axis}
use Rattle.vl_normalize.specs.declared.codes.TheConstants.{X, Y}
use Rattle.tree_readers.specs.Parts.{Opened}
use Rattle.vl_building.specs.declared.gather.Around.{Around}
use Rattle.vl_building.specs.Channels.{channel_with, channel_of as channel_in_text, channel_in, shown_in}
use Rattle.vl_building.specs.Definitions.{is_channel_kind, definition_by, definition_of, field_definition_of}
use Rattle.vl_building.specs.Fields.{field_name}
use Rattle.vl_building.specs.Gather.{Trail, noted, data_seen, params_seen}
use Rattle.vl_building.specs.Guides.{axis_of}
use Rattle.vl_building.specs.Names.{field_type_named}
use Rattle.vl_building.specs.Values.{nullable_in}
use Rattle.first_form.specs.declared.form.FirstForm.{FirstForm}
use Rattle.first_form.specs.FirstForm.{has_each, object_of, null_in, found_at, is_plain, field_at}
use Rattle.chart_meaning.specs.FirstForms.{channel_parts, channel_of, channels_of}
use Rattle.form_reading.specs.Texts.{begins_with}
use Rattle.form_reading.proofs.Orders.{bind_some, kept, both, member, Apart, Orders, three_of, two_of, object_known, found_known}
use Rattle.form_reading.proofs.Plain.{plain_name}
use Rattle.form_reading.proofs.Tables.{encoding_laid, x_shape, y_shape}
use Rattle.form_reading.proofs.Walks.{Notes, data_notes, param_notes, IsLeaf, Leaves, plain_object_seen, laid_seen, part_known}

-- ---- texts and nulls

pub text_known : (o : Opened) (t : List ℕ) → text_in o ≡ Some t → o ≡ level.Text t
text_known level.Null t h = absurd (cc)
text_known (level.Flag b) t h = absurd (cc)
text_known (level.Number n) t h = absurd (cc)
text_known level.Huge t h = absurd (cc)
text_known (level.Text s) t h = let same : s ≡ t = cc in ap level.Text same
text_known (level.List items) t h = absurd (cc)
text_known (level.Object members) t h = absurd (cc)

null_known : (o : Opened) (u : Unit {0}) → null_in o ≡ Some u → o ≡ level.Null
null_known level.Null u h = refl
null_known (level.Flag b) u h = absurd (cc)
null_known (level.Number n) u h = absurd (cc)
null_known level.Huge u h = absurd (cc)
null_known (level.Text s) u h = absurd (cc)
null_known (level.List items) u h = absurd (cc)
null_known (level.Object members) u h = absurd (cc)

pub text_leaf : (o : Opened) (t : List ℕ) → o ≡ level.Text t → IsLeaf o
text_leaf o t is = subst IsLeaf (sym is) tt

null_leaf : (o : Opened) → o ≡ level.Null → IsLeaf o
null_leaf o is = subst IsLeaf (sym is) tt

-- ---- a channel

-- a channel over a field, by three of its members
abbrev shown_by : Option (List ℕ) → Option FieldType → Option (Option Axis) → Channel
shown_by field type_ axis = roll-Channel (record {
  definition = definition.Field (record {
    field = field;
    type_ = type_;
    aggregate = None;
    bin = None;
    time_unit = None;
    title = None;
    sort = None;
    scale = None;
    stack = None;
    axis = axis;
    legend = None;
    header = None;
    format = None;
    columns = None;
    spacing = None;
  });
  condition = None;
})

-- by what stands under its three names
abbrev shown_of : Opened → Opened → Opened → Channel
shown_of field type_ axis =
    shown_by (option_map field_name (text_in field)) (option_and_then field_type_named (text_in type_)) (nullable_in axis_of axis)

shown_known : (field kind : List ℕ) (type_ : FieldType) (a b c : Opened) → a ≡ level.Text field → b ≡ level.Text kind → c ≡ level.Null
    → field_name field ≡ field → field_type_named kind ≡ Some type_ → shown_of a b c ≡ roll-Channel (channel_parts field type_)
shown_known field kind type_ a b c is_a is_b is_c plain typed =
    (λ i. shown_of (is_a i) (is_b i) (is_c i)) ∙ (λ i. shown_by (Some (plain i)) (typed i) (Some None))

abbrev f : Json → Member
f = member (codes "field")

abbrev t : Json → Member
t = member (codes "type")

abbrev a : Json → Member
a = member (codes "axis")

names_apart : Apart (codes "field") (codes "type") (codes "axis")
names_apart = record { ab = refl; ac = refl; ba = refl; bc = refl; ca = refl; cb = refl }

-- What is known of the members of a channel over a field.
pub record ChannelKnown (field : List ℕ) (type_ : FieldType) (members : List Member) : Type 0 where
  pub shown : channel_in_text members ≡ roll-Channel (channel_parts field type_)
  pub leaves : Leaves members

shown_fta : (fv tv av : Json) → channel_in_text (f fv ∷ t tv ∷ a av ∷ []) ≡ shown_of (out-Json fv) (out-Json tv) (out-Json av)
unfolding channel_with definition_of definition_by is_channel_kind field_definition_of
shown_fta fv tv av = refl

shown_fat : (fv tv av : Json) → channel_in_text (f fv ∷ a av ∷ t tv ∷ []) ≡ shown_of (out-Json fv) (out-Json tv) (out-Json av)
unfolding channel_with definition_of definition_by is_channel_kind field_definition_of
shown_fat fv tv av = refl

shown_tfa : (fv tv av : Json) → channel_in_text (t tv ∷ f fv ∷ a av ∷ []) ≡ shown_of (out-Json fv) (out-Json tv) (out-Json av)
unfolding channel_with definition_of definition_by is_channel_kind field_definition_of
shown_tfa fv tv av = refl

shown_taf : (fv tv av : Json) → channel_in_text (t tv ∷ a av ∷ f fv ∷ []) ≡ shown_of (out-Json fv) (out-Json tv) (out-Json av)
unfolding channel_with definition_of definition_by is_channel_kind field_definition_of
shown_taf fv tv av = refl

shown_aft : (fv tv av : Json) → channel_in_text (a av ∷ f fv ∷ t tv ∷ []) ≡ shown_of (out-Json fv) (out-Json tv) (out-Json av)
unfolding channel_with definition_of definition_by is_channel_kind field_definition_of
shown_aft fv tv av = refl

shown_atf : (fv tv av : Json) → channel_in_text (a av ∷ t tv ∷ f fv ∷ []) ≡ shown_of (out-Json fv) (out-Json tv) (out-Json av)
unfolding channel_with definition_of definition_by is_channel_kind field_definition_of
shown_atf fv tv av = refl

-- What stands under its names.
pub record Told (field kind : List ℕ) (members : List Member) : Type 0 where
  pub none : Unit {0}
  pub text : found_at text_in members (codes "field") ≡ Some field
  pub its_kind : found_at text_in members (codes "type") ≡ Some kind
  pub null : found_at null_in members (codes "axis") ≡ Some none

module _ (field kind : List ℕ) (type_ : FieldType) (plain : field_name field ≡ field) (typed : field_type_named kind ≡ Some type_) where
  abbrev Known : List Member → Type 0
  Known members = Told field kind members → ChannelKnown field type_ members

  -- of three values
  abbrev Values : Json → Json → Json → Type 0
  Values fv tv av = (out-Json fv ≡ level.Text field) × (out-Json tv ≡ level.Text kind) × (out-Json av ≡ level.Null)

  values_told : (fv tv av : Json) (none : Unit {0}) → text_in (out-Json fv) ≡ Some field → text_in (out-Json tv) ≡ Some kind
      → null_in (out-Json av) ≡ Some none → Values fv tv av
  values_told fv tv av none text its_kind null =
      (text_known (out-Json fv) field text, text_known (out-Json tv) kind its_kind, null_known (out-Json av) none null)

  of_values : (fv tv av : Json) (members : List Member) → channel_in_text members ≡ shown_of (out-Json fv) (out-Json tv) (out-Json av)
      → (Values fv tv av → Leaves members) → Values fv tv av → ChannelKnown field type_ members
  of_values fv tv av members shown leaves values = record {
    shown = shown ∙ shown_known field kind type_ (out-Json fv) (out-Json tv) (out-Json av) values.0 values.1 values.2 plain typed;
    leaves = leaves values;
  }

  orders : Orders Known (codes "field") (codes "type") (codes "axis")
  orders = record {
    abc = λ fv tv av told. of_values fv tv av _ (shown_fta fv tv av)
        (λ v. (text_leaf (out-Json fv) field v.0, (text_leaf (out-Json tv) kind v.1, (null_leaf (out-Json av) v.2, tt))))
        (values_told fv tv av told.none told.text told.its_kind told.null);
    acb = λ fv tv av told. of_values fv tv av _ (shown_fat fv tv av)
        (λ v. (text_leaf (out-Json fv) field v.0, (null_leaf (out-Json av) v.2, (text_leaf (out-Json tv) kind v.1, tt))))
        (values_told fv tv av told.none told.text told.its_kind told.null);
    bac = λ fv tv av told. of_values fv tv av _ (shown_tfa fv tv av)
        (λ v. (text_leaf (out-Json tv) kind v.1, (text_leaf (out-Json fv) field v.0, (null_leaf (out-Json av) v.2, tt))))
        (values_told fv tv av told.none told.text told.its_kind told.null);
    bca = λ fv tv av told. of_values fv tv av _ (shown_taf fv tv av)
        (λ v. (text_leaf (out-Json tv) kind v.1, (null_leaf (out-Json av) v.2, (text_leaf (out-Json fv) field v.0, tt))))
        (values_told fv tv av told.none told.text told.its_kind told.null);
    cab = λ fv tv av told. of_values fv tv av _ (shown_aft fv tv av)
        (λ v. (null_leaf (out-Json av) v.2, (text_leaf (out-Json fv) field v.0, (text_leaf (out-Json tv) kind v.1, tt))))
        (values_told fv tv av told.none told.text told.its_kind told.null);
    cba = λ fv tv av told. of_values fv tv av _ (shown_atf fv tv av)
        (λ v. (null_leaf (out-Json av) v.2, (text_leaf (out-Json tv) kind v.1, (text_leaf (out-Json fv) field v.0, tt))))
        (values_told fv tv av told.none told.text told.its_kind told.null);
  }

  known_of : (members : List Member)
      → (length members == 3 && has_each members (codes "field" ∷ codes "type" ∷ codes "axis" ∷ [])) ≡ true → Known members
  known_of = three_of Known (codes "field") (codes "type") (codes "axis") names_apart orders

-- What is known of a channel: its members.
pub record ChannelAt (field : List ℕ) (type_ : FieldType) (channel : Json) : Type 0 where
  pub members : List Member
  pub opened : out-Json channel ≡ level.Object members
  pub known : ChannelKnown field type_ members

channel_at : (channels : List Member) (name kind field : List ℕ) (type_ : FieldType) (channel : Json) → field_type_named kind ≡ Some type_
    → field_at channels name kind ≡ Some field → member_value channels name ≡ Some channel → ChannelAt field type_ channel
channel_at channels name kind field type_ channel typed is there =
    let names = codes "field" ∷ codes "type" ∷ codes "axis" ∷ [] in
    let (members, object, rest) = bind_some (found_at (object_of names) channels name) _ field is in
    let (own, text, rest) = bind_some (found_at text_in members (codes "field")) _ field rest in
    let (its_kind, said, rest) = bind_some (found_at text_in members (codes "type")) _ field rest in
    let (none, null, rest) = bind_some (found_at null_in members (codes "axis")) _ field rest in
    let (test, same) = kept (bytes_eq its_kind kind && is_plain own) own field rest in
    let tests = both (bytes_eq its_kind kind) (is_plain own) test in
    let (opened, passes) = object_known names (out-Json channel) members (found_known (object_of names) channels name channel members object there) in
    let kind_is : its_kind ≡ kind = (bytes_eq-Decides its_kind kind).0 tests.0 in
    let told : Told own kind members = record { none = none; text = text; its_kind = said ∙ ap Some kind_is; null = null } in
    let known : ChannelKnown own type_ members =
    known_of own kind type_ (plain_name own tests.1) typed members passes told in
    record { members = members; opened = opened; known = subst (λ name. ChannelKnown name type_ members) same known }

-- ---- the channels

nominal_named : field_type_named (codes "nominal") ≡ Some Nominal
unfolding field_type_named
nominal_named = refl

quantitative_named : field_type_named (codes "quantitative") ≡ Some Quantitative
unfolding field_type_named
quantitative_named = refl

abbrev coded : ℕ → ChannelKind → ChannelOf
coded code shown = record { channel = code; shows = shown }

x_known : (field : List ℕ) (type_ : FieldType) (channel : Json) → ChannelAt field type_ channel
    → channel_in (member (codes "x") channel) ≡ Some (channel_of X field type_)
unfolding channel_in
x_known field type_ channel at =
    ap (λ o. option_map (coded X) (shown_in (codes "x") o)) at.opened ∙ ap (λ c. Some (coded X (channel_kind.One c))) at.known.shown

y_known : (field : List ℕ) (type_ : FieldType) (channel : Json) → ChannelAt field type_ channel
    → channel_in (member (codes "y") channel) ≡ Some (channel_of Y field type_)
unfolding channel_in
y_known field type_ channel at =
    ap (λ o. option_map (coded Y) (shown_in (codes "y") o)) at.opened ∙ ap (λ c. Some (coded Y (channel_kind.One c))) at.known.shown

-- what two of them give in a list
both_shown : (a b : Member) (c d : ChannelOf) → channel_in a ≡ Some c → channel_in b ≡ Some d → filter_map channel_in (a ∷ b ∷ []) ≡ c ∷ d ∷ []
both_shown a b c d is_a is_b = λ i. filter_map (λ (o : Option ChannelOf). o) (is_a i ∷ is_b i ∷ [])

-- what visits find among them
abbrev pub FindsNothing : {P : Type 0} → Visiting Around P → List Member → Type 0
FindsNothing visit members =
    (trail : Trail) → flat_map (member_parts encoding trail) (enumerate_from 0 (seen_members vl_schema noted visit members)) ≡ []

module _ {P : Type 0} (visit : Visiting Around P) (notes : Notes visit) (form : FirstForm) (x y : Json) (at_x : ChannelAt form.x Nominal x)
    (at_y : ChannelAt form.y Quantitative y) (trail : Trail) where
  x_seen : (number : ℕ) → member_parts encoding trail (number, (codes "x", seen_in vl_schema noted visit x)) ≡ []
  x_seen number = part_known encoding trail number (codes "x") (seen_in vl_schema noted visit x) X_CHANNEL [] x_shape
      (plain_object_seen visit notes x at_x.members number X_CHANNEL trail at_x.opened at_x.known.leaves notes.not_x)

  y_seen : (number : ℕ) → member_parts encoding trail (number, (codes "y", seen_in vl_schema noted visit y)) ≡ []
  y_seen number = part_known encoding trail number (codes "y") (seen_in vl_schema noted visit y) Y_CHANNEL [] y_shape
      (plain_object_seen visit notes y at_y.members number Y_CHANNEL trail at_y.opened at_y.known.leaves notes.not_y)

  x_then_y : flat_map (member_parts encoding trail)
      (enumerate_from 0 (seen_members vl_schema noted visit (member (codes "x") x ∷ member (codes "y") y ∷ []))) ≡ []
  x_then_y = λ i. x_seen 0 i ++ (y_seen 1 i ++ [])

  y_then_x : flat_map (member_parts encoding trail)
      (enumerate_from 0 (seen_members vl_schema noted visit (member (codes "y") y ∷ member (codes "x") x ∷ []))) ≡ []
  y_then_x = λ i. y_seen 0 i ++ (x_seen 1 i ++ [])

-- What is known of the members of the encoding of a form.
pub record EncodingKnown (form : FirstForm) (members : List Member) : Type 0 where
  pub shows : filter_map channel_in members ≡ channels_of (begins_with (codes "y") members) form
  pub no_data : FindsNothing data_seen members
  pub no_params : FindsNothing params_seen members

module _ (form : FirstForm) where
  abbrev FieldsKnown : List Member → Type 0
  FieldsKnown members = field_at members (codes "x") (codes "nominal") ≡ Some form.x
      → field_at members (codes "y") (codes "quantitative") ≡ Some form.y → EncodingKnown form members

  x_first : (x y : Json) → FieldsKnown (member (codes "x") x ∷ member (codes "y") y ∷ [])
  x_first x y is_x is_y =
      let at_x = channel_at (member (codes "x") x ∷ member (codes "y") y ∷ []) (codes "x") (codes "nominal") form.x Nominal x nominal_named is_x refl in
      let at_y = channel_at (member (codes "x") x ∷ member (codes "y") y ∷ []) (codes "y") (codes "quantitative") form.y Quantitative y
      quantitative_named is_y refl in
      record {
        shows = both_shown _ _ _ _ (x_known form.x Nominal x at_x) (y_known form.y Quantitative y at_y);
        no_data = λ trail. x_then_y data_seen data_notes form x y at_x at_y trail;
        no_params = λ trail. x_then_y params_seen param_notes form x y at_x at_y trail;
      }

  y_first : (x y : Json) → FieldsKnown (member (codes "y") y ∷ member (codes "x") x ∷ [])
  y_first x y is_x is_y =
      let at_x = channel_at (member (codes "y") y ∷ member (codes "x") x ∷ []) (codes "x") (codes "nominal") form.x Nominal x nominal_named is_x refl in
      let at_y = channel_at (member (codes "y") y ∷ member (codes "x") x ∷ []) (codes "y") (codes "quantitative") form.y Quantitative y
      quantitative_named is_y refl in
      record {
        shows = both_shown _ _ _ _ (y_known form.y Quantitative y at_y) (x_known form.x Nominal x at_x);
        no_data = λ trail. y_then_x data_seen data_notes form x y at_x at_y trail;
        no_params = λ trail. y_then_x params_seen param_notes form x y at_x at_y trail;
      }

  pub known_encoding : (members : List Member) → (length members == 2 && has_each members (codes "x" ∷ codes "y" ∷ [])) ≡ true → FieldsKnown members
  known_encoding = two_of FieldsKnown (codes "x") (codes "y") refl refl x_first y_first

-- visits of the encoding find nothing
pub encoding_seen : {P : Type 0} (visit : Visiting Around P) (notes : Notes visit) (tree : Json) (members : List Member) (number : ℕ) (round : Trail)
    → out-Json tree ≡ level.Object members → FindsNothing visit members → seen_in vl_schema noted visit tree number ENCODING round ≡ []
encoding_seen visit notes tree members number round opened nothing =
    laid_seen visit tree members number ENCODING encoding round opened (encoding_laid members)
    ∙ (λ i. notes.nothing number ENCODING tree round notes.not_encoding i ++ nothing (noted number ENCODING tree ∷ round) i)
