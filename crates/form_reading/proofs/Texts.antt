-- Why a text of the first form says the specification of its form.
use Rattle.std.proofs.Common.{◌≡◌, ℕ, pos, ◌==◌, Bool, true, false, List, [], ◌∷◌, ◌++◌, length, Option, Some, None, if◌then◌else◌, codes}
use Rattle.std.proofs.Common.{nat_le, refl, sym, ap, subst, ◌∙◌}
use Rattle.std.specs.Prelude.{map}
use Rattle.std.specs.List.{filter_map}
use Rattle.std.specs.Option.{option_map, option_map_or, option_and_then, unwrap_or}
use Rattle.std.specs.Str.{bytes_eq}
use Rattle.std.proofs.lemmas.Slice.Eq.{bytes_eq-Decides}
use Rattle.fixed_num.specs.Ranges.{all_found}
use Rattle.json_exact.specs.declared.json.Json.{Json, out-Json, roll-Json, roll-out-Json}
use Rattle.json_exact.specs.declared.json.Json.TheVariants.{rolls-Object}
use Rattle.json_exact.specs.declared.json.Json.TheVariants as json
use Rattle.json_exact.specs.declared.json.Json.TheOpen as level
use Rattle.json_exact.specs.declared.json.Member.{Member}
use Rattle.json_exact.specs.Path.{member_value}
use Rattle.json_exact.specs.Inside.{text_in, number_in, items_in, members_in}
use Rattle.vl_schema.specs.Sources.{source_of_values}
use Rattle.vl_schema.specs.declared.codes.TheConstants.{DATA, MARK, TOP}
use Rattle.vl_spec.specs.declared.channels.ChannelOf.{ChannelOf}
use Rattle.vl_spec.specs.declared.channels.Encoding.{Encoding}
use Rattle.vl_spec.specs.declared.marks.Mark.{Mark}
use Rattle.vl_spec.specs.declared.sources.SourceOf.{SourceOf}
use Rattle.vl_spec.specs.declared.views.Unit.{Unit as UnitView}
use Rattle.vl_spec.specs.declared.views.View.{roll-View}
use Rattle.vl_spec.specs.declared.views.ViewKind.TheVariants as view_kind
use Rattle.tree_readers.specs.Parts.{Opened, found_at as found_in, text_at, members_of, needed_members, object_at}
use Rattle.vl_building.specs.declared.data.DataAt.{DataAt}
use Rattle.vl_building.specs.declared.naming.NamedData.{NamedData}
use Rattle.vl_building.specs.Channels.{encoding_of}
use Rattle.vl_building.specs.Gather.{Trail, noted, data_of, params_of, data_seen, params_seen}
use Rattle.vl_building.specs.Marks.{mark_at, mark_in}
use Rattle.vl_building.specs.Names.{autosize_named, mark_type_named}
use Rattle.vl_spec.specs.Bounds.{most_space}
use Rattle.vl_building.specs.Numbers.{between}
use Rattle.vl_building.specs.Sizes.{config_view_of, resolve_of, size_in}
use Rattle.vl_building.specs.Sources.{data_at, giver_or, named_behind, named_from, of_data, sources_of}
use Rattle.vl_building.specs.Spec.{naming_of, spec_of, spec_with, top_view}
use Rattle.vl_building.specs.Views.{AsView, Naming, Place, as_view_with, child, inside_at, kind_by, list_given, member_place, numbers_in, object_view}
use Rattle.vl_building.specs.Views.{source_of, transforms_in, unit_of, view_with, view_word}
use Rattle.vl_building.specs.Inside.{given_by, member_gives}
use Rattle.vl_building.proofs.Inside.{at_object, object_members}
use Rattle.first_form.specs.declared.form.FirstForm.{FirstForm}
use Rattle.first_form.specs.declared.form.Value.{Value}
use Rattle.first_form.specs.FirstForm.{object_of, found_at, value_in, field_at, fields_of, data_in, bars_in, form_of}
use Rattle.chart_meaning.specs.FirstForms.{bar, bars_view, channels_of, form_spec}
use Rattle.form_reading.specs.Texts.{begins_with, y_stands_first, values_written}
use Rattle.form_reading.specs.Laws.{TextsSayTheirForms}
use Rattle.form_reading.proofs.Channels.{EncodingKnown, known_encoding, encoding_seen, text_known, text_leaf}
use Rattle.form_reading.proofs.Orders.{bind_some, kept, object_known, found_known}
use Rattle.form_reading.proofs.Sources.{SourceKnown, data_with, known_source}
use Rattle.form_reading.proofs.Tables.{top_unit}
use Rattle.form_reading.proofs.Tops.{Found, TopKnown, by_top}
use Rattle.form_reading.proofs.Walks.{data_notes, param_notes, leaf_seen, laid_seen}

-- ---- what a source gives

-- data of a name with values, and the name of its source
abbrev named_with : ℕ → List ℕ → Json → NamedData
named_with number name values = named_behind 0 (data_with (number ∷ []) (Some name) values)

abbrev source_with : List ℕ → Json → SourceOf
source_with name values = record { name = name; values = Some values; url = None; format = None }

module _ (number : ℕ) (name : List ℕ) (values : Json) where
  abbrev here : NamedData
  here = named_with number name values

  -- by whether the name is the name
  abbrev sources_by : Bool → List SourceOf
  sources_by same = filter_map (λ (o : Option SourceOf). o) ((
      if option_map_or (λ first. first == 0) (if same then Some 0 else None) false
      then Some (of_data name (giver_or (if same then Some here else None) here.data_))
      else None) ∷ [])

  sources_opened : sources_of [] (here ∷ []) ≡ sources_by (bytes_eq name name)
  sources_opened = refl

  sources_known : sources_of [] (here ∷ []) ≡ source_with name values ∷ []
  sources_known = sources_opened ∙ ap sources_by ((bytes_eq-Decides name name).1 refl)

-- ---- what isn't there

module _ (members : List Member) (name : List ℕ) (absent : member_value members name ≡ None) where
  no_found : {A : Type 0} (reading : Opened → Option A) → found_in reading members name ≡ None
  no_found reading = ap (option_and_then (λ tree. reading (out-Json tree))) absent

  no_text : text_at members name ≡ None
  no_text = no_found text_in

-- ---- a text of the form

abbrev encoding_with : List ChannelOf → Encoding
encoding_with channels = record { channels = channels }

abbrev unit_with : Option Mark → Option Encoding → UnitView
unit_with mark encoding = record { mark = mark; encoding = encoding }

-- What is known of a tree of a form.
pub record TextKnown (tree : Json) (form : FirstForm) : Type 0 where
  pub members : List Member
  pub dv : Json
  pub mv : Json
  pub ev : Json
  pub top : TopKnown members dv mv ev
  pub is : out-Json tree ≡ level.Object members
  pub marked : out-Json mv ≡ level.Text (codes "bar")
  pub source : List Member
  pub source_is : out-Json dv ≡ level.Object source
  pub source_known : SourceKnown form.name source
  pub encoding : List Member
  pub encoding_is : out-Json ev ≡ level.Object encoding
  pub encoding_known : EncodingKnown form encoding

module _ (tree : Json) (form : FirstForm) (k : TextKnown tree form) where
  -- ---- what visits find

  abbrev at_top : Trail
  at_top = noted 0 TOP tree ∷ []

  abbrev written : Json
  written = k.source_known.written

  abbrev data_here : ℕ → DataAt
  data_here n = data_with (n ∷ []) (Some form.name) written

  data_read : (n : ℕ) → data_seen (noted n DATA k.dv ∷ at_top) k.dv ≡ data_here n ∷ []
  data_read n = ap (λ ms. data_at (n ∷ []) ms ∷ []) (ap (λ o. unwrap_or (members_in o) []) k.source_is) ∙ ap (λ d. d ∷ []) (k.source_known.read (n ∷ []))

  data_found : Found data_seen k.dv k.mv k.ev (λ n. data_here n ∷ []) at_top
  data_found = record {
    of_data = λ n. laid_seen data_seen k.dv k.source n DATA source_of_values at_top k.source_is k.source_known.laid
        ∙ (λ i. data_read n i ++ k.source_known.no_data (noted n DATA k.dv ∷ at_top) i);
    of_mark = λ n. leaf_seen data_seen data_notes k.mv n MARK at_top (text_leaf (out-Json k.mv) (codes "bar") k.marked);
    of_encoding = λ n. encoding_seen data_seen data_notes k.ev k.encoding n at_top k.encoding_is k.encoding_known.no_data;
  }

  params_found : Found params_seen k.dv k.mv k.ev (λ n. []) at_top
  params_found = record {
    of_data = λ n. laid_seen params_seen k.dv k.source n DATA source_of_values at_top k.source_is k.source_known.laid
        ∙ k.source_known.no_params (noted n DATA k.dv ∷ at_top);
    of_mark = λ n. leaf_seen params_seen param_notes k.mv n MARK at_top (text_leaf (out-Json k.mv) (codes "bar") k.marked);
    of_encoding = λ n. encoding_seen params_seen param_notes k.ev k.encoding n at_top k.encoding_is k.encoding_known.no_params;
  }

  data_known : data_of tree ≡ data_here k.top.number ∷ []
  data_known = laid_seen data_seen tree k.members 0 TOP top_unit [] k.is k.top.laid ∙ k.top.data_found (λ n. data_here n ∷ []) at_top data_found

  params_known : params_of tree ≡ []
  params_known = laid_seen params_seen tree k.members 0 TOP top_unit [] k.is k.top.laid ∙ k.top.params_found (λ n. []) at_top params_found

  -- ---- what goes by places

  abbrev all : List NamedData
  all = named_with k.top.number form.name written ∷ []

  abbrev naming : Naming
  naming = naming_of all []

  abbrev place : Place
  place = k.top.number ∷ []

  -- by whether the place is the place
  abbrev source_by : Bool → Option (List ℕ)
  source_by same = option_and_then (λ (d : NamedData). d.source) (if same then Some (named_with k.top.number form.name written) else None)

  source_named : source_of naming [] k.members ≡ Some form.name
  source_named =
      ap (λ number. option_and_then naming.source_at (option_map (child []) number)) k.top.numbered
      ∙ ap source_by ((bytes_eq-Decides place place).1 refl)

  -- ---- the view

  marks : mark_at k.members (codes "mark") ≡ bar
  unfolding mark_type_named
  marks = ap (option_and_then (λ t. mark_in (out-Json t))) k.top.mark_is ∙ ap mark_in k.marked

  abbrev y_leads : Bool
  y_leads = begins_with (codes "y") k.encoding

  encodes : object_at encoding_of k.members (codes "encoding") ≡ Some (encoding_with (channels_of y_leads form))
  unfolding encoding_of
  encodes =
      ap (λ o. option_map encoding_of (option_and_then (λ t. members_in (out-Json t)) o)) k.top.encoding_is
      ∙ ap (λ o. option_map encoding_of (members_in o)) k.encoding_is
      ∙ ap (λ channels. Some (encoding_with channels)) k.encoding_known.shows

  unit_known : unit_of k.members ≡ unit_with bar (Some (encoding_with (channels_of y_leads form)))
  unfolding unit_of
  unit_known = λ i. unit_with (marks i) (encodes i)

  abbrev inside : List ℕ → Option AsView
  inside = member_gives (given_by (as_view_with naming)) k.members

  kind_opened : kind_by (codes "mark") k.members (inside_at k.members inside []) ≡ view_kind.Unit (unit_of k.members)
  unfolding kind_by
  kind_opened = refl

  kind_known : kind_by (view_word k.members) k.members (inside_at k.members inside [])
      ≡ view_kind.Unit (unit_with bar (Some (encoding_with (channels_of y_leads form))))
  kind_known = ap (λ word. kind_by word k.members (inside_at k.members inside [])) k.top.word ∙ kind_opened ∙ ap view_kind.Unit unit_known

  no_transforms : list_given (transforms_in naming) [] k.members (codes "transform") ≡ None
  no_transforms =
      ap (option_and_then (λ items. option_map (transforms_in naming items) (member_place [] k.members (codes "transform"))))
      (no_found k.members (codes "transform") (k.top.others (codes "transform") refl refl refl) items_in)

  no_numbers : unwrap_or (list_given (numbers_in naming) [] k.members (codes "params")) [] ≡ []
  no_numbers =
      ap (λ items. unwrap_or (option_and_then (λ items. option_map (numbers_in naming items) (member_place [] k.members (codes "params"))) items) [])
      (no_found k.members (codes "params") (k.top.others (codes "params") refl refl refl) items_in)

  view_known : object_view naming k.members inside [] ≡ bars_view y_leads form
  unfolding view_with
  view_known = λ i. roll-View (record {
    name = no_found k.members (codes "name") (k.top.others (codes "name") refl refl refl) text_in i;
    title = no_found k.members (codes "title") (k.top.others (codes "title") refl refl refl) text_in i;
    data_ = source_named i;
    transform = no_transforms i;
    params = no_numbers i;
    width = no_found k.members (codes "width") (k.top.others (codes "width") refl refl refl) size_in i;
    height = no_found k.members (codes "height") (k.top.others (codes "height") refl refl refl) size_in i;
    resolve = option_map resolve_of (no_found k.members (codes "resolve") (k.top.others (codes "resolve") refl refl refl) members_in i);
    kind = kind_known i;
  })

  tree_is : tree ≡ json.Object k.members
  tree_is = sym (roll-out-Json tree) ∙ ap roll-Json k.is ∙ rolls-Object k.members

  top_known : top_view naming tree ≡ bars_view y_leads form
  top_known =
      ap (λ t. (given_by (as_view_with naming) t []).0) tree_is
      ∙ ap (λ (f : AsView). (f []).0) (at_object (as_view_with naming) k.members)
      ∙ ap (λ members. object_view naming members inside []) (object_members k.members)
      ∙ view_known

  -- ---- the specification

  no_datasets : needed_members k.members (codes "datasets") ≡ []
  no_datasets = ap (λ (o : Option (List Member)). unwrap_or o [])
      (no_found k.members (codes "datasets") (k.top.others (codes "datasets") refl refl refl) members_in)

  members_known : members_of tree ≡ k.members
  members_known = ap (λ (o : Opened). unwrap_or (members_in o) []) k.is

  spec_known : spec_with tree k.members all naming [] ≡ form_spec y_leads (Some written) form
  unfolding spec_with
  spec_known = λ i. record {
    schema = no_found k.members (codes "$schema") (k.top.others (codes "$schema") refl refl refl) text_in i;
    padding = option_and_then (between (pos 0) most_space) (no_found k.members (codes "padding") (k.top.others (codes "padding") refl refl refl) number_in i);
    autosize = option_and_then autosize_named (no_found k.members (codes "autosize") (k.top.others (codes "autosize") refl refl refl) text_in i);
    config = option_and_then (λ inner. object_at config_view_of inner (codes "view"))
        (no_found k.members (codes "config") (k.top.others (codes "config") refl refl refl) members_in i);
    sources = (ap (λ datasets. sources_of datasets all) no_datasets ∙ sources_known k.top.number form.name written) i;
    params = [];
    view = top_known i;
  }

  spec_opened : spec_of tree ≡ spec_with tree k.members all naming []
  spec_opened = λ i. spec_with tree (members_known i) (named_from 0 (data_known i)) (naming_of (named_from 0 (data_known i)) (params_known i)) (params_known i)

  -- ---- what else the text says

  y_known : y_stands_first tree ≡ y_leads
  y_known =
      ap (λ members. begins_with (codes "y") (needed_members members (codes "encoding"))) members_known
      ∙ ap (λ o. begins_with (codes "y") (unwrap_or (option_and_then (λ t. members_in (out-Json t)) o) [])) k.top.encoding_is
      ∙ ap (λ (o : Opened). begins_with (codes "y") (unwrap_or (members_in o) [])) k.encoding_is

  values_known : values_written tree ≡ Some written
  values_known =
      ap (λ members. member_value (needed_members members (codes "data")) (codes "values")) members_known
      ∙ ap (λ o. member_value (unwrap_or (option_and_then (λ t. members_in (out-Json t)) o) []) (codes "values")) k.top.data_is
      ∙ ap (λ (o : Opened). member_value (unwrap_or (members_in o) []) (codes "values")) k.source_is
      ∙ k.source_known.values

  says : spec_of tree ≡ form_spec (y_stands_first tree) (values_written tree) form
  says = spec_opened ∙ spec_known ∙ sym (λ i. form_spec (y_known i) (values_known i) form)

-- ---- what is of the form

abbrev form_by : List ℕ → List ℕ → List ℕ → List Value → FirstForm
form_by name x y values = record { name = name; x = x; y = y; values = values }

unless_kept : {A : Type 0} (b : Bool) (x y : A) → (if b then None else Some x) ≡ Some y → x ≡ y
unless_kept true x y h = cc
unless_kept false x y h = cc

module _ (tree : Json) (found : List ℕ × List Json) (fields : List ℕ × List ℕ) (values : List Value) where
  abbrev SaidBy : List Member → Type 0
  SaidBy members = out-Json tree ≡ level.Object members → found_at text_in members (codes "mark") ≡ Some (codes "bar")
      → data_in members ≡ Some found → fields_of members ≡ Some fields → TextKnown tree (form_by found.0 fields.0 fields.1 values)

  of_top : (members : List Member) (dv mv ev : Json) → TopKnown members dv mv ev → SaidBy members
  of_top members dv mv ev top is marked data_is fields_are =
      let names = codes "name" ∷ codes "values" ∷ [] in
      let (source, of_data, rest) = bind_some (found_at (object_of names) members (codes "data")) _ found data_is in
      let (name, text, rest) = bind_some (found_at text_in source (codes "name")) _ found rest in
      let (rows, list, rest) = bind_some (found_at items_in source (codes "values")) _ found rest in
      let (few, same) = kept (nat_le (length rows) 1000) (name, rows) found rest in
      let (source_is, source_passes) =
      object_known names (out-Json dv) source (found_known (object_of names) members (codes "data") dv source of_data top.data_is) in
      let channels = codes "x" ∷ codes "y" ∷ [] in
      let (encoding, of_encoding, rest) = bind_some (found_at (object_of channels) members (codes "encoding")) _ fields fields_are in
      let (x, nominal, rest) = bind_some (field_at encoding (codes "x") (codes "nominal")) _ fields rest in
      let (y, quantitative, rest) = bind_some (field_at encoding (codes "y") (codes "quantitative")) _ fields rest in
      let same_fields : (x, y) ≡ fields = unless_kept (bytes_eq x y) (x, y) fields rest in
      let (encoding_is, encoding_passes) =
      object_known channels (out-Json ev) encoding (found_known (object_of channels) members (codes "encoding") ev encoding of_encoding top.encoding_is) in
      let known : TextKnown tree (form_by name x y values) = record {
        members = members;
        dv = dv;
        mv = mv;
        ev = ev;
        top = top;
        is = is;
        marked = text_known (out-Json mv) (codes "bar") (found_known text_in members (codes "mark") mv (codes "bar") marked top.mark_is);
        source = source;
        source_is = source_is;
        source_known = known_source name source source_passes text;
        encoding = encoding;
        encoding_is = encoding_is;
        encoding_known = known_encoding (form_by name x y values) encoding encoding_passes nominal quantitative;
      } in
      subst (λ (p : List ℕ × List Json). TextKnown tree (form_by p.0 fields.0 fields.1 values)) same
      (subst (λ (q : List ℕ × List ℕ). TextKnown tree (form_by name q.0 q.1 values)) same_fields known)

text_is_known : (tree : Json) (form : FirstForm) → form_of tree ≡ Some form → TextKnown tree form
text_is_known tree form is =
    let (top, bars, rest) = bind_some (bars_in tree) _ form is in
    let (found, rows, rest) = bind_some (data_in top) _ form rest in
    let (fields, names, rest) = bind_some (fields_of top) _ form rest in
    let (values, all, rest) = bind_some (all_found (map (value_in fields.0 fields.1) found.1)) _ form rest in
    let same : form_by found.0 fields.0 fields.1 values ≡ form = cc in
    let parts = codes "data" ∷ codes "mark" ∷ codes "encoding" ∷ [] in
    let (own, object, rest) = bind_some (object_of parts (out-Json tree)) _ top bars in
    let (mark, text, rest) = bind_some (found_at text_in own (codes "mark")) _ top rest in
    let (test, same_top) = kept (bytes_eq mark (codes "bar")) own top rest in
    let (opened, passes) = object_known parts (out-Json tree) own object in
    let marked : found_at text_in own (codes "mark") ≡ Some (codes "bar") = text ∙ ap Some ((bytes_eq-Decides mark (codes "bar")).0 test) in
    subst (TextKnown tree) same (by_top (SaidBy tree found fields values) (of_top tree found fields values) own passes opened marked
    (ap data_in same_top ∙ rows) (ap fields_of same_top ∙ names))

pub texts_say_their_forms : TextsSayTheirForms
texts_say_their_forms tree form is = says tree form (text_is_known tree form is)
