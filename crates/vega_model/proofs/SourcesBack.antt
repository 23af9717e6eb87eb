-- Data sets are read back.
use Rattle.std.proofs.Common.{◌≡◌, ℕ, List, [], ◌∷◌, map, refl, ap, sym, ◌∙◌}
use Rattle.std.specs.Option.{option_map, option_and_then}
use Rattle.std.specs.Prelude.{Option, Some, None, IfSome, codes}
use Rattle.json_exact.specs.Inside.{members_in}
use Rattle.json_exact.specs.Path.{member_value}
use Rattle.json_exact.specs.declared.json.Json.{out-Json, out-roll-Json}
use Rattle.json_exact.specs.declared.json.Json.TheVariants.{rolls-Object}
use Rattle.json_exact.specs.declared.json.Member.{Member}
use Rattle.vega_spec.specs.declared.data.DataSet.{DataSet}
use Rattle.vega_spec.specs.declared.data.Format.{Format}
use Rattle.vega_spec.specs.declared.data.ParseKind.{ParseKind}
use Rattle.vega_spec.specs.declared.transforms.Transform.{Transform}
use Rattle.vega_building.specs.Names.{format_kind_named}
use Rattle.vega_building.specs.Parts.{found_at, objects_at, members_of}
use Rattle.vega_building.specs.Sources.{parse_of, format_of, data_set_of}
use Rattle.vega_building.specs.Transforms.{transform_of}
use Rattle.vega_writing.specs.Data.{format_kind_tree, parse_tree, data_set_slots, format_slots, parse_member}
use Rattle.vega_writing.specs.Slots.{present}
use Rattle.vega_writing.specs.Transforms.{transform_tree}
use Rattle.vega_writing.specs.Trees.{list_tree}
use Rattle.vega_model.proofs.Back.{must_found, needed_text_back, may_text, must_list, may_list, may_object_always, may_named}
use Rattle.vega_model.proofs.Found.{at_name, found}
use Rattle.vega_model.proofs.TransformsBack.{transform_back}
use Rattle.vega_model.proofs.Words.{format_kind_reads, parse_kind_back}
use Rattle.vega_model.specs.RoundTrip.{asked_codes, asked_readings}
use Rattle.vega_model.specs.Codes.{Each, OfTransform, OfDataSet}
use Rattle.json_exact.specs.declared.json.Json.TheOpen as level

-- the texts of each field are read back
pub may_parse : (members : List Member) (name : List ℕ) (o : Option (List (List ℕ × ParseKind))) →
    member_value members name ≡ option_map parse_tree o → option_map (map parse_of) (found_at members_in members name) ≡ o
unfolding parse_tree
may_parse members name None here = ap (λ v. option_map (map parse_of) (option_and_then (λ t. members_in (out-Json t)) v)) here
may_parse members name (Some fields) here =
    ap (option_map (map parse_of)) (must_found members name members_in (parse_tree fields) (map parse_member fields) here
    (ap members_in (ap out-Json (sym (rolls-Object (map parse_member fields)))
    ∙ out-roll-Json (level.Object (map parse_member fields)))))
    ∙ ap Some (all fields)
  where
    all : (fields : List (List ℕ × ParseKind)) → map parse_of (map parse_member fields) ≡ fields
    all [] = refl
    all (field ∷ fields) = λ j. (field.0, parse_kind_back field.1 j) ∷ all fields j

-- the transforms of a data set are read back
may_transforms : (members : List Member) (name : List ℕ) (o : Option (List Transform)) →
    member_value members name ≡ option_map (list_tree transform_tree) o → IfSome o (Each (OfTransform asked_codes)) →
    IfSome o (Each (OfTransform asked_readings)) →
    objects_at transform_of members name ≡ o
may_transforms members name None here c r = may_list members name (λ tree. transform_of (members_of tree)) transform_tree None here tt
may_transforms members name (Some steps) here c r = must_list members name
    (λ tree. transform_of (members_of tree)) transform_tree steps here (all steps c r)
  where
    all : (ts : List Transform) → Each (OfTransform asked_codes) ts → Each (OfTransform asked_readings) ts →
        Each (λ t. transform_of (members_of (transform_tree t)) ≡ t) ts
    all [] c r = tt
    all (t ∷ ts) c r = (transform_back t c.0 r.0, all ts c.1 r.1)

-- the format of a data file is read back
pub format_back : (f : Format) → format_of (present (format_slots f)) ≡ f
unfolding format_slots
format_back f =
    let ms : List Member = present (format_slots f) in
    let at : (name : List ℕ) → member_value ms name ≡ at_name (format_slots f) name = λ name. found (format_slots f) name refl in
    λ j. record {
      type_ = may_named ms (codes "type") format_kind_named format_kind_tree f.type_ (at (codes "type")) format_kind_reads j;
      parse = may_parse ms (codes "parse") f.parse (at (codes "parse")) j;
    }

-- a data set is read back
pub data_set_back : (d : DataSet) → OfDataSet asked_codes d → OfDataSet asked_readings d → data_set_of (present (data_set_slots d)) ≡ d
unfolding data_set_slots
data_set_back d c r =
    let ms : List Member = present (data_set_slots d) in
    let at : (name : List ℕ) → member_value ms name ≡ at_name (data_set_slots d) name = λ name. found (data_set_slots d) name refl in
    λ j. record {
      name = needed_text_back ms (codes "name") d.name (at (codes "name")) j;
      values = at (codes "values") j;
      url = may_text ms (codes "url") d.url (at (codes "url")) j;
      format = may_object_always ms (codes "format") format_of format_slots d.format (at (codes "format")) format_back j;
      source = may_text ms (codes "source") d.source (at (codes "source")) j;
      transform = may_transforms ms (codes "transform") d.transform (at (codes "transform")) c r j;
    }
