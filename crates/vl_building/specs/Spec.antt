-- The specification that a tree says.
use Rattle.std.specs.Prelude.{ℕ, Bool, Option, List, [], map, find, codes, bytes_eq}
use Rattle.std.specs.Option.{option_and_then}
use Rattle.std.specs.List.{position_from}
use Rattle.json_exact.specs.declared.json.Json.{Json}
use Rattle.json_exact.specs.declared.json.Member.{Member}
use Rattle.vl_spec.specs.declared.params.ParamOf.{ParamOf}
use Rattle.vl_spec.specs.declared.sizes.ConfigView.{ConfigView}
use Rattle.vl_spec.specs.declared.sources.SourceOf.{SourceOf}
use Rattle.vl_spec.specs.declared.spec.VlSpec.{VlSpec}
use Rattle.vl_spec.specs.declared.views.View.{View}
use Rattle.vl_building.specs.declared.data.ParamAt.{ParamAt}
use Rattle.vl_building.specs.declared.naming.NamedData.{NamedData}
use Rattle.tree_readers.specs.Parts.{members_of, needed_members, text_at}
use Rattle.vl_building.specs.Numbers.{space_at}
use Rattle.vl_building.specs.Names.{named_at, autosize_named}
use Rattle.vl_building.specs.Sizes.{config_at}
use Rattle.vl_building.specs.Sources.{named_from, sources_of}
use Rattle.vl_building.specs.Gather.{data_of, params_of}
use Rattle.vl_building.specs.Views.{Place, Naming, view_of}

-- data stands at a place
abbrev pub is_data_at : Place → NamedData → Bool
is_data_at place d = bytes_eq place d.data_.place

-- a parameter stands at a place
abbrev pub is_param_at : Place → ParamAt → Bool
is_param_at place p = bytes_eq place p.place

-- what goes by places: the name of the source of the data there, and the number of the parameter there
abbrev pub naming_of : List NamedData → List ParamAt → Naming
naming_of all params = record {
  source_at = λ place. option_and_then (λ (d : NamedData). d.source) (find (is_data_at place) all);
  param_at = λ place. position_from (is_param_at place) 0 params;
}

-- the parameters without their places
abbrev pub bare_params : List ParamAt → List ParamOf
bare_params = map (λ (p : ParamAt). p.param)

-- the address of the format
abbrev pub schema_of : List Member → Option (List ℕ)
schema_of members = text_at members (codes "$schema")

-- the sizes of views that say none
abbrev pub config_of : List Member → Option ConfigView
config_of members = config_at members (codes "config")

-- the sources of data, where a specification of these members has the datasets
abbrev pub sources_among : List Member → List NamedData → List SourceOf
sources_among members all = sources_of (needed_members members (codes "datasets")) all

-- the view at the top
abbrev pub top_view : Naming → Json → View
top_view naming tree = view_of naming tree []

-- the specification of these data and parameters, where this goes by places
unfoldable pub spec_with : Json → List Member → List NamedData → Naming → List ParamAt → VlSpec
spec_with tree members all naming params = record {
  schema = schema_of members;
  padding = space_at members (codes "padding");
  autosize = named_at autosize_named members (codes "autosize");
  config = config_of members;
  sources = sources_among members all;
  params = bare_params params;
  view = top_view naming tree;
}

-- the specification of these data and parameters
abbrev pub spec_among : Json → List NamedData → List ParamAt → VlSpec
spec_among tree all params = spec_with tree (members_of tree) all (naming_of all params) params

-- the specification that a tree says
abbrev pub spec_of : Json → VlSpec
spec_of tree = spec_among tree (named_from 0 (data_of tree)) (params_of tree)
