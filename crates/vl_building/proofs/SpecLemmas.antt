-- The specification by what is kept of it.
use Rattle.std.proofs.Common.{◌≡◌, ℕ, ℤ, List, ap, subst, ◌∙◌}
use Rattle.std.specs.Prelude.{Option, Result, Ok, IfOk, codes}
use Rattle.json_exact.specs.declared.json.Json.{Json}
use Rattle.json_exact.specs.declared.json.Member.{Member}
use Rattle.vl_spec.specs.declared.params.ParamOf.{ParamOf}
use Rattle.vl_spec.specs.declared.sizes.Autosize.{Autosize}
use Rattle.vl_spec.specs.declared.sizes.ConfigView.{ConfigView}
use Rattle.vl_spec.specs.declared.sources.SourceOf.{SourceOf}
use Rattle.vl_spec.specs.declared.spec.VlSpec.{VlSpec}
use Rattle.vl_spec.specs.declared.views.View.{View}
use Rattle.vl_building.specs.declared.data.ParamAt.{ParamAt}
use Rattle.vl_building.specs.declared.naming.NamedData.{NamedData}
use Rattle.vl_building.specs.declared.naming.Named.{Named}
use Rattle.tree_readers.specs.Parts.{members_of}
use Rattle.vl_building.specs.Names.{named_at, autosize_named}
use Rattle.vl_building.specs.Numbers.{space_at}
use Rattle.vl_building.specs.Views.{Naming}
use Rattle.vl_building.specs.Sources.{named_from}
use Rattle.vl_building.specs.Gather.{data_of, params_of}
use Rattle.vl_building.specs.Spec.{schema_of, config_of, sources_among, bare_params, top_view, naming_of, spec_with, spec_among, spec_of}
use Rattle.vl_building.specs.inner.Named.{shown}
use Rattle.vl_building.specs.inner.Kept.{spec_by}

-- what a value is that is there
pub known : {A E : Type 0} (made : Result A E) (x y : A) → made ≡ Ok x → IfOk made (λ v. v ≡ y) → x ≡ y
known made x y is all = subst (λ r. IfOk r (λ v. v ≡ y)) is all

pub spec_is : (tree : Json) (named : Named) (params slice : List ParamAt) → slice ≡ params → params ≡ params_of tree →
    named.all ≡ named_from 0 (data_of tree) → shown named ≡ naming_of (named_from 0 (data_of tree)) slice →
    spec_by tree named params ≡ spec_of tree
spec_is tree named params slice same found all naming =
    let known : shown named ≡ naming_of (named_from 0 (data_of tree)) params = naming ∙ ap (naming_of (named_from 0 (data_of tree))) same in
    let kept : spec_by tree named params ≡ spec_among tree (named_from 0 (data_of tree)) params =
    λ i. spec_with tree (members_of tree) (all i) (known i) params in
    kept ∙ ap (spec_among tree (named_from 0 (data_of tree))) found

-- a specification of these parts
abbrev of_parts : Option (List ℕ) → Option ℤ → Option Autosize → Option ConfigView → List SourceOf → List ParamOf → View → VlSpec
of_parts schema padding autosize config sources params view = record {
  schema = schema;
  padding = padding;
  autosize = autosize;
  config = config;
  sources = sources;
  params = params;
  view = view;
}

-- the parts that these members say
among : (tree : Json) (members : List Member) (all : List NamedData) (naming : Naming) (given : List ParamAt) (schema : Option (List ℕ))
    (padding : Option ℤ) (autosize : Option Autosize) (config : Option ConfigView) (sources : List SourceOf) (params : List ParamOf) (view : View) →
    schema ≡ schema_of members → padding ≡ space_at members (codes "padding") → autosize ≡ named_at autosize_named members (codes "autosize") →
    config ≡ config_of members → sources ≡ sources_among members all → params ≡ bare_params given → view ≡ top_view naming tree →
    of_parts schema padding autosize config sources params view ≡ spec_with tree members all naming given
unfolding spec_with
among tree members all naming given schema padding autosize config sources params view a b c d e f g = λ i. record {
  schema = a i;
  padding = b i;
  autosize = c i;
  config = d i;
  sources = e i;
  params = f i;
  view = g i;
}

pub parts_are : (tree : Json) (members : List Member) (all : List NamedData) (naming : Naming) (given : List ParamAt) (schema : Option (List ℕ))
    (padding : Option ℤ) (autosize : Option Autosize) (config : Option ConfigView) (sources : List SourceOf) (params : List ParamOf) (view : View) →
    members ≡ members_of tree →
    schema ≡ schema_of members → padding ≡ space_at members (codes "padding") → autosize ≡ named_at autosize_named members (codes "autosize") →
    config ≡ config_of members → sources ≡ sources_among members all → params ≡ bare_params given → view ≡ top_view naming tree →
    of_parts schema padding autosize config sources params view ≡ spec_with tree (members_of tree) all naming given
parts_are tree members all naming given schema padding autosize config sources params view same a b c d e f g =
    among tree members all naming given schema padding autosize config sources params view a b c d e f g
    ∙ ap (λ (ms : List Member). spec_with tree ms all naming given) same
