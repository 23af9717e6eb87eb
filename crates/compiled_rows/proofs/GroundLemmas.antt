-- Why states of the chart have what the laws of the top ask: the names that parameters have are mentioned, so none is that of the null signal.
use Rattle.std.proofs.Common.{◌≢◌, sym, ℕ, List, [], ◌∷◌, ◌++◌, All, map}
use Rattle.std.specs.Prelude.{flat_map}
use Rattle.std.proofs.lemmas.List.Elements.{All-nil, All-cons, All-head, All-tail, All-weaker}
use Rattle.vl_spec.specs.declared.params.ParamOf.{ParamOf}
use Rattle.vl_spec.specs.declared.sources.SourceOf.{SourceOf}
use Rattle.vl_spec.specs.declared.spec.VlSpec.{VlSpec}
use Rattle.chart_plan.specs.Plan.{plan_of}
use Rattle.vega_assemble.specs.Mentioned.{in_kind, in_param, in_plan, mentioned}
use Rattle.vega_assemble.specs.Names.{none_name}
use Rattle.compiled_rows.specs.Grounds.{ChartStatesHaveTop}
use Rattle.compiled_rows.specs.Lists.{stem_of}
use Rattle.compiled_rows.specs.Names.{NoneName}
use Rattle.compiled_rows.specs.Values.{name_of}
use Rattle.compiled_rows.proofs.KeptLemmas.{stores_of_states_are_apart}
use Rattle.compiled_rows.proofs.LostLemmas.{null_signal_is_null}
use Rattle.compiled_rows.proofs.NewLemmas.{made_names_are_new}
use Rattle.compiled_rows.proofs.StateLemmas.{chart_states_are_of_params}
use Rattle.compiled_rows.proofs.UnitLemmas.{front_of}

back_of : {X : Type 0} (P : X → Type 0) (xs ys : List X) → All P (xs ++ ys) → All P ys
back_of P [] ys a = a
back_of P (x ∷ xs) ys a = back_of P xs ys (All-tail P x (xs ++ ys) a)

-- the names of parameters are among what they mention
param_names : (P : List ℕ → Type 0) (params : List ParamOf) → All P (flat_map in_param params) → All P (map name_of params)
param_names P [] a = All-nil P
param_names P (p ∷ params) a =
    All-cons P p.name (map name_of params) (All-head P p.name (in_kind p.kind ++ flat_map in_param params) a)
    (param_names P params
    (back_of P (in_kind p.kind) (flat_map in_param params) (All-tail P p.name (in_kind p.kind ++ flat_map in_param params) a)))

abbrev NotNone : List ℕ → List ℕ → Type 0
NotNone stem name = none_name stem ≢ name

abbrev Unlike : List ℕ → List ℕ → Type 0
Unlike stem name = name ≢ none_name stem

turned : (stem name : List ℕ) → NotNone stem name → Unlike stem name
turned stem name h e = h (sym e)

none_unlike : (s : VlSpec) → All (Unlike (stem_of s)) (map name_of s.params)
none_unlike s =
    let P = NotNone (stem_of s) in
    let sources = map (λ (source : SourceOf). source.name) s.sources in
    let params = flat_map in_param s.params in
    let plan = in_plan (plan_of s) in
    let all : All P (sources ++ params ++ plan) = made_names_are_new (mentioned s (plan_of s)) NoneName in
    All-weaker P (Unlike (stem_of s)) (turned (stem_of s)) (map name_of s.params)
    (param_names P s.params (back_of P sources params (front_of P (sources ++ params) plan all)))

pub chart_states_have_top : ChartStatesHaveTop
chart_states_have_top s st h differ tests few =
    let held = chart_states_are_of_params s st h in
    let unlike = none_unlike s in
    record {
      apart = stores_of_states_are_apart (stem_of s) s.params st differ unlike held;
      sources = h.sources;
      null = null_signal_is_null (stem_of s) s.params st unlike held;
      tests = tests;
      few = few;
    }
