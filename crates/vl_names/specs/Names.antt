-- All faults of names.
use Rattle.std.specs.Prelude.{ℕ, Option, List, ◌++◌}
use Rattle.json_exact.specs.declared.json.Json.{Json}
use Rattle.vl_spec.specs.declared.params.ParamOf.{ParamOf}
use Rattle.vl_spec.specs.declared.spec.VlSpec.{VlSpec}
use Rattle.vl_trails.specs.declared.fault.RuleFault.{RuleFault}
use Rattle.vl_names.specs.Circles.{needs_among, breaks_circle}
use Rattle.vl_names.specs.Given.{data_given, views_given}
use Rattle.vl_names.specs.Known.{Known, first_named, known_among, param_named, view_names}
use Rattle.vl_names.specs.Params.{first_param_fault, breaks_name, breaks_known, breaks_views}
use Rattle.vl_names.specs.Twice.{twice}
use Rattle.vl_names.specs.Unknown.{unknown_in_views}
use Rattle.vl_names.specs.Views.{ViewIn, views_of}

-- names of data, or of views, that are given twice
abbrev pub twice_given : Json → List ViewIn → List RuleFault
twice_given tree views = twice tree (data_given tree views) ++ twice tree (views_given views)

-- names of parameters that are given twice, names that they mention and that are unknown, and parameters that need themselves; by what
-- is known, the first parameter of a name, and the first view of one
abbrev pub param_faults : Known → (List ℕ → Option ℕ) → (List ℕ → Option ℕ) → List ViewIn → List ParamOf → List RuleFault
param_faults known named viewed views params =
    first_param_fault views (breaks_name named) params
    ++ first_param_fault views (breaks_known known) params
    ++ first_param_fault views (breaks_views viewed) params
    ++ first_param_fault views (breaks_circle (needs_among named params)) params

-- the faults of names, where these are the views, by what is known
abbrev pub faults_with : Json → Known → (List ℕ → Option ℕ) → List ViewIn → List ParamOf → List RuleFault
faults_with tree known named views params =
    twice_given tree views
    ++ param_faults known named (first_named (view_names views)) views params
    ++ unknown_in_views known views

-- the faults of names of the specification that a tree says
abbrev pub name_faults : Json → VlSpec → List RuleFault
name_faults tree s = faults_with tree (known_among s.params) (param_named s.params) (views_of s) s.params
