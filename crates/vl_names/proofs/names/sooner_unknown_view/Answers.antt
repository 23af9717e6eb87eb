use Rattle.std.proofs.Common.{◌≡◌, ℕ, List, Option, map, subst, ap, ◌∙◌}
use Rattle.std.specs.Prelude.{IfOk}
use Rattle.spec_schema.specs.Order.{earlier}
use Rattle.vl_trails.specs.Faults.{earliest_placed}
use Rattle.vl_names.specs.Known.{first_named, view_names}
use Rattle.vl_names.specs.Params.{breaks_views, first_param_fault}
use Rattle.vl_names.specs.inner.Keyed.{number_at}
use Rattle.vl_names.specs.inner.Shown.{view_shown}
use Rattle.vl_names.proofs.names.sooner_unknown_view.Goals as goal

pub returns : goal.returns
returns c =
    let views = map view_shown c.args.views.now in
    let found : number_at c.in_ok-index.index ≡ first_named c.as_slice.result.now = λ i q. c.in_ok-index.ensures.found q i in
    let viewed : number_at c.in_ok-index.index ≡ first_named (view_names views) =
    found ∙ ap first_named (c.as_slice.ensures ∙ c.in_ok-names.ensures) in
    let all : (List ℕ → Option ℕ) → Type 0 = λ named. IfOk c.sooner_breaking.result (λ f. f
    ≡ earlier c.args.so_far (earliest_placed c.args.tree.now (first_param_fault views (breaks_views named) c.args.params.now))) in
    subst all viewed c.sooner_breaking.ensures
