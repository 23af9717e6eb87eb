use Rattle.std.proofs.Common.{◌≡◌, ℕ, List, ◌∙◌, subst}
use Rattle.std.specs.Prelude.{IfOk}
use Rattle.std.specs.List.{flat_map}
use Rattle.chart_plan.specs.inner.Marked.{drags_along, unit_there}
use Rattle.chart_plan.proofs.selections.drags_of_all.Goals as goal

pub returns : goal.returns
returns c =
    let all : List ℕ → Type 0 = λ codes.
    IfOk c.all_drags.result (λ drags. drags
    ≡ flat_map (drags_along c.args.scales.now (unit_there c.args.units.now) c.args.places.now codes) c.args.plots.now) in
    subst all (c.as_slice.ensures ∙ c.in_ok-codes.ensures) c.all_drags.ensures
