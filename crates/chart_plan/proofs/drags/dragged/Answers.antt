use Rattle.std.proofs.Common.{◌≡◌, ℕ, List, [], ◌∙◌, subst}
use Rattle.std.specs.Prelude.{IfOk}
use Rattle.std.specs.List.{filter_map}
use Rattle.std.specs.Option.{option_map_or}
use Rattle.chart_plan.specs.Selections.{drag_of}
use Rattle.chart_plan.specs.inner.Marked.{first_at, unit_there}
use Rattle.chart_plan.proofs.drags.dragged.Goals as goal

pub returns : goal.returns
returns c =
    let all : List ℕ → Type 0 = λ codes.
    IfOk c.dragged_along.result (λ drags. drags
    ≡ option_map_or (λ u. filter_map (drag_of u) codes) (first_at (unit_there c.args.units.now) c.args.places.now) []) in
    subst all (c.as_slice.ensures ∙ c.in_ok-codes.ensures) c.dragged_along.ensures
