use Rattle.std.proofs.Common.{◌≡◌, map, ◌∙◌, subst}
use Rattle.std.specs.Prelude.{IfOk}
use Rattle.chart_opening.specs.Opening.{first_store}
use Rattle.chart_opening.proofs.states.first_stores.Goals as goal

pub returns : goal.returns
returns c =
    subst (λ selections. IfOk c.stores_of.result (λ stores. stores ≡ map first_store selections)) (c.as_slice.ensures ∙ c.in_ok-selections.ensures)
    c.stores_of.ensures
