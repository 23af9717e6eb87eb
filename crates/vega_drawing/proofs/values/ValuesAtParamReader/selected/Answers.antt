use Rattle.std.proofs.Common.{◌≡◌, subst}
use Rattle.std.specs.Prelude.{IfOk}
use Rattle.vega_drawing.proofs.ValueLemmas.{selects_at, few_steps_at}
use Rattle.vega_drawing.proofs.values.ValuesAtParamReader.selected.Goals as goal

pub returns-clause-holds : goal.returns-clause-holds
returns-clause-holds g c =
    subst (λ b. IfOk c.selected.result (λ holds. holds ≡ b))
    (selects_at c.args.self.now.stores.now c.args.self.now.levels.now c.args.store.now (g.R.RowReader.cells c.args.row.now)) c.selected.ensures.holds

pub returns-clause-few_steps : goal.returns-clause-few_steps
returns-clause-few_steps g c =
    few_steps_at c.args.self.now.stores.now c.args.self.now.levels.now c.args.store.now _ _ c.selected.ensures.few_steps
