use Rattle.std.proofs.Common.{sym, subst}
use Rattle.vega_copies.specs.Tested.{KeepsRules}
use Rattle.vega_selections.specs.Kept.{KeepsSelections}
use Rattle.cell_value.specs.declared.state.ChartState.{ChartState}
use Rattle.cell_value.specs.State.{state_of}
use Rattle.vega_spec.specs.declared.spec.VgSpec.{VgSpec}
use Rattle.vega_meaning.specs.States.{IsStateOf}
use Rattle.first_form.specs.Opening.{bars_of, opening_of}
use Rattle.first_form.proofs.BarCharts.{bars_keep_rules}
use Rattle.first_form.proofs.OpeningStates.{is_state_of}
use Rattle.opened_charts.proofs.LateStates.{without_ids, stays_state}
use Rattle.opened_charts.proofs.charts.opened_late.Goals as goal

pub open-requires-clause-state : goal.open-requires-clause-state
open-requires-clause-state c =
    let form = c.args.form.now in
    let of_spec : VgSpec → Type 0 = λ spec. IsStateOf spec (without_ids (state_of (opening_of form))) in
    let of_state : ChartState → Type 0 = λ state. IsStateOf c.in_ok-spec.spec (without_ids (state_of state)) in
    let is = stays_state (bars_of form) (state_of (opening_of form)) (is_state_of form c.requires) in
    subst of_state (sym c.in_ok-state.ensures) (subst of_spec (sym c.in_ok-spec.ensures) is)

pub open-requires-clause-rules : goal.open-requires-clause-rules
open-requires-clause-rules c = subst KeepsRules (sym c.in_ok-spec.ensures) (bars_keep_rules c.args.form.now).0

pub open-requires-clause-selections : goal.open-requires-clause-selections
open-requires-clause-selections c = subst KeepsSelections (sym c.in_ok-spec.ensures) (bars_keep_rules c.args.form.now).1
