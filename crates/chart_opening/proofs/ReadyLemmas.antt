-- What is opened is ready for an engine.
use Rattle.std.proofs.Common.{◌≡◌, Result, Ok, Err, IfOk, sym, subst}
use Rattle.cell_value.specs.State.{state_of}
use Rattle.vega_spec.specs.declared.spec.VgSpec.{VgSpec}
use Rattle.vega_copies.specs.Tested.{KeepsRules}
use Rattle.vega_selections.specs.Kept.{KeepsSelections}
use Rattle.vega_meaning.specs.States.{IsStateOf}
use Rattle.chart_opening.specs.declared.opened.Opened.{Opened}
use Rattle.chart_opening.specs.declared.refusal.OpenStop.{OpenStop}
use Rattle.chart_opening.specs.Ready.{IsReady}

pub ready_of : (r : Result Opened OpenStop) (g : VgSpec) → KeepsRules g → KeepsSelections g → IfOk r (λ o. o.spec ≡ g)
    → IfOk r (λ o. IsStateOf o.spec (state_of o.state)) → IfOk r IsReady
ready_of (Ok o) g rules selections same state = record {
  rules = subst KeepsRules (sym same) rules;
  selections = subst KeepsSelections (sym same) selections;
  state = state;
}
ready_of (Err why) g rules selections same state = tt
