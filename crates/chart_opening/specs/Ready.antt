-- What an engine asks of what is opened.
use Rattle.cell_value.specs.State.{state_of}
use Rattle.vega_copies.specs.Tested.{KeepsRules}
use Rattle.vega_selections.specs.Kept.{KeepsSelections}
use Rattle.vega_meaning.specs.States.{IsStateOf}
use Rattle.chart_opening.specs.declared.opened.Opened.{Opened}

-- the specification keeps the rules of charts and of selections, and the state is one of it
pub record IsReady (opened : Opened) : Type 0 where
  pub rules : KeepsRules opened.spec
  pub selections : KeepsSelections opened.spec
  pub state : IsStateOf opened.spec (state_of opened.state)
