-- What holds of readings and of opening states.
use Rattle.std.specs.Prelude.{◌≡◌, ℕ, List, Ok}
use Rattle.chart_io.specs.Outside.{Files}
use Rattle.cell_value.specs.State.{state_of}
use Rattle.cell_value.specs.declared.state.ChartState.{ChartState}
use Rattle.vega_spec.specs.declared.spec.VgSpec.{VgSpec}
use Rattle.vega_copies.specs.Tested.{KeepsRules}
use Rattle.vega_selections.specs.Kept.{KeepsSelections}
use Rattle.vega_meaning.specs.States.{IsStateOf}
use Rattle.first_form.specs.declared.form.FirstForm.{FirstForm}
use Rattle.first_form.specs.Drawable.{IsDrawable}
use Rattle.first_form.specs.Opening.{bars_of, opening_of}
use Rattle.chart_opening.specs.declared.opened.Opened.{Opened}
use Rattle.chart_opening.specs.Texts.{Reading, ReadsJson}
use Rattle.chart_opening.specs.Opening.{opening_by}
use Rattle.chart_opening.specs.Specs.{opened_by}

-- there is a right reading, and only one
abbrev pub JsonIsRead : Type 0
JsonIsRead = (reading : Reading) × ReadsJson reading

abbrev pub ReadingsAgree : Type 0
ReadingsAgree = (reading other : Reading) → ReadsJson reading → ReadsJson other → reading ≡ other

-- an opening state is one of its specification
abbrev pub OpeningsAreStates : Type 0
OpeningsAreStates =
    (reading : Reading) (files : Files) (g : VgSpec) (state : ChartState) → opening_by reading files g ≡ Ok state
    → IsStateOf g (state_of state)

-- a chart of the first form opens with its opening state, whatever the files
abbrev pub FormsOpen : Type 0
FormsOpen =
    (reading : Reading) (files : Files) (form : FirstForm) → IsDrawable form → opening_by reading files (bars_of form) ≡ Ok (opening_of form)

-- what is opened of a file by a right reading keeps the rules of charts and of selections
abbrev pub OpenedKeepRules : Type 0
OpenedKeepRules =
    (reading : Reading) (files : Files) (name : List ℕ) (opened : Opened) → ReadsJson reading → opened_by reading files name ≡ Ok opened
    → KeepsRules opened.spec × KeepsSelections opened.spec
