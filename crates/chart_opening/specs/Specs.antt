-- Which Vega specification a file says, and with which state it opens.
use Rattle.std.specs.Prelude.{ℕ, Bool, ◌&&◌, Option, Some, None, List, [], Result, Ok, Err, if◌then◌else◌}
use Rattle.fixed_num.specs.Steps.{◌>>=◌}
use Rattle.json_exact.specs.declared.json.Json.{Json}
use Rattle.spec_schema.specs.declared.spec_error.SpecKind.TheVariants.{Unsupported}
use Rattle.chart_io.specs.Outside.{Files}
use Rattle.vega_spec.specs.declared.spec.VgSpec.{VgSpec}
use Rattle.vega_model.specs.Reading.{Refused, read_of}
use Rattle.vl_spec.specs.declared.spec.VlSpec.{VlSpec}
use Rattle.vl_model.specs.Reading as vl
use Rattle.vega_compile.specs.Compiled.{assembled}
use Rattle.vega_copies.specs.Tested.{keeps_rules}
use Rattle.selection_rules.specs.Tested.{keeps_selections}
use Rattle.first_form.specs.declared.form.FirstForm.{FirstForm}
use Rattle.first_form.specs.FirstForm.{form_of}
use Rattle.first_form.specs.Opening.{bars_of}
use Rattle.chart_opening.specs.declared.refusal.Refusal.{Refusal}
use Rattle.chart_opening.specs.declared.refusal.Refusal.TheVariants as refusal
use Rattle.chart_opening.specs.declared.opened.Opened.{Opened}
use Rattle.chart_opening.specs.Texts.{Reading}
use Rattle.chart_opening.specs.Schemas.{is_vega}
use Rattle.chart_opening.specs.Files.{tree_of_file}
use Rattle.chart_opening.specs.Opening.{opening_by}

-- a Vega-Lite specification whose chart isn't drawn yet is refused so
abbrev pub not_drawn_yet : Refusal
not_drawn_yet = refusal.Spec Unsupported []

-- the Vega specification that a tree says, or its first fault
abbrev pub vega_read : Result VgSpec Refused → Result VgSpec Refusal
vega_read (Ok g) = Ok g
vega_read (Err fault) = Err (refusal.Spec fault.1 fault.0)

-- whether a specification keeps what charts ask: the rules of specifications and those of selections
abbrev pub is_kept : VgSpec → Bool
is_kept g = keeps_rules g && keeps_selections g

-- a specification, where it keeps them
abbrev pub if_kept : VgSpec → Result VgSpec Refusal
if_kept g = if is_kept g then Ok g else Err not_drawn_yet

-- the Vega specification to which a Vega-Lite specification is compiled, where it keeps them
unfoldable pub compiled_form : VlSpec → Result VgSpec Refusal
compiled_form s = if_kept (assembled s)

-- The Vega specification of a Vega-Lite specification, as it is read: its first fault; else the bars of the first form where it is one; else that to
-- which it is compiled. That the latter has the meaning of the Vega-Lite specification isn't said here, and isn't proved yet.
abbrev pub vl_read : Result VlSpec vl.Refused → Option FirstForm → Result VgSpec Refusal
vl_read (Ok s) (Some form) = Ok (bars_of form)
vl_read (Ok s) None = compiled_form s
vl_read (Err fault) form = Err (refusal.Spec fault.1 fault.0)

-- the Vega specification that a Vega-Lite tree says, or its first fault
abbrev pub vl_spec_of : Json → Result VgSpec Refusal
vl_spec_of tree = vl_read (vl.read_of tree) (form_of tree)

-- the Vega specification of a tree: its own where it says that it is one, else that of a Vega-Lite specification
abbrev pub spec_of : Json → Result VgSpec Refusal
spec_of tree = if is_vega tree then vega_read (read_of tree) else vl_spec_of tree

-- a specification with its opening state
abbrev pub opened_with : Reading → Files → VgSpec → Result Opened Refusal
opened_with reading files g = opening_by reading files g >>= λ state. Ok (record { spec = g; state = state })

-- the specification that a tree says, with its opening state
abbrev pub opened_tree : Reading → Files → Json → Result Opened Refusal
opened_tree reading files tree = do
  g ← spec_of tree
  opened_with reading files g

-- the specification in a file with its opening state, or why it isn't opened
abbrev pub opened_by : Reading → Files → List ℕ → Result Opened Refusal
opened_by reading files name = do
  tree ← tree_of_file reading files name
  opened_tree reading files tree
