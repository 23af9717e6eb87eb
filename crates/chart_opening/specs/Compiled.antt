-- The Vega specification that a file is compiled to.
use Rattle.std.specs.Prelude.{ℕ, is_none, List, Result, Ok, Err, if◌then◌else◌, codes}
use Rattle.fixed_num.specs.Steps.{◌>>=◌}
use Rattle.json_exact.specs.declared.json.Json.{Json}
use Rattle.spec_schema.specs.declared.spec_error.SpecKind.TheVariants.{Wrong}
use Rattle.chart_io.specs.Outside.{Files}
use Rattle.vega_spec.specs.declared.spec.VgSpec.{VgSpec}
use Rattle.vega_writing.specs.Spec.{tree_of}
use Rattle.vega_model.specs.Faults.{first_fault_of}
use Rattle.chart_opening.specs.declared.refusal.Refusal.{Refusal}
use Rattle.chart_opening.specs.declared.refusal.Refusal.TheVariants as refusal
use Rattle.chart_opening.specs.declared.opened.Opened.{Opened}
use Rattle.chart_opening.specs.Texts.{Reading}
use Rattle.chart_opening.specs.Schemas.{is_vega}
use Rattle.chart_opening.specs.Files.{tree_of_file}
use Rattle.chart_opening.specs.Specs.{not_drawn_yet, vl_spec_of, opened_with}

-- a compiled specification, unless the tree that is written of it has a fault
abbrev pub if_readable : VgSpec → Result VgSpec Refusal
if_readable g = if is_none (first_fault_of (tree_of g)) then Ok g else Err not_drawn_yet

-- the Vega specification to which a Vega-Lite tree is compiled
abbrev pub compiled_vl : Json → Result VgSpec Refusal
compiled_vl tree = vl_spec_of tree >>= if_readable

-- the Vega specification to which a tree is compiled; a Vega specification isn't compiled, whatever else it holds
abbrev pub compiled_of : Json → Result VgSpec Refusal
compiled_of tree = if is_vega tree then Err (refusal.Spec Wrong (codes "/$schema")) else compiled_vl tree

-- the specification to which a tree is compiled, with its opening state: its rows are read and counted, and its chart isn't drawn
abbrev pub compiled_tree : Reading → Files → Json → Result Opened Refusal
compiled_tree reading files tree = do
  g ← compiled_of tree
  opened_with reading files g

-- that of a file
abbrev pub compiled_by : Reading → Files → List ℕ → Result Opened Refusal
compiled_by reading files name = do
  tree ← tree_of_file reading files name
  compiled_tree reading files tree
