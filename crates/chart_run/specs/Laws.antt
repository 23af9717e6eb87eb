-- That a compiled text plays alike.
use Rattle.std.specs.Prelude.{◌≡◌, ◌≤◌, ℕ, List, Some, Ok, length, All, IfSome}
use Rattle.json_exact.specs.declared.json.Json.{Json}
use Rattle.chart_io.specs.Outside.{Files, file_of}
use Rattle.vega_spec.specs.declared.data.DataSet.{DataSet}
use Rattle.vega_spec.specs.declared.spec.VgSpec.{VgSpec}
use Rattle.compiled_bars.specs.Laws.{Says}
use Rattle.first_form.specs.declared.form.FirstForm.{FirstForm}
use Rattle.first_form.specs.FirstForm.{form_of}
use Rattle.chart_opening.specs.declared.opened.Opened.{Opened}
use Rattle.chart_opening.specs.Texts.{Reading, ReadsJson}
use Rattle.chart_opening.specs.Files.{most_bytes, tree_of_file}
use Rattle.chart_opening.specs.Sources.{source_sets}
use Rattle.chart_opening.specs.Specs.{opened_by}
use Rattle.chart_opening.specs.Compiled.{compiled_by}
use Rattle.chart_run.specs.Wanted.{vega_text}

-- a folder has each file of data of a specification as another has it
abbrev pub HasItsFiles : Files → Files → VgSpec → Type 0
HasItsFiles files others g = All (λ (set : DataSet). IfSome set.url (λ name. file_of others name ≡ file_of files name)) (source_sets g)

-- The text to which a file is compiled, put into a folder under any name and within the size of a file, opens there as the file does: as the same
-- specification in the same state. So its picture and the output of each script are the same. Asked is that the text says the specification, and
-- that the folder has its files of data.
abbrev pub CompiledOpensAlike : Type 0
CompiledOpensAlike =
    (reading : Reading) (files others : Files) (name emitted : List ℕ) (opened : Opened) → ReadsJson reading
    → compiled_by reading files name ≡ Ok opened → Says (vega_text opened) opened.spec → HasItsFiles files others opened.spec
    → file_of others emitted ≡ Some (vega_text opened) → length (vega_text opened) ≤ most_bytes
    → (opened_by reading others emitted ≡ Ok opened) × (opened_by reading files name ≡ Ok opened)

-- for a chart of the first form neither has to be asked
abbrev pub FormsOpenAlike : Type 0
FormsOpenAlike =
    (reading : Reading) (files others : Files) (name emitted : List ℕ) (opened : Opened) (tree : Json) (form : FirstForm) → ReadsJson reading
    → tree_of_file reading files name ≡ Ok tree → form_of tree ≡ Some form
    → compiled_by reading files name ≡ Ok opened → file_of others emitted ≡ Some (vega_text opened)
    → length (vega_text opened) ≤ most_bytes
    → (opened_by reading others emitted ≡ Ok opened) × (opened_by reading files name ≡ Ok opened)
