-- What is wanted of words, files and a script: one text.
use Rattle.std.specs.Prelude.{◌≡◌, ◌⊎◌, ◌≤◌, ℕ, true, Option, Some, None, List, [], ◌∷◌, ◌++◌, length, take, Ok, if◌then◌else◌}
use Rattle.chart_io.specs.Outside.{Files, Appended, AppendedPrefix}
use Rattle.json_exact.specs.declared.json.Json.{Json}
use Rattle.json_exact.specs.Writing.{text_of}
use Rattle.cell_value.specs.State.{State, state_of}
use Rattle.scene_tree.specs.Outcome.{Outcome, Drawn}
use Rattle.vega_writing.specs.Spec.{tree_of}
use Rattle.vega_meaning.specs.Charts.{vega_chart_of}
use Rattle.vega_meaning.specs.Semantics.{IsVegaReply, IsVegaOutput}
use Rattle.param_flow.specs.Script.{IsOutput, ended_lines, most_script_bytes}
use Rattle.play_script.specs.Played.{HasTaken}
use Rattle.first_form.specs.declared.form.FirstForm.{FirstForm}
use Rattle.first_form.specs.FirstForm.{form_of}
use Rattle.first_form.specs.Bars.{chart_of}
use Rattle.chart_opening.specs.declared.opened.Opened.{Opened}
use Rattle.chart_opening.specs.Texts.{Reading}
use Rattle.chart_opening.specs.Files.{tree_of_file}
use Rattle.chart_opening.specs.Schemas.{is_vega}
use Rattle.chart_run.specs.Words.{Ask, Render, Play, Compile, reads_script}
use Rattle.chart_run.specs.Refusals.{opened_for}

-- The opening chart of a Vega-Lite specification: that of the first form, which knows nothing of Vega; else the Vega chart of the specification to
-- which it is compiled. That the latter is the chart that the Vega-Lite specification means isn't proved yet.
abbrev pub form_chart : Option FirstForm → Opened → Outcome (List ℕ)
form_chart (Some form) opened = chart_of form
form_chart None opened = vega_chart_of opened.spec (state_of opened.state)

-- the opening chart of a tree: that of its Vega specification in the opening state where it says that it is one, else that of a Vega-Lite specification
abbrev pub opening_chart : Json → Opened → Outcome (List ℕ)
opening_chart tree opened = if is_vega tree then vega_chart_of opened.spec (state_of opened.state) else form_chart (form_of tree) opened

-- the text of a Vega specification, and a line feed
abbrev pub vega_text : Opened → List ℕ
vega_text opened = text_of (tree_of opened.spec) ++ 10 ∷ []

-- The text is the output of the script from the opening state, and these are the notes. A print is replied to with the Vega chart of
-- the state of that moment, for a Vega-Lite specification that of the specification to which it is compiled. In the opening state of a chart of the
-- first form that is the chart of the form.
abbrev pub IsOutputFrom : Opened → List ℕ → List ℕ → Type 0
IsOutputFrom opened script text = (notes : List ℕ) × (now : State) × IsVegaOutput opened.spec (state_of opened.state) script text notes now

-- The text is the replies to lines from the opening state, joined.
abbrev pub AreRepliesFrom : Opened → List (List ℕ) → List ℕ → Type 0
AreRepliesFrom opened lines text =
    (notes : List ℕ) × (now : State) × IsOutput (IsVegaReply opened.spec) (state_of opened.state) 1 lines text notes now

module _ (reading : Reading) where
  -- the files have what is asked for
  abbrev pub IsAccepted : Ask → Files → Type 0
  IsAccepted ask files = (opened : Opened) × (opened_for reading ask files ≡ Ok opened)

  -- the text is that of what is opened: the opening chart, the output of the script, or the text of the Vega specification
  abbrev pub IsTextOf : Ask → Files → Opened → List ℕ → List ℕ → Type 0
  IsTextOf (Render name) files opened script text =
      (tree : Json) × (tree_of_file reading files name ≡ Ok tree) × (opening_chart tree opened ≡ Drawn text)
  IsTextOf (Play name) files opened script text = IsOutputFrom opened script text
  IsTextOf (Compile name) files opened script text = text ≡ vega_text opened

  -- the text is what is asked for
  abbrev pub IsWanted : Ask → Files → List ℕ → List ℕ → Type 0
  IsWanted ask files script text = (opened : Opened) × (opened_for reading ask files ≡ Ok opened) × IsTextOf ask files opened script text

  -- What was appended are the replies to the lines that ended within what was taken of the script, and nothing more; of a script that is
  -- too long, within as much as a script may have.
  abbrev pub IsRepliedTo : Ask → Files → List ℕ → Option (List ℕ) → Option (List ℕ) → Option (List ℕ) → Type 0
  IsRepliedTo ask files script left out out_now =
      (opened : Opened) × (opened_for reading ask files ≡ Ok opened) × (taken : List ℕ) × HasTaken (Some script) left taken
      × (text : List ℕ) × AreRepliesFrom opened (ended_lines (take most_script_bytes taken)) text × Appended out out_now text

-- the script that is read, where it is told; no byte is read where none is asked for
abbrev pub script_for : Ask → Option (List ℕ) → Option (List ℕ)
script_for (Render name) told = Some []
script_for (Play name) told = told
script_for (Compile name) told = Some []

-- a fault that may stop what is asked for: of the folder, of the script where one is read, of the output
abbrev pub MayFail : Ask → Type 0 → Type 0 → Type 0 → Type 0
MayFail ask folder script out = folder ⊎ (((reads_script ask ≡ true) × script) ⊎ out)

-- What an accepted specification gets, with this status and faults or none: there is a text that is wanted, and what
-- was appended is a beginning of it; with status 0 all of it; where a script couldn't be read on (7) or is too long (10), the
-- replies to the lines that ended; and with a script within its size and without a fault the status is 0, or 9 where memory
-- was refused. Left is what the script has left.
pub record IsAnswered (reading : Reading) (ask : Ask) (files : Files) (script : List ℕ) (left : Option (List ℕ)) (status : ℕ)
    (out out_now : Option (List ℕ)) (Fault : Type 0) : Type 0 where
  pub text : List ℕ
  pub wanted : IsWanted reading ask files script text
  pub begun : AppendedPrefix out out_now text
  pub whole : status ≡ 0 → Appended out out_now text
  pub replied : reads_script ask ≡ true → (status ≡ 7) ⊎ (status ≡ 10) → IsRepliedTo reading ask files script left out out_now
  pub complete : length script ≤ most_script_bytes → (Fault → ⊥) → (status ≡ 0) ⊎ (status ≡ 9)
