-- Why files are refused: the status of each cause, and its line on the notes.
use Rattle.std.specs.Prelude.{◌≡◌, refl, ℕ, Option, Some, None, List, [], ◌++◌, codes, Result, Err}
use Rattle.std.specs.Fmt.{decimal}
use Rattle.spec_schema.specs.declared.spec_error.SpecKind.{SpecKind}
use Rattle.spec_schema.specs.declared.spec_error.SpecKind.TheVariants.{Unsupported, Missing, Wrong}
use Rattle.json_exact.specs.Writing.{quoted}
use Rattle.chart_io.specs.Outside.{Files}
use Rattle.chart_opening.specs.declared.opened.Opened.{Opened}
use Rattle.chart_opening.specs.declared.refusal.Refusal.{Refusal}
use Rattle.chart_opening.specs.declared.refusal.Refusal.TheVariants as refusal
use Rattle.chart_opening.specs.Texts.{Reading}
use Rattle.chart_opening.specs.Charts.{drawn_by}
use Rattle.chart_opening.specs.Compiled.{compiled_by}
use Rattle.chart_run.specs.Words.{Ask, Render, Play, Compile}

abbrev pub refusal_status : Refusal → ℕ
refusal_status (refusal.Missing name) = 2
refusal_status (refusal.Size name) = 10
refusal_status (refusal.Json name place) = 3
refusal_status (refusal.Spec kind path) = 4
refusal_status (refusal.Row source row field) = 5
refusal_status refusal.Rows = 10
refusal_status refusal.Overflow = 6
refusal_status (refusal.Panels count) = 11

-- the name of a kind of fault
abbrev pub kind_name : SpecKind → List ℕ
kind_name Unsupported = codes "unsupported"
kind_name Missing = codes "missing"
kind_name Wrong = codes "wrong"

-- a cause in words; the names of a source and of a field are written as JSON texts
abbrev pub refusal_text : Refusal → List ℕ
refusal_text (refusal.Missing name) = codes "chart: missing " ++ name
refusal_text (refusal.Size name) = codes "chart: size " ++ name
refusal_text (refusal.Json name place) = codes "chart: json " ++ name ++ codes " at " ++ decimal place
refusal_text (refusal.Spec kind path) = codes "chart: spec " ++ kind_name kind ++ codes " " ++ path
refusal_text (refusal.Row source row field) =
    codes "chart: row " ++ quoted source ++ codes " " ++ decimal row ++ codes " " ++ quoted field
refusal_text refusal.Rows = codes "chart: size rows"
refusal_text refusal.Overflow = codes "chart: overflow"
refusal_text (refusal.Panels count) = codes "chart: panels " ++ decimal count

-- what is asked for needs of the files: the specification with its opening state, whose chart is drawn for a picture and for a script
abbrev pub opened_for : Reading → Ask → Files → Result Opened Refusal
opened_for reading (Render name) files = drawn_by reading files name
opened_for reading (Play name) files = drawn_by reading files name
opened_for reading (Compile name) files = compiled_by reading files name

-- what is asked for is refused for this cause, the first of them
abbrev pub IsRefused : Reading → Option Ask → Files → Refusal → Type 0
IsRefused reading None files why = ⊥
IsRefused reading (Some ask) files why = opened_for reading ask files ≡ Err why

-- The rules at work.

a_bad_row : refusal_text (refusal.Row (codes "t") 0 []) ≡ codes "chart: row \"t\" 0 \"\""
unfolding Rattle.std.specs.Fmt.digits
a_bad_row = refl

a_fault : refusal_text (refusal.Spec Wrong (codes "/$schema")) ≡ codes "chart: spec wrong /$schema"
a_fault = refl
