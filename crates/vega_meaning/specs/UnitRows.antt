-- The rows that the marks of a specification draw.
use Rattle.std.specs.Prelude.{ℕ, ◌==◌, ◌&&◌, Bool, true, false, if◌then◌else◌, Some, List, [], ◌++◌, flat_map, unwrap_or}
use Rattle.fixed_num.specs.Ranges.{◌>>=◌}
use Rattle.cell_value.specs.Datum.{Datum}
use Rattle.cell_value.specs.State.{Dataset}
use Rattle.expr_eval.specs.Values.{Values}
use Rattle.vega_spec.specs.declared.marks.MarkType.{MarkType}
use Rattle.vega_spec.specs.declared.marks.MarkType.TheVariants as mark
use Rattle.vega_spec.specs.declared.spec.VgSpec.{VgSpec}
use Rattle.vega_signals.specs.Settling.{Valued}
use Rattle.vega_copies.specs.Outlines.{PlainMark, Marks, NoMarks, AMark, AGroup, Opened, outline_of}
use Rattle.vega_copies.specs.Scopes.{Names, names_at_top}
use Rattle.vega_copies.specs.Facts.{Found, CopyFound, first_copies, behind_first, facts_of}
use Rattle.vega_charts.specs.Items.{rows_of_mark}

-- whether items of a mark have keys: rects and symbols
abbrev pub has_keys : MarkType → Bool
has_keys mark.Rect = true
has_keys mark.Symbol = true
has_keys mark.Line = false
has_keys mark.Area = false
has_keys mark.Rule = false
has_keys mark.Text = false
has_keys mark.Group = false

-- the rows that a mark of a number draws in a copy of the object that has it, where it is the one that is asked for and its items have keys
abbrev pub rows_of_unit : ℕ → ℕ → PlainMark → Names → List Datum
rows_of_unit unit n m names = if n == unit && has_keys m.type then rows_of_mark names.lists m.from else []

-- those that it draws in a copy of an object with these marks, of which this was found: copy after copy, in the order of the text
abbrev pub rows_inside : ℕ → Marks → Found → Names → List Datum
rows_inside unit NoMarks found names = []
rows_inside unit (AMark n m others) found names = rows_of_unit unit n m names ++ rows_inside unit others (behind_first found) names
rows_inside unit (AGroup o inside others) found names =
    flat_map (λ (copy : CopyFound). rows_inside unit inside copy.inside copy.facts.names) (first_copies found)
    ++ rows_inside unit others (behind_first found) names

abbrev pub rows_found : ℕ → Opened → CopyFound → List Datum
rows_found unit top found = rows_inside unit top.marks found.inside found.facts.names

-- The rows of a unit over sources, where selections hold what is read of their stores and parameters have values: none where something is out of
-- range, but of such a state nothing is drawn.
abbrev pub unit_rows : VgSpec → Values → Valued → List Dataset → ℕ → List Datum
unit_rows g stores params sources unit = unwrap_or (do
  names ← names_at_top stores params sources (outline_of g).object
  found ← facts_of sources (outline_of g).object (outline_of g).marks names
  Some (rows_found unit (outline_of g) found)) []
