-- The rows that marks draw where copies of groups were made, each with the number of its mark.
use Rattle.std.specs.Prelude.{◌≡◌, ℕ, suc, ◌+◌, ◌==◌, ◌&&◌, Bool, Some, List, [], ◌∷◌, ◌++◌, map, flat_map, filter, if◌then◌else◌}
use Rattle.cell_value.specs.declared.state.Key.{Key}
use Rattle.cell_value.specs.declared.state.Named.{Named}
use Rattle.cell_value.specs.Datum.{Datum, datum_of}
use Rattle.cell_value.specs.State.{Dataset}
use Rattle.param_flow.specs.UnitRows.{has_key}
use Rattle.vega_spec.specs.declared.spec.Group.{Group, out-Group}
use Rattle.vega_spec.specs.declared.spec.VgMark.{VgMark, VgMark-F}
use Rattle.vega_spec.specs.declared.spec.VgSpec.{VgSpec}
use Rattle.vega_lists.specs.Held.{scope_read}
use Rattle.vega_lists.specs.Scopes.{Scope}
use Rattle.vega_copies.specs.declared.made.CopiesMade.{CopiesMade, out-CopiesMade}
use Rattle.vega_copies.specs.declared.made.CopyMade.{CopyMade, out-CopyMade}
use Rattle.vega_copies.specs.declared.names.Level.{Level}
use Rattle.vega_copies.specs.Facts.{Found, found_in}
use Rattle.vega_copies.specs.Outlines.{Marks, NoMarks, AMark, AGroup, PlainMark, count_marks}
use Rattle.vega_copies.specs.Scopes.{Names}
use Rattle.vega_copies.specs.inner.Made.{rows_under}
use Rattle.vega_copies.specs.inner.Outlined.{marks_from, marks_in, marks_of}
use Rattle.vega_charts.specs.Items.{rows_of_mark}
use Rattle.vega_meaning.specs.UnitRows.{has_keys, rows_inside}
use Rattle.plain_engine.specs.declared.drawn_row.DrawnRow.{DrawnRow}

-- rows of a mark of this number
abbrev pub entries_of_rows : ℕ → List Datum → List (ℕ × Datum)
entries_of_rows unit rows = map (λ (row : Datum). (unit, row)) rows

-- those that a mark of this number draws where names stand for these lists, where its items have keys
abbrev pub entries_of_mark : ℕ → PlainMark → Scope → List (ℕ × Datum)
entries_of_mark unit m lists = if has_keys m.type then entries_of_rows unit (rows_of_mark lists m.from) else []

-- what was made of the first mark, and of those behind it
abbrev pub copies_of_first : List CopiesMade → List CopyMade
copies_of_first [] = []
copies_of_first (found ∷ more) = (out-CopiesMade found).copies

abbrev pub made_behind : List CopiesMade → List CopiesMade
made_behind [] = []
made_behind (found ∷ more) = more

-- those that marks draw that are numbered from this number on, in a copy of the object that has them, where these are the levels of names and this
-- was made of each
abbrev pub entries_of : List Named → ℕ → Marks → List Level → List CopiesMade → List (ℕ × Datum)
entries_of sources unit NoMarks levels made = []
entries_of sources unit (AMark n m others) levels made =
    entries_of_mark unit m (scope_read (rows_under sources levels)) ++ entries_of sources (suc unit) others levels (made_behind made)
entries_of sources unit (AGroup o inside others) levels made =
    flat_map (λ (copy : CopyMade). entries_of sources unit inside ((out-CopyMade copy).level ∷ levels) (out-CopyMade copy).inside) (copies_of_first made)
    ++ entries_of sources (unit + count_marks inside) others levels (made_behind made)

-- those that the marks in a copy of a group draw
abbrev pub entries_of_copy : List Named → ℕ → VgMark-F Group VgMark → List Level → CopyMade → List (ℕ × Datum)
entries_of_copy sources unit m levels copy =
    entries_of sources unit (marks_of (marks_in (out-Group m.group))) ((out-CopyMade copy).level ∷ levels) (out-CopyMade copy).inside

abbrev pub entries_of_copies : List Named → ℕ → VgMark-F Group VgMark → List Level → List CopyMade → List (ℕ × Datum)
entries_of_copies sources unit m levels copies = flat_map (entries_of_copy sources unit m levels) copies

-- a row that a mark draws, as it is read
abbrev pub seen : DrawnRow → ℕ × Datum
seen row = (row.unit, datum_of row.keyed)

-- the rows of a mark among some
abbrev pub told_of : List (ℕ × Datum) → ℕ → List Datum
told_of entries unit = map (λ (entry : ℕ × Datum). entry.1) (filter (λ (entry : ℕ × Datum). entry.0 == unit) entries)

abbrev pub told : List DrawnRow → ℕ → List Datum
told rows unit = told_of (map seen rows) unit

-- whether a row is one of a mark, with a key
abbrev pub has_unit_and_key : ℕ → Key → DrawnRow → Bool
has_unit_and_key unit key row = row.unit == unit && has_key key (datum_of row.keyed)

-- they are the rows of the marks of a specification, where names stand for these lists and values at its top
abbrev pub TellsRows : List Dataset → VgSpec → Names → List DrawnRow → Type 0
TellsRows sources g names rows =
    (found : Found) → found_in sources (marks_of (marks_in (out-Group g.group))) names ≡ Some found
    → (unit : ℕ) → told rows unit ≡ rows_inside unit (marks_from 0 1 (marks_in (out-Group g.group))) found names
