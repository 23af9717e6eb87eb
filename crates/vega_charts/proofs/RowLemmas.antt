-- The rows from which marks come, and their items on paths.
use Rattle.std.proofs.Common.{◌≡◌, ℕ, Option, Some, List, map, sym, ap, ◌∙◌, subst}
use Rattle.std.specs.Prelude.{IfOk, Result, Ok, Err}
use Rattle.std.specs.Borrow.{Bor}
use Rattle.cell_value.specs.Datum.{datum_of}
use Rattle.cell_value.specs.declared.state.Keyed.{Keyed}
use Rattle.plain_rows.specs.Rows.{AreRows}
use Rattle.plain_orders.specs.Listed.{data_of, AreListed}
use Rattle.plain_orders.proofs.ListedLemmas.{rows_are_listed}
use Rattle.vega_lists.specs.Held.{scope_read}
use Rattle.vega_lists.specs.Inside.{RowsByName}
use Rattle.vega_lists.specs.Scopes.{Scope}
use Rattle.vega_spec.specs.declared.marks.MarkFrom.{MarkFrom}
use Rattle.vega_spec.specs.declared.marks.MarkFrom.TheVariants as from
use Rattle.vega_copies.specs.inner.FactsSeen.{ListsOnPaths}
use Rattle.vega_copies.specs.inner.Levels.{rows_behind}
use Rattle.vega_drawing.specs.declared.frames.Frame.{Frame as HeldFrame}
use Rattle.vega_drawing.specs.inner.Framed.{frame_seen}
use Rattle.vega_charts.specs.Items.{rows_of_mark}
use Rattle.vega_copies.proofs.CopyLemmas.{data_behind}

-- the rows of the name from which a mark comes
pub rows_named : {E : Type 0} (result : Result (List (Bor Keyed)) E) (rows : RowsByName) (name given : List ℕ) (source : Option MarkFrom) → given ≡ name
    → source ≡ Some (from.Data name) → IfOk result (λ found. map (λ (row : Bor Keyed). row.now) found ≡ rows given)
    → IfOk result (λ found. data_of found ≡ rows_of_mark (scope_read rows) source)
rows_named (Ok found) rows name given source e is reads =
    data_behind found ∙ ap (map datum_of) reads ∙ ap (scope_read rows) e ∙ sym (ap (rows_of_mark (scope_read rows)) is)
rows_named (Err error) rows name given source e is reads = tt

pub listed : (rows given : List (Bor Keyed)) → given ≡ rows → AreRows (rows_behind rows) → AreListed (data_of given)
listed rows given is are = subst AreListed (sym (ap data_of is ∙ data_behind rows)) (rows_are_listed (rows_behind rows) are)

-- a copy is seen by the rows on its path alone
pub seen_by_path : (lists : ListsOnPaths) (frame : HeldFrame) (rows : RowsByName) → lists frame.path.now ≡ scope_read rows
    → frame_seen (λ path. scope_read rows) frame ≡ frame_seen lists frame
seen_by_path lists frame rows is = ap (λ (scope : Scope). frame_seen (λ path. scope) frame) (sym is)
