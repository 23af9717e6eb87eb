-- The items of marks over the rows of copies that were made, behind references.
use Rattle.std.specs.Prelude.{List}
use Rattle.cell_value.specs.declared.state.Named.{Named}
use Rattle.vega_lists.specs.Held.{scope_read, AreSources, AreAllRows}
use Rattle.vega_copies.specs.declared.facts.Step.{Step}
use Rattle.vega_copies.specs.declared.names.NamesAt.{NamesAt}
use Rattle.vega_copies.specs.inner.FactsMade.{MadeAt, top_made, made_at, lists_on}
use Rattle.vega_copies.specs.inner.FactsSeen.{ListsOnPaths}
use Rattle.vega_copies.specs.inner.Levels.{rows_at}
use Rattle.vega_copies.specs.inner.Made.{rows_under}
use Rattle.vega_drawing.specs.declared.frames.Frame.{Frame as HeldFrame}
use Rattle.vega_drawing.specs.Frames.{Frame}
use Rattle.vega_drawing.specs.inner.Framed.{frame_seen}
use Rattle.vega_charts.specs.declared.makers.RowItems.{RowItems}

-- where paths begin
abbrev pub top_of_rows : RowItems → MadeAt
top_of_rows rows = top_made rows.level.now rows.made.now

-- names stand for rows on all paths
pub record AreRowsOnPaths (sources : List Named) (top : MadeAt) : Type 0 where
  pub sources_are : AreSources sources
  pub on_paths : (path : List Step) → AreAllRows (rows_under sources (made_at top path).levels)

abbrev pub AreRowItems : RowItems → Type 0
AreRowItems rows = AreRowsOnPaths rows.sources.now (top_of_rows rows)

abbrev pub lists_of_rows : RowItems → ListsOnPaths
lists_of_rows rows = lists_on rows.sources.now (top_of_rows rows)

-- a copy where names stand for these rows
abbrev pub frame_over : NamesAt → HeldFrame → Frame
frame_over names frame = frame_seen (λ path. scope_read (rows_at names.sources.now names.levels.now)) frame
