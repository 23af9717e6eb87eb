-- Copies of objects behind references, as definitions see them.
use Rattle.std.specs.Prelude.{◌≡◌, ℕ, Option, List, map}
use Rattle.std.specs.Option.{option_map}
use Rattle.std.specs.Borrow.{Bor}
use Rattle.cell_value.specs.declared.cell.Cell.{Cell}
use Rattle.expr_eval.specs.Values.{Values}
use Rattle.scale_kit.specs.Scale.{IsPixel, AreScales}
use Rattle.vega_lists.specs.Scopes.{no_lists}
use Rattle.vega_signals.specs.Extents.{Settled}
use Rattle.vega_copies.specs.declared.facts.MarkFacts.{MarkFacts}
use Rattle.vega_copies.specs.declared.facts.Step.{Step}
use Rattle.vega_copies.specs.Facts.{Found}
use Rattle.vega_copies.specs.inner.FactsSeen.{ListsOnPaths, marks_seen}
use Rattle.vega_drawing.specs.declared.frames.Entered.{Entered}
use Rattle.vega_drawing.specs.declared.frames.Frame.{Frame as HeldFrame}
use Rattle.vega_drawing.specs.Scales.{set_of}
use Rattle.vega_drawing.specs.Frames.{Frame}
use Rattle.vega_drawing.specs.inner.Kept.{scale_seen, axis_seen, AreKeptScales, AreKeptAxes}
use Rattle.vega_drawing.specs.inner.Levels.{values_over}

-- cells behind a reference
abbrev pub cells_seen : Option (Bor (List (List ℕ × Cell))) → Option (List (List ℕ × Cell))
cells_seen cells = option_map (λ c. c.now) cells

-- the values of signals in a copy
abbrev pub values_of : HeldFrame → Values
values_of f = values_over f.values.stores.now f.values.levels.now

-- a copy, where names stand for these rows on each path
abbrev pub frame_seen : ListsOnPaths → HeldFrame → Frame
frame_seen lists f = record {
  names = record { lists = lists f.path.now; values = values_of f };
  scales = map scale_seen f.scales.now;
  axes = map axis_seen f.axes.now;
  cells = cells_seen f.cells;
  headers = f.headers.now;
  width = f.width;
  height = f.height;
  x = f.x;
  y = f.y;
}

-- the same where nothing asks for rows
abbrev pub unlisted : HeldFrame → Frame
unlisted f = frame_seen (λ path. no_lists) f

-- how a copy is entered, by references
abbrev pub entered_by : Bor (List Step) → Bor (List (Bor Settled)) → Option (Bor (List (List ℕ × Cell))) → Entered
entered_by path levels cells = record { path = path; levels = levels; cells = cells }

-- what was found of marks in a copy, from a place on
abbrev pub found_in_frame : ListsOnPaths → HeldFrame → ℕ → List MarkFacts → Found
found_in_frame lists f place found = marks_seen lists f.path.now (values_of f) place found

-- what holds of each copy
pub record IsFrame (f : HeldFrame) : Type 0 where
  pub scales : AreKeptScales f.scales.now
  pub set : f.set.now ≡ set_of f.width f.height (map scale_seen f.scales.now)
  pub sound : AreScales f.set.now
  pub axes : AreKeptAxes f.axes.now
  pub width : IsPixel f.width
  pub height : IsPixel f.height
