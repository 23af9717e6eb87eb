-- The grid of facts.
use Rattle.std.proofs.Common.{◌≡◌, ℕ, suc, ◌+◌, max, Option, Some, List, [], ◌∷◌, length, Ok, Err, refl, sym, ap, ◌∙◌}
use Rattle.std.specs.Prelude.{unwrap_or}
use Rattle.std.specs.Option.{option_map, option_map_or}
use Rattle.expr_eval.specs.Answers.{Evaluates}
use Rattle.expr_eval.specs.Values.{Values}
use Rattle.expr_eval.specs.declared.error.EvalError.{EvalError}
use Rattle.expr_eval.specs.declared.error.EvalError.TheVariants.{Overflow, Memory}
use Rattle.vega_spec.specs.declared.guides.Layout.{Layout}
use Rattle.vega_spec.specs.declared.spec.VgMark.{VgMark}
use Rattle.plot_scenes.specs.declared.views.Placed.{Placed}
use Rattle.vega_copies.specs.declared.facts.CopyFacts.{CopyFacts}
use Rattle.vega_copies.specs.declared.facts.MarkFacts.{MarkFacts, out-MarkFacts}
use Rattle.vega_copies.specs.declared.facts.Step.{Step}
use Rattle.vega_copies.specs.Outlines.{Object}
use Rattle.vega_copies.specs.Facts.{copies_in, gathered}
use Rattle.vega_copies.specs.inner.FactsSeen.{ListsOnPaths, copies_seen, marks_seen}
use Rattle.vega_copies.specs.inner.Outlined.{marks_from}
use Rattle.vega_copies.proofs.SeenFacts.{marks_first, copies_in_gathered}
use Rattle.vega_drawing.specs.declared.frames.Frame.{Frame as HeldFrame}
use Rattle.vega_drawing.specs.declared.spots.Grid.{Grid}
use Rattle.vega_drawing.specs.Grids.{count_found, columns_asked, columns_written, grid_of}
use Rattle.vega_drawing.specs.Insides.{ItemsOfMarks}
use Rattle.vega_drawing.specs.Views.{grid_round, spacing_of, views_in}
use Rattle.vega_drawing.specs.inner.Framed.{frame_seen, found_in_frame, values_of}
use Rattle.vega_drawing.specs.inner.Placed.{copies_counted, columns_found, grid_found, grid_of_object}

-- as many copies are seen as there are
pub seen_length : (lists : ListsOnPaths) (path : List Step) (values : Values) (place n : ℕ) (copies : List CopyFacts)
    → length (copies_seen lists path values place n copies) ≡ length copies
seen_length lists path values place n [] = refl
seen_length lists path values place n (c ∷ cs) = ap suc (seen_length lists path values place (n + 1) cs)

so_many : (lists : ListsOnPaths) (path : List Step) (values : Values) (place : ℕ) (copies : List CopyFacts)
    → length copies ≡ length (copies_in (gathered (copies_seen lists path values place 0 copies)))
so_many lists path values place copies =
    sym (ap length (copies_in_gathered (copies_seen lists path values place 0 copies)) ∙ seen_length lists path values place 0 copies)

count_is : (lists : ListsOnPaths) (path : List Step) (values : Values) (place : ℕ) (found : List MarkFacts)
    → copies_counted found ≡ count_found (marks_seen lists path values place found)
count_is lists path values place [] = refl
count_is lists path values place (m ∷ ms) =
    (λ i. so_many lists path values place (out-MarkFacts m).copies i + count_is lists path values (place + 1) ms i)
    ∙ sym (ap count_found (marks_first lists path values place m ms))

columns_are : (lists : ListsOnPaths) (path : List Step) (values : Values) (place : ℕ) (found : List MarkFacts)
    → columns_found found ≡ columns_asked (marks_seen lists path values place found)
columns_are lists path values place [] = refl
columns_are lists path values place (m ∷ ms) =
    ap (option_map_or Some (out-MarkFacts m).across) (columns_are lists path values (place + 1) ms)
    ∙ sym (ap columns_asked (marks_first lists path values place m ms))

-- the grid of facts is that of the definition
pub grid_is : (lists : ListsOnPaths) (f : HeldFrame) (l : Layout) (found : List MarkFacts) → grid_found l found ≡ grid_of l (found_in_frame lists f 0 found)
grid_is lists f l found = λ i. record {
  columns = max (unwrap_or (columns_are lists f.path.now (values_of f) 0 found i) (columns_written l (count_is lists f.path.now (values_of f) 0 found i))) 1;
  cells = count_is lists f.path.now (values_of f) 0 found i;
}

-- the view of a grid, once its cells are known
module _ (items : ItemsOfMarks) (lists : ListsOnPaths) (f : HeldFrame) (o : Object) (l : Layout) (unit number next : ℕ) (marks given : List VgMark)
    (found : List MarkFacts) (grid : Grid) (there : given ≡ marks) (follows : next ≡ number) (is : grid ≡ grid_found l found) where
  abbrev pub cells_seen_in : Grid → ℕ → List VgMark → Option (List Placed)
  cells_seen_in grid number marks = views_in items (marks_from unit number marks) (found_in_frame lists f 0 found) (frame_seen lists f) grid 0

  abbrev whole : Option Placed
  whole = grid_of_object items o l (marks_from unit number marks) (found_in_frame lists f 0 found) (frame_seen lists f)

  the_grid : grid_of l (found_in_frame lists f 0 found) ≡ grid
  the_grid = sym (is ∙ grid_is lists f l found)

  by_grid : whole ≡ option_map (grid_round o (frame_seen lists f) (spacing_of l) grid.columns) (cells_seen_in grid next given)
  by_grid = λ i. option_map (grid_round o (frame_seen lists f) (spacing_of l) (the_grid i).columns) (cells_seen_in (the_grid i) (sym follows i) (sym there i))

  pub grid_ends : (cells : List Placed) (view : Placed) → Evaluates (Ok cells) (cells_seen_in grid next given)
      → view ≡ grid_round o (frame_seen lists f) (spacing_of l) grid.columns cells → Evaluates (Ok view) whole
  grid_ends cells view views made =
      by_grid ∙ ap (option_map (grid_round o (frame_seen lists f) (spacing_of l) grid.columns)) views ∙ ap Some (sym made)

  pub grid_stops : (error : EvalError) → Evaluates {X = List Placed} (Err error) (cells_seen_in grid next given)
      → Evaluates {X = Placed} (Err error) whole
  grid_stops Overflow none = by_grid ∙ ap (option_map (grid_round o (frame_seen lists f) (spacing_of l) grid.columns)) none
  grid_stops Memory none = tt
