-- Plans and cells, one form after another.
use Rattle.std.proofs.Common.{◌≡◌, ℕ, List, [], ◌∷◌, ◌++◌, length, sym, ap, ◌∙◌, arith, append-nil, inl, inr, subst}
use Rattle.std.specs.Prelude.{map, max, ℤ, Bool, ◌⊎◌, Result, IfOk}
use Rattle.view_layout.specs.declared.spans.Span.{Span}
use Rattle.view_layout.specs.declared.boxes.BoxTree.{BoxTree, fold-roll-BoxTree}
use Rattle.view_layout.specs.declared.boxes.BoxTree.TheOpen as form
use Rattle.view_layout.specs.declared.boxes.BoxTree.TheVariants as tree
use Rattle.view_layout.specs.declared.plan.Plan.{Plan, fold-roll-Plan}
use Rattle.view_layout.specs.declared.plan.Plan.TheOpen as planned
use Rattle.view_layout.specs.declared.plan.Plan.TheVariants as plan
use Rattle.view_layout.specs.declared.plan.Standing.{Standing}
use Rattle.view_layout.specs.declared.grid.Arranged.{Arranged}
use Rattle.view_layout.specs.declared.grid.Cells.{Cells}
use Rattle.view_layout.specs.Lengths.{length_of}
use Rattle.view_layout.specs.Grid.{columns_of, rows_of}
use Rattle.view_layout.specs.Layout.{Cell, Places, places_in, places_below, grid_by, grid_of, cell_here, cell_of}
use Rattle.view_layout.specs.inner.Plans.{places_here, places_of, seen, AreSeen}

-- where the cells or the corners have ended, nothing is left
pub ended : (out all : List Standing) (plans : List Plan) (corners : List (ℕ × ℕ)) (x y : ℕ)
    → (length plans ≡ 0) ⊎ (length corners ≡ 0) → out ++ places_in (map places_of plans) corners x y ≡ all → out ≡ all
ended out all [] corners x y end is = sym (append-nil out) ∙ is
ended out all (first ∷ plans) [] x y end is = sym (append-nil out) ∙ is
ended out all (first ∷ plans) (corner ∷ corners) x y (inl end) is = absurd (omega arith)
ended out all (first ∷ plans) (corner ∷ corners) x y (inr end) is = absurd (omega arith)

-- in a grid stands its title, and then what stands in its cells at their corners
pub places_of_grid : (title : Bool) (width : ℤ) (corners : List (ℕ × ℕ)) (plans : List Plan)
    → places_of (plan.Grid title width corners plans) ≡ places_below title width (places_in (map places_of plans) corners)
places_of_grid title width corners plans =
    ap places_of (sym (plan.rolls-Grid title width corners plans))
    ∙ fold-roll-Plan Places places_here (planned.Grid title width corners plans)

-- a grid of the columns and the rows of its cells
pub grid_from_spans : {E : Type 0} (n gap : ℕ) (title : Bool) (across down columns rows : List Span) (plans : List Plan)
    (r : Result Arranged E) → columns ≡ columns_of n across → rows ≡ rows_of n down
    → IfOk r (λ arranged. seen arranged ≡ grid_by gap title columns rows (map places_of plans))
    → IfOk r (λ arranged. seen arranged ≡ grid_of n gap title across down (map places_of plans))
grid_from_spans n gap title across down columns rows plans r columns_are rows_are is =
    subst (λ cs. IfOk r (λ arranged. seen arranged ≡ grid_by gap title cs (rows_of n down) (map places_of plans))) columns_are
    (subst (λ rs. IfOk r (λ arranged. seen arranged ≡ grid_by gap title columns rs (map places_of plans))) rows_are is)

-- a grid is seen as the cell of its tree, where its cells are
pub grid_seen : (t : BoxTree) (columns : ℕ) (spacing : ℤ) (title : Bool) (trees : List BoxTree) (n gap : ℕ) (slice : List BoxTree)
    (made : Cells) (r : Arranged) → t ≡ tree.Grid columns spacing title trees → n ≡ max columns 1 → gap ≡ length_of spacing
    → slice ≡ trees → AreSeen made (map cell_of slice)
    → seen r ≡ grid_of n gap title made.across made.down (map places_of made.plans) → seen r ≡ cell_of t
grid_seen t columns spacing title trees n gap slice made r form_is n_is gap_is slice_is are is =
    let across : List Cell → List Span = map (λ (cell : Cell). cell.across) in
    let down : List Cell → List Span = map (λ (cell : Cell). cell.down) in
    let places : List Cell → List Places = map (λ (cell : Cell). cell.places) in
    is
    ∙ ap (λ (spans : List Span). grid_of n gap title spans made.down (map places_of made.plans)) are.across
    ∙ ap (λ (spans : List Span). grid_of n gap title (across (map cell_of slice)) spans (map places_of made.plans)) are.down
    ∙ ap (λ (own : List Places). grid_of n gap title (across (map cell_of slice)) (down (map cell_of slice)) own) are.places
    ∙ ap (λ (ts : List BoxTree). grid_of n gap title (across (map cell_of ts)) (down (map cell_of ts)) (places (map cell_of ts))) slice_is
    ∙ ap (λ (k : ℕ). grid_of k gap title (across (map cell_of trees)) (down (map cell_of trees)) (places (map cell_of trees))) n_is
    ∙ ap (λ (k : ℕ). grid_of (max columns 1) k title (across (map cell_of trees)) (down (map cell_of trees)) (places (map cell_of trees)))
    gap_is
    ∙ sym (ap cell_of form_is ∙ ap cell_of (sym (tree.rolls-Grid columns spacing title trees))
    ∙ fold-roll-BoxTree Cell cell_here (form.Grid columns spacing title trees))
