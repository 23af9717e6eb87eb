-- Where the ends of marks stand, branch by branch. A `value` is a number of pixels. A cell stands on the scale of its direction: at its place, which
-- on a band is the lesser end, or at the middle of its band, which on a scale without bands is the place; a measure that is stacked stands at its
-- stack's end. What spans a band goes over the whole band; what spans a bin or a unit of time on a continuous scale goes from the start's place to
-- the end's where the scale's range rises, else from the end's to the start's; anything else is 5 wide. A bin's middle is half of the sum of its
-- ends. A channel that is absent is one null on a scale of its own. Where nothing is said for a row, x and y are the middle of the plot; but what
-- spans bands stands at the band of null, and along the measure of a bar nothing has a place.
use Rattle.std.specs.Prelude.{ℕ, ◌==◌, ◌||◌, ◌&&◌, ℤ, pos, neg_ℤ, Bool, true, false, not, Option, Some, None, List, [], ◌∷◌, ◌++◌, map}
use Rattle.std.specs.Prelude.{if◌then◌else◌}
use Rattle.std.specs.Option.{option_map_or}
use Rattle.std.specs.Str.{bytes_eq}
use Rattle.cell_value.specs.declared.cell.Cell.{Cell}
use Rattle.cell_value.specs.declared.cell.Cell.TheVariants.{Null}
use Rattle.expr_syntax.specs.declared.expr.BinOp.TheVariants.{Add, Sub, Div}
use Rattle.expr_syntax.specs.declared.expr.Expr.{Expr}
use Rattle.expr_syntax.specs.declared.expr.Expr.TheVariants as expr
use Rattle.vl_spec.specs.declared.definitions.Definition.{Definition}
use Rattle.vl_spec.specs.declared.definitions.Definition.TheVariants as definition
use Rattle.scale_infer.specs.declared.codes.TheConstants.{LINEAR, TIME, BAND}
use Rattle.scale_infer.specs.Types.{is_binned}
use Rattle.plan_kit.specs.declared.cells.CellOf.{CellOf}
use Rattle.plan_kit.specs.declared.cells.CellOf.TheVariants.{Field, Written, Computed}
use Rattle.unit_plan.specs.declared.ends.End.{End}
use Rattle.unit_plan.specs.declared.ends.End.TheVariants as end
use Rattle.plan_kit.specs.declared.marks.Spot.{Spot}
use Rattle.plan_kit.specs.declared.marks.Spot.TheVariants.{Pixels, Place, Centre, EndOfBand, Base, Middle, Foot, Nowhere}
use Rattle.plan_kit.specs.declared.marks.SpotWay.{SpotWay}
use Rattle.unit_plan.specs.declared.seen.ScaleSeen.{ScaleSeen}
use Rattle.unit_plan.specs.declared.stacks.Stacked.{Stacked}
use Rattle.unit_plan.specs.Branches.{Branch, covers, is_empty}
use Rattle.unit_plan.specs.Cells.{cell_of, end_of}
use Rattle.unit_plan.specs.Filters.{all_hold}
use Rattle.unit_plan.specs.Lanes.{Lane}
use Rattle.plan_kit.specs.Literals.{whole}

-- a way without a test
abbrev pub always : Spot → Option ℤ → SpotWay
always spot offset = record { test = None; gives = spot; offset = offset }

-- half of what is 5 wide, and what lies between the bars of neighbouring bins
abbrev pub half_width : ℤ
half_width = pos 2500000

abbrev pub gap_of : Bool → Option ℤ
gap_of true = Some (pos 1000000)
gap_of false = None

abbrev pub is_band : ScaleSeen → Bool
is_band s = s.kind == BAND

abbrev pub is_line : ScaleSeen → Bool
is_line s = s.kind == LINEAR || s.kind == TIME

-- of the start and the end of a bin or unit the one with the lesser place, and the other
abbrev pub lesser : ScaleSeen → CellOf → List ℕ → CellOf
lesser s start end = if s.rises then start else Field end

abbrev pub greater : ScaleSeen → CellOf → List ℕ → CellOf
greater s start end = if s.rises then Field end else start

-- about a cell, 5 wide
abbrev pub near_about : ScaleSeen → CellOf → SpotWay
near_about s cell = always (Centre s.number cell) (Some (neg_ℤ half_width))

abbrev pub far_about : ScaleSeen → CellOf → SpotWay
far_about s cell = always (Centre s.number cell) (Some half_width)

-- over a bin or a unit of time that has an end, or about a cell that has none
abbrev pub near_cut : Bool → ScaleSeen → CellOf → Option (List ℕ) → SpotWay
near_cut gap s cell None = near_about s cell
near_cut gap s cell (Some end) = if is_line s then always (Place s.number (lesser s cell end)) (gap_of gap) else near_about s cell

abbrev pub far_cut : ScaleSeen → CellOf → Option (List ℕ) → SpotWay
far_cut s cell None = far_about s cell
far_cut s cell (Some end) = if is_line s then always (Place s.number (greater s cell end)) None else far_about s cell

-- over the band of a cell, or else over its bin or unit, or about it
abbrev pub near_on : Bool → ScaleSeen → CellOf → Option (List ℕ) → SpotWay
near_on gap s cell end = if is_band s then always (Place s.number cell) None else near_cut gap s cell end

abbrev pub far_on : ScaleSeen → CellOf → Option (List ℕ) → SpotWay
far_on s cell end = if is_band s then always (EndOfBand s.number cell) None else far_cut s cell end

-- in the middle of two cells of a row
abbrev pub middle_expr : List ℕ → List ℕ → Expr
middle_expr start end =
    expr.Binary Add (expr.Field start) (expr.Binary Div (expr.Binary Sub (expr.Field end) (expr.Field start)) (whole 2))

abbrev pub middle_by : CellOf → List ℕ → CellOf
middle_by (Field start) end = Computed (middle_expr start end)
middle_by (Written cell) end = Written cell
middle_by (Computed e) end = Computed e

abbrev pub middle_of : CellOf → Option (List ℕ) → CellOf
middle_of cell None = cell
middle_of cell (Some end) = middle_by cell end

-- a cell, or the middle of its bin on a continuous scale
abbrev pub middle_cell : ScaleSeen → ℕ → Definition → CellOf
middle_cell s channel d = if is_line s && is_binned d then middle_of (cell_of channel d) (end_of channel d) else cell_of channel d

-- An end for a definition on a scale. `Near` and `Far` are the two ends of what is spanned, the first with a gap; `Place` is the cell's place; `PlaceOrCentre`
-- the place on bands, else the centre; `Centre` the middle of the cell's band; `Middle` that of its bin on a continuous scale; `Before` and `Behind` lie half a
-- size from there; the start and the centre of a stack stand at the base of a scale where nothing is stacked.
abbrev pub plain_on : End → ScaleSeen → ℕ → Definition → SpotWay
plain_on (end.Near gap) s channel d = near_on gap s (cell_of channel d) (end_of channel d)
plain_on end.Far s channel d = far_on s (cell_of channel d) (end_of channel d)
plain_on end.Place s channel d = always (Place s.number (cell_of channel d)) None
plain_on end.PlaceOrCentre s channel d =
    if is_band s then always (Place s.number (cell_of channel d)) None else always (Centre s.number (cell_of channel d)) None
plain_on end.Centre s channel d = always (Centre s.number (cell_of channel d)) None
plain_on end.Middle s channel d = always (Centre s.number (middle_cell s channel d)) None
plain_on (end.Before half) s channel d = always (Centre s.number (middle_cell s channel d)) (Some (neg_ℤ half))
plain_on (end.Behind half) s channel d = always (Centre s.number (middle_cell s channel d)) (Some half)
plain_on end.StackStart s channel d = always (Base s.number) None
plain_on end.StackCentre s channel d = always (Base s.number) None

-- an end for the measure that is stacked
abbrev pub stacked_on : End → ScaleSeen → Stacked → Definition → SpotWay
stacked_on (end.Near gap) s st d = always (Place s.number (Field st.end)) None
stacked_on end.Far s st d = always (Place s.number (Field st.start)) None
stacked_on end.Place s st d = always (Place s.number (Field st.end)) None
stacked_on end.PlaceOrCentre s st d = plain_on end.PlaceOrCentre s st.channel d
stacked_on end.Centre s st d = always (Centre s.number (Field st.end)) None
stacked_on end.Middle s st d = always (Centre s.number (Field st.end)) None
stacked_on (end.Before half) s st d = always (Centre s.number (Field st.end)) (Some (neg_ℤ half))
stacked_on (end.Behind half) s st d = always (Centre s.number (Field st.end)) (Some half)
stacked_on end.StackStart s st d = always (Place s.number (Field st.start)) None
stacked_on end.StackCentre s st d = always (Centre s.number (Field st.start)) None

-- whether a cell is that of a name
abbrev pub is_named : List ℕ → CellOf → Bool
is_named name (Field field) = bytes_eq field name
is_named name (Written cell) = false
is_named name (Computed e) = false

-- whether a definition shows the cells that are stacked
abbrev pub shows_stack : Stacked → Definition → Bool
shows_stack st d = is_named st.name (cell_of st.channel d)

abbrev pub stand_cell : End → ℕ → ScaleSeen → Option Stacked → Definition → SpotWay
stand_cell end channel s None d = plain_on end s channel d
stand_cell end channel s (Some st) d = if shows_stack st d then stacked_on end s st d else plain_on end s channel d

-- an end for a definition that has a scale, nowhere where there is none
abbrev pub stand_on : End → Lane → Definition → SpotWay
stand_on end lane d = option_map_or (λ s. stand_cell end lane.channel s lane.stacked d) lane.scale (always Nowhere None)

-- the base of a direction: of its scale, or, where it shows pixels alone, 0 along x and the height of the plot along y
abbrev pub base_on : Bool → Option ScaleSeen → Spot
base_on shows None = Foot
base_on shows (Some s) = if s.alone && shows then Foot else Base s.number

abbrev pub base : Lane → SpotWay
base lane = always (base_on (not (is_empty lane.branches)) lane.scale) None

-- how far an end for pixels is moved
abbrev pub pixels_by : End → Option ℤ
pixels_by (end.Near gap) = Some (neg_ℤ half_width)
pixels_by end.Far = Some half_width
pixels_by end.Place = None
pixels_by end.PlaceOrCentre = None
pixels_by end.Centre = None
pixels_by end.Middle = None
pixels_by (end.Before half) = Some (neg_ℤ half)
pixels_by (end.Behind half) = Some half
pixels_by end.StackStart = None
pixels_by end.StackCentre = None

-- whether an end is where a stack begins
abbrev pub is_stack_start : End → Bool
is_stack_start (end.Near gap) = false
is_stack_start end.Far = false
is_stack_start end.Place = false
is_stack_start end.PlaceOrCentre = false
is_stack_start end.Centre = false
is_stack_start end.Middle = false
is_stack_start (end.Before half) = false
is_stack_start (end.Behind half) = false
is_stack_start end.StackStart = true
is_stack_start end.StackCentre = true

-- an end for a number of pixels
abbrev pub pixels_at : End → Lane → Cell → SpotWay
pixels_at end lane cell = if is_stack_start end then base lane else always (Pixels cell) (pixels_by end)

-- an end for a definition
abbrev pub stand : End → Lane → Definition → SpotWay
stand end lane (definition.Value cell) = pixels_at end lane cell
stand end lane (definition.Datum d) = stand_on end lane (definition.Datum d)
stand end lane (definition.Field d) = stand_on end lane (definition.Field d)

-- an end of a direction whose channel is absent: that of a null
abbrev pub null_on : End → ScaleSeen → SpotWay
null_on (end.Near gap) s = near_on gap s (Written Null) None
null_on end.Far s = far_on s (Written Null) None
null_on end.Place s = always (Place s.number (Written Null)) None
null_on end.PlaceOrCentre s = if is_band s then always (Place s.number (Written Null)) None else always (Centre s.number (Written Null)) None
null_on end.Centre s = always (Centre s.number (Written Null)) None
null_on end.Middle s = always (Centre s.number (Written Null)) None
null_on (end.Before half) s = always (Centre s.number (Written Null)) (Some (neg_ℤ half))
null_on (end.Behind half) s = always (Centre s.number (Written Null)) (Some half)
null_on end.StackStart s = always (Base s.number) None
null_on end.StackCentre s = always (Base s.number) None

abbrev pub absent : End → Lane → SpotWay
absent end lane = option_map_or (null_on end) lane.scale (always Nowhere None)

-- whether the scale of a direction has bands
abbrev pub has_bands : Lane → Bool
has_bands lane = option_map_or is_band lane.scale false

-- an end for a row of which nothing is said
abbrev pub open_end : End → Lane → SpotWay
open_end (end.Near gap) lane = if has_bands lane then absent (end.Near gap) lane else always Middle (Some (neg_ℤ half_width))
open_end end.Far lane = if has_bands lane then absent end.Far lane else always Middle (Some half_width)
open_end end.Place lane = always Nowhere None
open_end end.PlaceOrCentre lane = if has_bands lane then absent end.PlaceOrCentre lane else always Middle None
open_end end.Centre lane = always Middle None
open_end end.Middle lane = always Middle None
open_end (end.Before half) lane = always Middle (Some (neg_ℤ half))
open_end (end.Behind half) lane = always Middle (Some half)
open_end end.StackStart lane = base lane
open_end end.StackCentre lane = base lane

-- an end where no branch counts
abbrev pub otherwise : End → Lane → SpotWay
otherwise end lane = if is_empty lane.branches then absent end lane else open_end end lane

-- what a branch gives
abbrev pub way : (List ℕ → Bool) → (Definition → SpotWay) → Branch → SpotWay
way is_selection stands b = record (stands b.shows) { test = all_hold is_selection b.tests }

-- an end of a direction
abbrev pub ways : (List ℕ → Bool) → End → Lane → List SpotWay
ways is_selection end lane =
    map (way is_selection (stand end lane)) lane.branches ++ (if covers lane.branches then [] else otherwise end lane ∷ [])

-- the second end for a definition on the scale of the first: at its place, or at the middle of its band; pixels alone leave no scale
abbrev pub second_spot : Bool → ScaleSeen → CellOf → Spot
second_spot centre s cell = if s.alone then Nowhere else (if centre then Centre s.number cell else Place s.number cell)

abbrev pub second_on : Bool → Lane → Definition → SpotWay
second_on centre lane d = option_map_or (λ s. always (second_spot centre s (cell_of lane.second d)) None) lane.scale (always Nowhere None)

abbrev pub second : Bool → Lane → Definition → SpotWay
second centre lane (definition.Value cell) = always (Pixels cell) None
second centre lane (definition.Datum d) = second_on centre lane (definition.Datum d)
second centre lane (definition.Field d) = second_on centre lane (definition.Field d)

-- the second end of a direction, and what it is where nothing is said of it
abbrev pub seconds : (List ℕ → Bool) → Bool → Lane → List SpotWay → List SpotWay
seconds is_selection centre lane unsaid =
    map (way is_selection (second centre lane)) lane.seconds ++ (if covers lane.seconds then [] else unsaid)
