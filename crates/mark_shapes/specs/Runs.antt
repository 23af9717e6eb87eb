-- The points of paths, by the runs of their stops. A None among stops is a gap.
use Rattle.std.specs.Prelude.{◌≡◌, refl, ℕ, Bool, true, false, ◌*◌, pos, Option, Some, None, List, [], ◌∷◌, ◌++◌, map, flat_map, filter, reverse}
use Rattle.fixed_num.specs.Number.{million}
use Rattle.scene_tree.specs.declared.shape.Point.{Point}
use Rattle.scene_tree.specs.declared.shape.Point.TheVariants.{Move, Line, Close}
use Rattle.mark_shapes.specs.declared.runs.PathStop.{PathStop}

-- an element put before the first of some lists
abbrev pub begun_with : {X : Type 0} → X → List (List X) → List (List X)
begun_with x [] = (x ∷ []) ∷ []
begun_with x (part ∷ others) = (x ∷ part) ∷ others

-- the parts of a list between its gaps; at an end with a gap, and between two gaps side by side, an empty one
abbrev pub parts : {X : Type 0} → List (Option X) → List (List X)
parts [] = [] ∷ []
parts (None ∷ xs) = [] ∷ parts xs
parts (Some x ∷ xs) = begun_with x (parts xs)

abbrev pub has_any : {X : Type 0} → List X → Bool
has_any [] = false
has_any (x ∷ xs) = true

-- the runs of a list: its longest parts without a gap
abbrev pub runs : {X : Type 0} → List (Option X) → List (List X)
runs xs = filter has_any (parts xs)

-- the steps of a path to a stop, on the way there and on the way back
abbrev pub move_there : PathStop → Point
move_there s = Move s.across.there s.down.there

abbrev pub line_there : PathStop → Point
line_there s = Line s.across.there s.down.there

abbrev pub line_back : PathStop → Point
line_back s = Line s.across.back s.down.back

-- the way there over a run: to its first stop, and along a line to each other
abbrev pub way_there : List PathStop → List Point
way_there [] = []
way_there (first ∷ others) = move_there first ∷ map line_there others

-- the way back over a run: along a line to each stop, from the last to the first, and to where it began
abbrev pub way_back : List PathStop → List Point
way_back run = map line_back (reverse run) ++ Close ∷ []

-- the points of a run; where the path is closed, it comes back
abbrev pub run_points : Bool → List PathStop → List Point
run_points false run = way_there run
run_points true run = way_there run ++ way_back run

-- the points of a path over stops: those of its runs, one after the other
abbrev pub points_of : Bool → List (Option PathStop) → List Point
points_of closed stops = flat_map (run_points closed) (runs stops)

-- The rules at work.

-- a gap at the start, at the end, and two side by side; one element is a run
the_runs : (runs {X = ℕ} (None ∷ Some 1 ∷ Some 2 ∷ []) ≡ (1 ∷ 2 ∷ []) ∷ [])
    × (runs {X = ℕ} (Some 1 ∷ None ∷ []) ≡ (1 ∷ []) ∷ [])
    × (runs {X = ℕ} (Some 1 ∷ Some 2 ∷ None ∷ None ∷ Some 3 ∷ []) ≡ (1 ∷ 2 ∷ []) ∷ (3 ∷ []) ∷ [])
the_runs = (refl, refl, refl)

no_runs : (runs {X = ℕ} (None ∷ None ∷ []) ≡ []) × (runs {X = ℕ} [] ≡ [])
no_runs = (refl, refl)

-- a stop that is the same there and back, and one with a way back at a height of its own
abbrev at_spot : ℕ → ℕ → PathStop
at_spot x y = record { across = record { there = pos x; back = pos x }; down = record { there = pos y; back = pos y } }

abbrev over : ℕ → ℕ → ℕ → PathStop
over x y base = record { across = record { there = pos x; back = pos x }; down = record { there = pos y; back = pos base } }

-- a line with a gap: M0,200 L66.666667,100 M200,0
a_line_with_a_gap : points_of false (Some (at_spot 0 (200 * million)) ∷ Some (at_spot 66666667 (100 * million)) ∷ None
    ∷ Some (at_spot (200 * million) 0) ∷ [])
    ≡ Move (pos 0) (pos (200 * million)) ∷ Line (pos 66666667) (pos (100 * million)) ∷ Move (pos (200 * million)) (pos 0) ∷ []
a_line_with_a_gap = refl

-- an area comes back along its base, from the last stop to the first
an_area : points_of true (Some (over 0 30 90) ∷ Some (over 10 20 80) ∷ [])
    ≡ Move (pos 0) (pos 30) ∷ Line (pos 10) (pos 20) ∷ Line (pos 10) (pos 80) ∷ Line (pos 0) (pos 90) ∷ Close ∷ []
an_area = refl

-- each run of an area is closed, one of a single stop too
an_area_with_a_gap : points_of true (Some (over 0 30 90) ∷ None ∷ Some (over 20 10 70) ∷ [])
    ≡ Move (pos 0) (pos 30) ∷ Line (pos 0) (pos 90) ∷ Close ∷ Move (pos 20) (pos 10) ∷ Line (pos 20) (pos 70) ∷ Close ∷ []
an_area_with_a_gap = refl

-- a path of one point, and one of none
one_point : (points_of false (None ∷ Some (at_spot 5 7) ∷ []) ≡ Move (pos 5) (pos 7) ∷ []) × (points_of true (None ∷ []) ≡ [])
one_point = (refl, refl)
