-- Runs that are begun.
use Rattle.std.specs.Prelude.{◌≡◌, Bool, Option, List, [], ◌∷◌, ◌++◌, flat_map, filter}
use Rattle.scene_tree.specs.declared.shape.Point.{Point}
use Rattle.mark_shapes.specs.declared.runs.PathStop.{PathStop}
use Rattle.mark_shapes.specs.Runs.{has_any, parts, run_points}

-- what stands before the first of some lists
abbrev pub ahead : {X : Type 0} → List X → List (List X) → List (List X)
ahead run [] = run ∷ []
ahead run (part ∷ others) = (run ++ part) ∷ others

-- the points of a path over stops, of which a run is begun
abbrev pub points_behind : Bool → List PathStop → List (Option PathStop) → List Point
points_behind closed run stops = flat_map (run_points closed) (filter has_any (ahead run (parts stops)))

-- Points and a run go on to others by a stop, or end the run at a gap: whatever stops follow, all points are the same.
abbrev pub GoOn : Bool → List Point → List PathStop → Option PathStop → List Point → List PathStop → Type 0
GoOn closed points run stop more after =
    (stops : List (Option PathStop)) → more ++ points_behind closed after stops ≡ points ++ points_behind closed run (stop ∷ stops)
