-- Why the points of runs in turn are those of all runs.
use Rattle.std.proofs.Common.{◌≡◌, ℕ, suc, ◌+◌, ◌<◌, ◌≤◌, Bool, Option, Some, None, Result, Ok, Err, OnOk, List, [], ◌∷◌, ◌++◌, flat_map, filter}
use Rattle.std.proofs.Common.{length, drop, get_or, refl, sym, ap, ◌∙◌, append_assoc, add-one}
use Rattle.std.proofs.Math.Seq.{drop-cons}
use Rattle.std.proofs.lemmas.List.{append-nil, drop_all}
use Rattle.std.proofs.lemmas.Result.{on_ok_weaker}
use Rattle.scene_tree.specs.declared.shape.Point.{Point}
use Rattle.mark_shapes.specs.declared.runs.PathStop.{PathStop}
use Rattle.mark_shapes.specs.Runs.{begun_with, parts, has_any, run_points, points_of}
use Rattle.mark_shapes.specs.inner.Begun.{ahead, points_behind, GoOn}

module _ {X : Type 0} where
  begun_alone : (x : X) (ps : List (List X)) → ahead [] (begun_with x ps) ≡ begun_with x ps
  begun_alone x [] = refl
  begun_alone x (p ∷ ps) = refl

  -- the parts before which nothing stands
  parts_alone : (xs : List (Option X)) → ahead [] (parts xs) ≡ parts xs
  parts_alone [] = refl
  parts_alone (None ∷ xs) = refl
  parts_alone (Some x ∷ xs) = begun_alone x (parts xs)

  -- a run with one element more
  grown : (run : List X) (x : X) (ps : List (List X)) → ahead run (begun_with x ps) ≡ ahead (run ++ x ∷ []) ps
  grown run x [] = refl
  grown run x (p ∷ ps) = ap (λ q. q ∷ ps) (sym (append_assoc run (x ∷ []) p))

module _ (closed : Bool) where
  abbrev of_runs : List (List PathStop) → List Point
  of_runs ps = flat_map (run_points closed) (filter has_any ps)

  none_begun : (stops : List (Option PathStop)) → points_behind closed [] stops ≡ points_of closed stops
  none_begun stops = ap of_runs (parts_alone stops)

  first_run : (run : List PathStop) (ps : List (List PathStop)) → of_runs (run ∷ ps) ≡ of_runs (run ∷ []) ++ of_runs ps
  first_run [] ps = refl
  first_run (s ∷ run) ps = ap (λ points. points ++ of_runs ps) (sym (append-nil (run_points closed (s ∷ run))))

  -- with no run begun, all points are behind
  pub begins : (points : List Point) (run : List PathStop) (stops : List (Option PathStop)) → points ≡ [] → run ≡ []
      → points ++ points_behind closed run stops ≡ points_of closed stops
  begins points run stops none fresh =
      ap (λ l. l ++ points_behind closed run stops) none ∙ ap (λ r. points_behind closed r stops) fresh ∙ none_begun stops

  -- a stop goes to the run
  one_stop : (points : List Point) (run longer : List PathStop) (s : PathStop) → longer ≡ run ++ s ∷ [] → GoOn closed points run (Some s) points longer
  one_stop points run longer s is stops =
      ap (λ r. points ++ points_behind closed r stops) is ∙ ap (λ ps. points ++ of_runs ps) (sym (grown run s (parts stops)))

  -- a gap ends the run
  one_gap : (points more : List Point) (run after : List PathStop) → more ≡ points ++ points_behind closed run [] → after ≡ []
      → GoOn closed points run None more after
  one_gap points more run after adds none stops =
      ap (λ r. more ++ points_behind closed r stops) none
      ∙ ap (λ l. more ++ l) (none_begun stops)
      ∙ ap (λ l. l ++ points_of closed stops) adds
      ∙ append_assoc points (points_behind closed run []) (points_of closed stops)
      ∙ ap (λ l. points ++ l) (sym (first_run (run ++ []) (parts stops)))

  -- the same, of calls that answered
  pub goes_on : {T E : Type 0} (r : Result T E) (points : List Point) (run longer : List PathStop) (s : PathStop) → OnOk r (longer ≡ run ++ s ∷ [])
      → OnOk r (GoOn closed points run (Some s) points longer)
  goes_on r points run longer s = on_ok_weaker r (one_stop points run longer s)

  pub ends_run : {T E : Type 0} (r : Result T E) (points more : List Point) (run after : List PathStop)
      → OnOk r (more ≡ points ++ points_behind closed run []) → OnOk r (after ≡ []) → OnOk r (GoOn closed points run None more after)
  ends_run (Ok x) points more run after adds none = one_gap points more run after adds none
  ends_run (Err e) points more run after adds none = tt

  -- the end of a run without a stop adds nothing
  pub ends_empty : (points : List Point) (run : List PathStop) → run ≡ [] → points ≡ points ++ points_behind closed run []
  ends_empty points run none =
      sym (append-nil points) ∙ ap (λ r. points ++ points_behind closed r []) (sym none)

  alone : (run : List PathStop) → (run ≡ [] → ⊥) → points_behind closed run [] ≡ run_points closed run
  alone [] some = absurd (some refl)
  alone (s ∷ run) some =
      append-nil (run_points closed (s ∷ (run ++ []))) ∙ ap (run_points closed) (append-nil (s ∷ run))

  -- the end of another adds its points
  pub ends_full : (points more : List Point) (run seen : List PathStop) → (run ≡ [] → ⊥) → seen ≡ run
      → more ≡ points ++ run_points closed seen → more ≡ points ++ points_behind closed run []
  ends_full points more run seen some same adds =
      adds ∙ ap (λ r. points ++ run_points closed r) same ∙ ap (λ l. points ++ l) (sym (alone run some))

  module _ (stops : List (Option PathStop)) (i : ℕ) (whole points more : List Point) (run : List PathStop) where
    -- one stop or gap more
    pub one_passed : (d : Option PathStop) (after : List PathStop) → i < length stops → d ≡ get_or stops i d
        → points ++ points_behind closed run (drop i stops) ≡ whole → GoOn closed points run d more after
        → more ++ points_behind closed after (drop (i + 1) stops) ≡ whole
    one_passed d after within is before passed =
        passed (drop (i + 1) stops)
        ∙ ap (λ k. points ++ points_behind closed run (d ∷ drop k stops)) (add-one i)
        ∙ ap (λ s. points ++ points_behind closed run (s ∷ drop (suc i) stops)) is
        ∙ ap (λ l. points ++ points_behind closed run l) (sym (drop-cons stops i d within))
        ∙ before

    -- after the last
    pub all_passed : length stops ≤ i → points ++ points_behind closed run (drop i stops) ≡ whole
        → more ≡ points ++ points_behind closed run [] → more ≡ whole
    all_passed past before adds = adds ∙ ap (λ l. points ++ points_behind closed run l) (sym (drop_all i stops past)) ∙ before
