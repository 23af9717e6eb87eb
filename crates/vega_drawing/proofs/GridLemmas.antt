-- Cells of grids: marks one after the other, and the copies of a group.
use Rattle.std.proofs.Common.{◌≡◌, ℕ, suc, ◌+◌, ◌<◌, ◌≤◌, Bool, true, false, cond, Option, Some, None, List, [], ◌∷◌, ◌++◌, map, length}
use Rattle.std.proofs.Common.{get_or, drop, Ok, Err, refl, sym, ap, ◌∙◌, subst, append_assoc, append-nil, length-append, length-drop, arith}
use Rattle.std.specs.Prelude.{All, unwrap_or, is_some}
use Rattle.std.specs.Option.{option_map}
use Rattle.std.specs.List.{enumerate_from}
use Rattle.std.proofs.lemmas.List.Elements.{All-nil, All-head, All-tail, All-push}
use Rattle.expr_eval.specs.Answers.{Evaluates}
use Rattle.expr_eval.specs.declared.error.EvalError.{EvalError}
use Rattle.expr_eval.specs.declared.error.EvalError.TheVariants.{Overflow, Memory}
use Rattle.fixed_num.specs.Ranges.{◌>>=◌, all_found}
use Rattle.fixed_num.proofs.FoundLemmas.{after, one_more}
use Rattle.vega_spec.specs.declared.spec.Group.{Group, out-Group}
use Rattle.vega_spec.specs.declared.spec.VgMark.{VgMark, VgMark-F, out-VgMark}
use Rattle.plot_scenes.specs.declared.headers.Header.{Header}
use Rattle.plot_scenes.specs.declared.views.Placed.{Placed}
use Rattle.plot_scenes.specs.Views.{HasLegends}
use Rattle.vega_copies.specs.declared.facts.CopyFacts.{CopyFacts}
use Rattle.vega_copies.specs.declared.facts.MarkFacts.{MarkFacts, out-MarkFacts}
use Rattle.vega_copies.specs.Outlines.{Object, count_marks, count_groups}
use Rattle.vega_copies.specs.Facts.{Found, CopyFound, first_copies, behind_first}
use Rattle.vega_copies.specs.inner.FactsSeen.{ListsOnPaths}
use Rattle.vega_copies.specs.inner.Outlined.{marks_in, marks_of, marks_from, is_group, group_object, AreFew}
use Rattle.vega_copies.proofs.MadeLemmas.{at_place}
use Rattle.vega_copies.proofs.OutlineLemmas.{plain_from, group_from, group_counted, group_grouped, plain_counted, plain_grouped}
use Rattle.vega_copies.proofs.StandLemmas.{few_first, few_rest}
use Rattle.vega_drawing.specs.declared.frames.Frame.{Frame as HeldFrame}
use Rattle.vega_drawing.specs.declared.spots.Grid.{Grid}
use Rattle.vega_drawing.specs.declared.spots.GridSpot.{GridSpot}
use Rattle.vega_drawing.specs.Frames.{Frame, inside_of, of_no_chart}
use Rattle.vega_drawing.specs.Grids.{frame_past, headers_of, with_size}
use Rattle.vega_drawing.specs.Insides.{ItemsOfMarks}
use Rattle.vega_drawing.specs.Scales.{past, axis_past, spot_of}
use Rattle.vega_drawing.specs.Views.{views_in}
use Rattle.vega_drawing.specs.inner.Drawn.{MayShow, CopyFits, copies_from, copy_in_frame}
use Rattle.vega_drawing.specs.inner.Framed.{frame_seen, found_in_frame, values_of}
use Rattle.vega_drawing.specs.inner.Placed.{copies_counted, view_inside, view_at, cell_seen, views_of_mark, cells_of_mark, AddsViews}
use Rattle.vega_drawing.proofs.DrawnLemmas.{first_are, behind_are}
use Rattle.vega_drawing.proofs.LayoutLemmas.{seen_length}
use Rattle.vega_drawing.proofs.ShownLemmas.{some_facts, show_first, show_rest}

-- ---- lists that are found bit by bit

none_before : {X : Type 0} (o : Option (List X)) → after [] o ≡ o
none_before None = refl
none_before (Some xs) = refl

before_all : {X : Type 0} (done : List X) (o : Option (List X)) → after done o ≡ option_map (λ more. done ++ more) o
before_all done None = refl
before_all done (Some xs) = refl

-- some and then others
several_more : {X : Type 0} (done own : List X) (rest : Option (List X)) → after done (rest >>= λ others. Some (own ++ others)) ≡ after (done ++ own) rest
several_more done own None = refl
several_more done own (Some others) = ap Some (sym (append_assoc done own others))

nothing_first : {X : Type 0} (rest : Option (List X)) → rest ≡ (rest >>= λ others. Some ([] ++ others))
nothing_first None = refl
nothing_first (Some others) = refl

same : {X : Type 0} (a b : X) → Some a ≡ Some b → a ≡ b
same a b e = ap (λ o. unwrap_or o a) e

added : {X : Type 0} (old new : List X) (views : Option (List X)) → option_map (λ more. old ++ more) views ≡ Some new
    → (more : List X) × (views ≡ Some more) × (old ++ more ≡ new)
added old new None e = absurd cc
added old new (Some more) e = (more, refl, same (old ++ more) new e)

no_views : {X : Type 0} (old : List X) (o : Option (List X)) → after old o ≡ None → o ≡ None
no_views old None e = refl
no_views old (Some xs) e = absurd cc

-- nothing is added
pub adds_none : {X : Type 0} (old : List X) (o : Option (List X)) → Some [] ≡ o → option_map (λ more. old ++ more) o ≡ Some old
adds_none old o none = ap (option_map (λ more. old ++ more)) (sym none) ∙ ap Some (append-nil old)

-- ---- the cells of marks, one mark after the other

no_more : (index : ℕ) → index ≡ index + 0
no_more index = omega arith

pub at_most_copies : (m : VgMark) (n : ℕ) → cells_of_mark m n ≤ n
at_most_copies m n = by_type (is_group (out-VgMark m))
  where
    by_type : (b : Bool) → cond b n 0 ≤ n
    by_type true = omega arith
    by_type false = omega arith

pub group_cells : (m : VgMark) (n : ℕ) → is_group (out-VgMark m) ≡ true → n ≡ cells_of_mark m n
group_cells m n e = sym (ap (λ b. cond b n 0) e)

pub plain_cells : (m : VgMark) (n : ℕ) → is_group (out-VgMark m) ≡ false → 0 ≡ cells_of_mark m n
plain_cells m n e = sym (ap (λ b. cond b n 0) e)

module _ (items : ItemsOfMarks) (frame : Frame) (grid : Grid) (m : VgMark) (unit number index : ℕ) where
  abbrev cells_here : List CopyFound → Option (List Placed)
  cells_here copies = all_found (map (cell_seen items frame grid unit number (out-VgMark m)) (enumerate_from index copies))

  -- those of a group are its copies
  pub mark_of_group : (copies : List CopyFound) → is_group (out-VgMark m) ≡ true
      → cells_here copies ≡ views_of_mark items frame grid unit number m index copies
  mark_of_group copies e = sym (ap (λ b. cond b (cells_here copies) (Some [])) e)

  pub mark_of_none : (copies : List CopyFound) → is_group (out-VgMark m) ≡ false → Some [] ≡ views_of_mark items frame grid unit number m index copies
  mark_of_none copies e = sym (ap (λ b. cond b (cells_here copies) (Some [])) e)

  units : is_group (out-VgMark m) ≡ true
      → unit + count_marks (marks_of (marks_in (out-Group (out-VgMark m).group))) ≡ unit + count_marks (marks_of (m ∷ []))
  units e = let all = group_counted m [] e in omega (arith, all)

  groups : is_group (out-VgMark m) ≡ true
      → suc number + count_groups (marks_of (marks_in (out-Group (out-VgMark m).group))) ≡ number + count_groups (marks_of (m ∷ []))
  groups e = let all = group_grouped m [] e in omega (arith, all)

  one_unit : is_group (out-VgMark m) ≡ false → suc unit ≡ unit + count_marks (marks_of (m ∷ []))
  one_unit e = let all = plain_counted m [] e in omega (arith, all)

  no_group : is_group (out-VgMark m) ≡ false → number ≡ number + count_groups (marks_of (m ∷ []))
  no_group e = let all = plain_grouped m [] e in omega (arith, all)

  -- those of a mark, and then those of the others
  pub marks_split : (ms : List VgMark) (found : Found)
      → views_in items (marks_from unit number (m ∷ ms)) found frame grid index
      ≡ (views_of_mark items frame grid unit number m index (first_copies found) >>= λ own.
      views_in items (marks_from (unit + count_marks (marks_of (m ∷ []))) (number + count_groups (marks_of (m ∷ []))) ms) (behind_first found) frame grid
      (index + cells_of_mark m (length (first_copies found))) >>= λ others. Some (own ++ others))
  marks_split ms found = by_type (is_group (out-VgMark m)) refl
    where
      by_type : (b : Bool) → is_group (out-VgMark m) ≡ b → views_in items (marks_from unit number (m ∷ ms)) found frame grid index
          ≡ (views_of_mark items frame grid unit number m index (first_copies found) >>= λ own.
          views_in items (marks_from (unit + count_marks (marks_of (m ∷ []))) (number + count_groups (marks_of (m ∷ []))) ms) (behind_first found) frame grid
          (index + cells_of_mark m (length (first_copies found))) >>= λ others. Some (own ++ others))
      by_type true e =
          ap (λ marks. views_in items marks found frame grid index) (group_from unit number m ms e)
          ∙ (λ i. mark_of_group (first_copies found) e i >>= λ own.
          views_in items (marks_from (units e i) (groups e i) ms) (behind_first found) frame grid
          (index + group_cells m (length (first_copies found)) e i) >>= λ others. Some (own ++ others))
      by_type false e =
          ap (λ marks. views_in items marks found frame grid index) (plain_from unit number m ms e)
          ∙ nothing_first (views_in items (marks_from (suc unit) number ms) (behind_first found) frame grid index)
          ∙ (λ i. mark_of_none (first_copies found) e i >>= λ own.
          views_in items (marks_from (one_unit e i) (no_group e i) ms) (behind_first found) frame grid
          ((no_more index ∙ ap (λ n. index + n) (plain_cells m (length (first_copies found)) e)) i) >>= λ others. Some (own ++ others))

-- what holds before the marks that are left
pub record MarksLeft (items : ItemsOfMarks) (lists : ListsOnPaths) (f : HeldFrame) (grid : Grid) (whole : Option (List Placed)) (unit number at : ℕ)
    (marks : List VgMark) (found : List MarkFacts) (cells : List Placed) : Type 0 where
  pub views : after cells (views_in items (marks_from unit number marks) (found_in_frame lists f at found) (frame_seen lists f) grid (length cells)) ≡ whole
  pub show : MayShow marks found
  pub few : AreFew unit number marks
  pub count : length cells + copies_counted found ≤ grid.cells
  pub legends : All HasLegends cells

pub marks_begin : (items : ItemsOfMarks) (lists : ListsOnPaths) (f : HeldFrame) (grid : Grid) (unit number : ℕ) (marks : List VgMark) (found : List MarkFacts)
    (cells : List Placed) → cells ≡ [] → MayShow marks found → AreFew unit number marks → copies_counted found ≤ grid.cells
    → MarksLeft items lists f grid (views_in items (marks_from unit number marks) (found_in_frame lists f 0 found) (frame_seen lists f) grid 0) unit number 0
    marks found cells
marks_begin items lists f grid unit number marks found cells none show few count =
    subst (MarksLeft items lists f grid
    (views_in items (marks_from unit number marks) (found_in_frame lists f 0 found) (frame_seen lists f) grid 0) unit number 0
    marks found) (sym none)
    (record {
      views = none_before (views_in items (marks_from unit number marks) (found_in_frame lists f 0 found) (frame_seen lists f) grid 0);
      show = show;
      few = few;
      count = omega (arith, count);
      legends = All-nil HasLegends;
    })

-- what holds of a mark and of what was found of it
pub record MarkHere (grid : Grid) (m : VgMark) (one : MarkFacts) (unit number : ℕ) (cells : List Placed) : Type 0 where
  pub show : MayShow (m ∷ []) (one ∷ [])
  pub few : AreFew unit number (m ∷ [])
  pub room : length cells + length (out-MarkFacts one).copies ≤ grid.cells

module _ (items : ItemsOfMarks) (lists : ListsOnPaths) (f : HeldFrame) (grid : Grid) (whole : Option (List Placed)) (unit number at : ℕ) where
  pub marks_end : (marks : List VgMark) (found : List MarkFacts) (cells : List Placed) → marks ≡ []
      → MarksLeft items lists f grid whole unit number at marks found cells → Evaluates (Ok cells) whole
  marks_end marks found cells none left =
      sym left.views
      ∙ ap (λ ms. after cells (views_in items (marks_from unit number ms) (found_in_frame lists f at found) (frame_seen lists f) grid (length cells))) none
      ∙ ap Some (append-nil cells)

  module _ (all : List VgMark) (index : ℕ) (m : VgMark) (every : List MarkFacts)
      (cells : List Placed) (within : index < length all) (is : m ≡ get_or all index m)
      (left : MarksLeft items lists f grid whole unit number at (drop index all) (drop at every) cells) where
    marks_here : drop index all ≡ m ∷ drop (index + 1) all
    marks_here = at_place all index m within is

    -- there are facts for the mark
    pub facts_within : at < length every
    facts_within =
        let some = some_facts m (drop (index + 1) all) (drop at every) (subst (λ ms. MayShow ms (drop at every)) marks_here left.show) in
        let size = length-drop at every in
        omega (arith, some, size)

    module _ (one : MarkFacts) (one_is : one ≡ get_or every at one) where
      abbrev more : List MarkFacts
      more = drop (at + 1) every

      here : MarksLeft items lists f grid whole unit number at (m ∷ drop (index + 1) all) (one ∷ more) cells
      here =
          subst (λ found. MarksLeft items lists f grid whole unit number at (m ∷ drop (index + 1) all) found cells)
          (at_place every at one facts_within one_is)
          (subst (λ marks. MarksLeft items lists f grid whole unit number at marks (drop at every) cells) marks_here left)

      pub mark_here : MarkHere grid m one unit number cells
      mark_here = record {
        show = show_first m (drop (index + 1) all) one more here.show;
        few = few_first unit number m (drop (index + 1) all) here.few;
        room = let count = here.count in omega (arith, count);
      }

      abbrev copies : List CopyFound
      copies = copies_from lists f at 0 (out-MarkFacts one).copies

      abbrev so_many : ℕ
      so_many = cells_of_mark m (length (out-MarkFacts one).copies)

      abbrev views_here : Option (List Placed)
      views_here = views_of_mark items (frame_seen lists f) grid unit number m (length cells) copies

      abbrev others_in : Found → ℕ → Option (List Placed)
      others_in found n =
          views_in items (marks_from (unit + count_marks (marks_of (m ∷ []))) (number + count_groups (marks_of (m ∷ []))) (drop (index + 1) all)) found
          (frame_seen lists f) grid n

      abbrev others : ℕ → Option (List Placed)
      others n = others_in (found_in_frame lists f (at + 1) more) n

      as_many : length (first_copies (found_in_frame lists f at (one ∷ more))) ≡ length (out-MarkFacts one).copies
      as_many = ap length (first_are lists f at one more) ∙ seen_length lists f.path.now (values_of f) at 0 (out-MarkFacts one).copies

      views_now : whole ≡ after cells (views_here >>= λ own. others (length cells + so_many) >>= λ others. Some (own ++ others))
      views_now =
          sym here.views
          ∙ ap (after cells)
          (marks_split items (frame_seen lists f) grid m unit number (length cells) (drop (index + 1) all) (found_in_frame lists f at (one ∷ more))
          ∙ (λ i. views_of_mark items (frame_seen lists f) grid unit number m (length cells) (first_are lists f at one more i) >>= λ own.
          others_in (behind_are lists f at one more i) (length cells + cells_of_mark m (as_many i)) >>= λ others. Some (own ++ others)))

      -- the next mark
      pub marks_next : (new : List Placed) (u n : ℕ) → AddsViews {X = Unit {0}} (Ok tt) cells new views_here
          → length new ≡ length cells + so_many → All HasLegends new → u ≡ unit + count_marks (marks_of (m ∷ []))
          → n ≡ number + count_groups (marks_of (m ∷ []))
          → MarksLeft items lists f grid whole u n (at + 1) (drop (index + 1) all) more new
      marks_next new u n adds long legends us ns =
          subst (λ u. MarksLeft items lists f grid whole u n (at + 1) (drop (index + 1) all) more new) (sym us)
          (subst (λ n. MarksLeft items lists f grid whole (unit + count_marks (marks_of (m ∷ []))) n (at + 1) (drop (index + 1) all) more new) (sym ns) base)
        where
          joined : (own : List Placed) × (views_here ≡ Some own) × (cells ++ own ≡ new) → after new (others (length new)) ≡ whole
          joined (own, found, grown) =
              sym (views_now
              ∙ ap (λ o. after cells (o >>= λ own. others (length cells + so_many) >>= λ others. Some (own ++ others))) found
              ∙ several_more cells own (others (length cells + so_many))
              ∙ (λ i. after (grown i) (others (sym long i))))

          base : MarksLeft items lists f grid whole (unit + count_marks (marks_of (m ∷ []))) (number + count_groups (marks_of (m ∷ []))) (at + 1)
              (drop (index + 1) all) more new
          base = record {
            views = joined (added cells new views_here adds);
            show = show_rest m (drop (index + 1) all) one more here.show;
            few = few_rest unit number m (drop (index + 1) all) here.few;
            count = let count = here.count in let bound = at_most_copies m (length (out-MarkFacts one).copies) in omega (arith, count, long, bound);
            legends = legends;
          }

      pub marks_stop : (new : List Placed) (error : EvalError) → AddsViews {X = Unit {0}} (Err error) cells new views_here
          → Evaluates {X = List Placed} (Err error) whole
      marks_stop new Overflow none =
          views_now ∙ ap (λ o. after cells (o >>= λ own. others (length cells + so_many) >>= λ others. Some (own ++ others))) none
      marks_stop new Memory none = tt

-- ---- the copies of a group, one after the other

headers_past : (o : Object) (spot : GridSpot) (outer : Frame) → (frame_past o spot outer).headers ≡ outer.headers
headers_past o spot outer = by_facet (is_some o.facet)
  where
    by_facet : (b : Bool)
        → (cond b (record outer { scales = map (past spot) outer.scales; axes = map (axis_past spot) outer.axes }) outer).headers ≡ outer.headers
    by_facet true = refl
    by_facet false = refl

-- a cell, by its spot
module _ (items : ItemsOfMarks) (frame : Frame) (grid : Grid) (unit number index : ℕ) (m : VgMark-F Group VgMark) (copy : CopyFound) where
  abbrev headed_by : List Header → Option Placed
  headed_by headers =
      with_size (group_object number m)
      (record (inside_of of_no_chart (frame_past (group_object number m) (spot_of grid.columns grid.cells index) frame) (group_object number m) copy.facts) {
        headers = headers_of (group_object number m) copy.facts ++ headers;
      })
      >>= view_inside items unit number m copy.inside

  pub cell_at_spot : (spot : GridSpot) → spot ≡ spot_of grid.columns grid.cells index
      → view_at items (frame_past (group_object number m) spot frame) unit number m copy ≡ cell_seen items frame grid unit number m (index, copy)
  cell_at_spot spot is =
      ap (λ spot. view_at items (frame_past (group_object number m) spot frame) unit number m copy) is
      ∙ ap headed_by (headers_past (group_object number m) (spot_of grid.columns grid.cells index) frame)

pub record CellsLeft (items : ItemsOfMarks) (lists : ListsOnPaths) (f : HeldFrame) (grid : Grid) (unit number place : ℕ) (m : VgMark)
    (whole : Option (List Placed)) (all n : ℕ) (copies : List CopyFacts) (old cells : List Placed) : Type 0 where
  pub views : after cells (all_found (map (cell_seen items (frame_seen lists f) grid unit number (out-VgMark m))
      (enumerate_from (length cells) (copies_from lists f place n copies)))) ≡ after old whole
  pub fits : All (CopyFits (out-VgMark m)) copies
  pub count : length cells + length copies ≡ length old + all
  pub legends : All HasLegends old → All HasLegends cells

module _ (items : ItemsOfMarks) (lists : ListsOnPaths) (f : HeldFrame) (grid : Grid) (unit number place : ℕ) (m : VgMark) where
  abbrev cell_views : ℕ → ℕ → List CopyFacts → Option (List Placed)
  cell_views index n copies =
      all_found (map (cell_seen items (frame_seen lists f) grid unit number (out-VgMark m)) (enumerate_from index (copies_from lists f place n copies)))

  pub cells_begin : (copies : List CopyFacts) (old : List Placed) → All (CopyFits (out-VgMark m)) copies
      → CellsLeft items lists f grid unit number place m (cell_views (length old) 0 copies) (length copies) 0 copies old old
  cells_begin first old fits = record { views = refl; fits = fits; count = refl; legends = λ all. all }

  module _ (whole : Option (List Placed)) (size n : ℕ) where
    module _ (all : List CopyFacts) (copy : CopyFacts) (old cells : List Placed) (within : n < length all) (one : copy ≡ get_or all n copy)
        (left : CellsLeft items lists f grid unit number place m whole size n (drop n all) old cells) where
      abbrev others_left : List CopyFacts
      others_left = drop (n + 1) all

      told_copy : drop n all ≡ copy ∷ others_left
      told_copy = at_place all n copy within one

      abbrev here_found : CopyFound
      here_found = copy_in_frame lists f (record { mark = place; copy = n }) copy

      pub copy_here : CopyFits (out-VgMark m) copy
      copy_here = All-head (CopyFits (out-VgMark m)) copy others_left (subst (All (CopyFits (out-VgMark m))) told_copy left.fits)

      pub spot_within : length old + size ≤ grid.cells → length cells < grid.cells
      spot_within room = let count = left.count in let long = ap length told_copy in omega (arith, room, count, long)

      abbrev and_others : Option Placed → Option (List Placed)
      and_others o = after cells (o >>= λ view. cell_views (length cells + 1) (n + 1) others_left >>= λ others. Some (view ∷ others))

      cell_here : after old whole ≡ and_others (cell_seen items (frame_seen lists f) grid unit number (out-VgMark m) (length cells, here_found))
      cell_here = sym left.views ∙ ap (λ copies. after cells (cell_views (length cells) n copies)) told_copy

      module _ (spot : GridSpot) (is : spot ≡ spot_of grid.columns grid.cells (length cells)) where
        abbrev view_here : Option Placed
        view_here = view_at items (frame_past (group_object number (out-VgMark m)) spot (frame_seen lists f)) unit number (out-VgMark m) here_found

        by_spot : after old whole ≡ and_others view_here
        by_spot =
            cell_here
            ∙ ap and_others (sym (cell_at_spot items (frame_seen lists f) grid unit number (length cells) (out-VgMark m) here_found spot is))

        pub cells_next : (view : Placed) (new : List Placed) → Evaluates (Ok view) view_here → HasLegends view → new ≡ cells ++ view ∷ []
            → CellsLeft items lists f grid unit number place m whole size (n + 1) others_left old new
        cells_next view new here shown grown = record {
          views = sym (by_spot ∙ ap and_others here
              ∙ sym (one_more cells view (cell_views (length cells + 1) (n + 1) others_left))
              ∙ (λ i. after (sym grown i) (cell_views (sym longer i) (n + 1) others_left)));
          fits = All-tail (CopyFits (out-VgMark m)) copy others_left (subst (All (CopyFits (out-VgMark m))) told_copy left.fits);
          count = let count = left.count in let long = ap length told_copy in omega (arith, count, long, longer);
          legends = λ before. subst (All HasLegends) (sym grown) (All-push HasLegends cells view (left.legends before) shown);
        }
          where
            longer : length new ≡ length cells + 1
            longer = ap length grown ∙ length-append cells (view ∷ [])

        pub cells_stop : (new : List Placed) (error : EvalError) → Evaluates {X = Placed} (Err error) view_here
            → AddsViews {X = Unit {0}} (Err error) old new whole
        cells_stop new Overflow none = no_views old whole (by_spot ∙ ap and_others none)
        cells_stop new Memory none = tt

    module _ (copies : List CopyFacts) (old cells : List Placed) (told : copies ≡ [])
        (left : CellsLeft items lists f grid unit number place m whole size n copies old cells) where
      pub cells_end : AddsViews {X = Unit {0}} (Ok tt) old cells whole
      cells_end =
          sym (before_all old whole) ∙ sym left.views ∙ ap (λ copies. after cells (cell_views (length cells) n copies)) told
          ∙ ap Some (append-nil cells)

      pub cells_count : length cells ≡ length old + size
      cells_count = let count = left.count in let long = ap length told in omega (arith, count, long)
