-- Each plot that is drawn is one of the stretches of the text.
use Rattle.std.proofs.Common.{◌≡◌, ℕ, suc, ◌+◌, ◌<◌, ◌&&◌, ◌||◌, not, Bool, true, false, cond, Option, Some, None, List, [], ◌∷◌, ◌++◌, map, length}
use Rattle.std.proofs.Common.{refl, sym, ap, ap₂, subst, ◌∙◌, arith}
use Rattle.std.specs.Prelude.{ℤ, find, filter, is_some, flat_map, ◌==◌, nat_lt}
use Rattle.std.specs.Option.{option_map, option_map_or, option_or}
use Rattle.std.specs.List.{enumerate_from}
use Rattle.std.specs.Str.{bytes_eq}
use Rattle.std.proofs.lemmas.Bool.Decides.{Decides-eqb, nat_tests}
use Rattle.fixed_num.specs.Ranges.{◌>>=◌, all_found}
use Rattle.cell_value.specs.declared.cell.Cell.{Cell}
use Rattle.cell_value.specs.Row.{row_of}
use Rattle.scale_kit.specs.declared.scale.Scale.TheVariants.{Linear, Time, Band, Point, Ordinal, Ramp}
use Rattle.scale_kit.specs.declared.scale.ScaleIn.{ScaleIn}
use Rattle.scale_kit.specs.Scale.{IsScale, IsPixel}
use Rattle.selection_events.specs.Drags.{is_time}
use Rattle.selection_events.specs.Kept.{IsFacetRow}
use Rattle.selection_events.proofs.FieldLemmas.{entries_have}
use Rattle.vega_spec.specs.declared.guides.Layout.{Layout}
use Rattle.vega_spec.specs.declared.scales.Scale.{Scale as VegaScale}
use Rattle.vega_scales.specs.declared.scaled.Scaled.{Scaled}
use Rattle.vega_scales.specs.declared.scaled.Scaled.TheVariants as scaled
use Rattle.vega_scales.specs.Scales.{is_ordinal, is_ramp, band, point, ordinal, time, FitsScale, scale_over}
use Rattle.vega_scales.specs.Scales as scaling
use Rattle.vega_scales.proofs.FitsLemmas.{scale_is}
use Rattle.plot_scenes.specs.declared.views.Plot.{Plot}
use Rattle.plot_scenes.specs.declared.views.PanelHere.{PanelHere}
use Rattle.plot_scenes.specs.declared.views.Part.{Part}
use Rattle.plot_scenes.specs.declared.views.Part.TheVariants.{Title, OfPlot}
use Rattle.plot_scenes.specs.declared.views.Placed.{Placed}
use Rattle.plot_scenes.specs.Views.{plot_panel, placed_plot, titled}
use Rattle.plot_scenes.specs.Axes.{axes_at}
use Rattle.vega_copies.specs.Outlines.{Object, Marks, NoMarks, AMark, AGroup, first_unit, numbered, count_marks, count_groups}
use Rattle.vega_copies.specs.Facts.{Found, CopyFound, first_copies, behind_first}
use Rattle.vega_copies.specs.inner.Kept.{KeepsObject, KeepsMarks}
use Rattle.vega_drawing.specs.declared.spots.Grid.{Grid}
use Rattle.vega_drawing.specs.Frames.{Frame}
use Rattle.vega_drawing.specs.Grids.{grid_of, cell_at}
use Rattle.vega_drawing.specs.Guides.{axes_over}
use Rattle.vega_drawing.specs.Insides.{Inside, ItemsOfMarks, with_guides, drawn_in}
use Rattle.vega_drawing.specs.Plots.{plot_of, scales_of_plot}
use Rattle.vega_drawing.specs.Scales.{ScaleHere, scale_in}
use Rattle.vega_drawing.specs.Views.{grid_here, grid_round, spacing_of, view_round, views_in, view_of}
use Rattle.vega_meaning.specs.Times.{is_of_time, is_time_named}
use Rattle.vega_meaning.proofs.Stretches.{Stretch, Round, inside_round, alone_in, plot_in, in_object, stretches}
use Rattle.vega_meaning.proofs.PlotsFound.{stretch_at, total, at_first, at_later}
use Rattle.vega_meaning.proofs.DrawnFacts.{Each, each_weaker, each-append, all_given, fields_of_cells, FactsAre, FoundIs}
use Rattle.vega_meaning.proofs.DrawnFrames.{IsKeptHere, named, named_here, of_specification, FrameIs, IsCopyOf, HasPixels, each_found, each-filter, cell_is}

-- ---- numbers

-- marks are numbered from a number on
abbrev pub IsNumbered : ℕ → Marks → Type 0
IsNumbered n NoMarks = Unit {0}
IsNumbered n (AMark unit m others) = (unit ≡ n) × IsNumbered (suc n) others
IsNumbered n (AGroup o inside others) = IsNumbered n inside × IsNumbered (n + count_marks inside) others

pub numbered_count : (unit number : ℕ) (marks : Marks) → count_marks (numbered unit number marks) ≡ count_marks marks
numbered_count unit number NoMarks = refl
numbered_count unit number (AMark old m others) = ap suc (numbered_count (suc unit) number others)
numbered_count unit number (AGroup o inside others) =
    ap₂ (λ a b. a + b) (numbered_count unit (suc number) inside)
    (numbered_count (unit + count_marks inside) (suc number + count_groups inside) others)

pub numbered_is : (unit number : ℕ) (marks : Marks) → IsNumbered unit (numbered unit number marks)
numbered_is unit number NoMarks = tt
numbered_is unit number (AMark old m others) = (refl, numbered_is (suc unit) number others)
numbered_is unit number (AGroup o inside others) = (
  numbered_is unit (suc number) inside,
  subst (λ n. IsNumbered (unit + n) (numbered (unit + count_marks inside) (suc number + count_groups inside) others))
      (sym (numbered_count unit (suc number) inside)) (numbered_is (unit + count_marks inside) (suc number + count_groups inside) others),
)

none_counted : (marks : Marks) → first_unit marks ≡ None → count_marks marks ≡ 0
none_counted NoMarks e = refl
none_counted (AMark unit m others) e = absurd (cc e)
none_counted (AGroup o inside others) e = by_first (first_unit inside) refl e (λ f. none_counted inside f) (λ f. none_counted others f)
  where
    by_first : (a : Option ℕ) → first_unit inside ≡ a → option_or a (first_unit others) ≡ None
        → (first_unit inside ≡ None → count_marks inside ≡ 0) → (first_unit others ≡ None → count_marks others ≡ 0)
        → count_marks inside + count_marks others ≡ 0
    by_first None is f inner later = let left = inner is in let right = later f in omega (arith, left, right)
    by_first (Some u) is f inner later = absurd (cc f)

-- the least of them is the first
first_number : (n u : ℕ) (marks : Marks) → IsNumbered n marks → first_unit marks ≡ Some u → (u ≡ n) × (0 < count_marks marks)
first_number n u NoMarks h e = absurd (cc e)
first_number n u (AMark unit m others) h e = let same : unit ≡ u = cc e in (sym same ∙ h.0, omega arith)
first_number n u (AGroup o inside others) h e =
    by_first (first_unit inside) refl e (λ f. first_number n u inside h.0 f) (λ f. first_number (n + count_marks inside) u others h.1 f)
  where
    by_first : (a : Option ℕ) → first_unit inside ≡ a → option_or a (first_unit others) ≡ Some u
        → (first_unit inside ≡ Some u → (u ≡ n) × (0 < count_marks inside))
        → (first_unit others ≡ Some u → (u ≡ n + count_marks inside) × (0 < count_marks others))
        → (u ≡ n) × (0 < count_marks inside + count_marks others)
    by_first (Some v) is f inner later = let first = inner (is ∙ f) in let some = first.1 in (first.0, omega (arith, some))
    by_first None is f inner later =
        let empty = none_counted inside is in
        let first = later f in
        let at = first.0 in
        let some = first.1 in
        (omega (arith, at, empty), omega (arith, some))

total-append : (xs ys : List Stretch) → total (xs ++ ys) ≡ total xs + total ys
total-append [] ys = omega arith
total-append (x ∷ xs) ys = let rest = total-append xs ys in omega (arith, rest)

total_object : (b : Bool) (count : ℕ) (r : Round) (inside : List Stretch) → total inside ≡ count → total (cond b inside (plot_in count r ∷ [])) ≡ count
total_object true count r inside is = is
total_object false count r inside is = omega arith

total_count : (r : Round) (marks : Marks) → total (stretches r marks) ≡ count_marks marks
total_count r NoMarks = refl
total_count r (AMark unit m others) = let rest = total_count r others in omega (arith, rest)
total_count r (AGroup o inside others) =
    total-append (in_object o (count_marks inside) (inside_round o r) (stretches (inside_round o r) inside)) (stretches r others)
    ∙ ap₂ (λ a b. a + b)
    (total_object (is_some o.layout) (count_marks inside) (inside_round o r) (stretches (inside_round o r) inside) (total_count (inside_round o r) inside))
    (total_count r others)

-- ---- scales

-- only a time scale that isn't a ramp has places of instants
time_of_discrete : (k : ℕ) → (k == band || (k == point || k == ordinal)) ≡ true → (k == time) ≡ false
time_of_discrete k e = by_time (k == time) refl
  where
    by_time : (b : Bool) → (k == time) ≡ b → b ≡ false
    by_time false is = refl
    by_time true is =
        let same : k ≡ time = (Decides-eqb k time).0 is in
        absurd (cc (subst (λ (n : ℕ). (n == band || (n == point || n == ordinal)) ≡ true) same e))

no_time : (a b : Bool) (cells range : List Cell) (inner outer p q : ℤ)
    → is_time (cond a (Ordinal cells range) (cond b (Band cells inner outer p q) (Point cells outer p q))) ≡ false
no_time true b cells range inner outer p q = refl
no_time false true cells range inner outer p q = refl
no_time false false cells range inner outer p q = refl

of_numbers : (ramp of_time : Bool) (from to : List ℕ) (a b p q : ℤ)
    → is_time (cond ramp (Ramp of_time a b from to) (cond of_time (Time a b p q) (Linear a b p q))) ≡ (of_time && not ramp)
of_numbers true true from to a b p q = refl
of_numbers true false from to a b p q = refl
of_numbers false true from to a b p q = refl
of_numbers false false from to a b p q = refl

time_of_scale : (s : VegaScale) (width height : ℤ) (d : Scaled) → FitsScale s d → is_time (scale_over s width height d) ≡ is_of_time s
time_of_scale s width height (scaled.Cells cells) fits =
    let none : is_time (scale_over s width height (scaled.Cells cells)) ≡ false = no_time (is_ordinal s) (s.type_ == band) cells _ _ _ _ _ in
    none ∙ ap (λ b. b && not (is_ramp s.range)) (sym (time_of_discrete s.type_ fits))
time_of_scale s width height (scaled.Between a b) fits = of_numbers (is_ramp s.range) (scaling.is_time s) _ _ a b _ _

abbrev pub named_in : List ℕ → ScaleIn → Bool
named_in name s = bytes_eq s.name name

-- the scale of a name among those of a panel, or else of the whole chart
abbrev pub drawn_scale : List ScaleIn → List ScaleIn → List ℕ → Option ScaleIn
drawn_scale of_chart own name = option_or (find (named_in name) own) (find (named_in name) of_chart)

-- scales are laid over a plot
found_laid : (width height : ℤ) (name : List ℕ) (scales : List ScaleHere)
    → find (named_in name) (map (scale_in width height) (filter (λ (s : ScaleHere). not s.is_of_chart) scales))
    ≡ option_map (scale_in width height) (find (named_here name) scales)
found_laid width height name [] = refl
found_laid width height name (s ∷ ss) = by_tests s.is_of_chart (named name s) refl refl (found_laid width height name ss)
  where
    by_tests : (a b : Bool) → s.is_of_chart ≡ a → named name s ≡ b
        → find (named_in name) (map (scale_in width height) (filter (λ (x : ScaleHere). not x.is_of_chart) ss))
        ≡ option_map (scale_in width height) (find (named_here name) ss)
        → find (named_in name) (map (scale_in width height) (cond (not s.is_of_chart) (s ∷ filter (λ (x : ScaleHere). not x.is_of_chart) ss)
        (filter (λ (x : ScaleHere). not x.is_of_chart) ss)))
        ≡ option_map (scale_in width height) (cond (not s.is_of_chart && named name s) (Some s) (find (named_here name) ss))
    by_tests true b is other rest = rw is rest
    by_tests false true is other rest = rw (is, other) refl
    by_tests false false is other rest = rw (is, other) rest

found_of_chart : (width height : ℤ) (name : List ℕ) (scales : List ScaleHere)
    → find (named_in name) (map (scale_in width height) scales) ≡ option_map (scale_in width height) (find (named name) scales)
found_of_chart width height name [] = refl
found_of_chart width height name (s ∷ ss) = by_test (named name s) (found_of_chart width height name ss)
  where
    by_test : (b : Bool) → find (named_in name) (map (scale_in width height) ss) ≡ option_map (scale_in width height) (find (named name) ss)
        → cond b (Some (scale_in width height s)) (find (named_in name) (map (scale_in width height) ss))
        ≡ option_map (scale_in width height) (cond b (Some s) (find (named name) ss))
    by_test true rest = refl
    by_test false rest = rest

abbrev pub IsSound : ScaleIn → Type 0
IsSound s = IsScale s.scale

pub laid_sound : (width height : ℤ) → IsPixel width → IsPixel height → (scales : List ScaleHere)
    → Each IsKeptHere scales → Each IsSound (map (scale_in width height) scales)
laid_sound width height w h [] kept = tt
laid_sound width height w h (s ∷ ss) kept =
    (scale_is s.scale width height kept.0.built kept.0.bounds w h s.domain kept.0.fits, laid_sound width height w h ss kept.1)

facet_is : (cells : Option (List (List ℕ × Cell))) (facet : Option (List (List ℕ))) → fields_of_cells cells ≡ facet → IsFacetRow facet (option_map row_of cells)
facet_is cells facet is = subst (λ f. IsFacetRow f (option_map row_of cells)) is (by_cells cells)
  where
    by_cells : (cells : Option (List (List ℕ × Cell))) → IsFacetRow (fields_of_cells cells) (option_map row_of cells)
    by_cells None = tt
    by_cells (Some es) = entries_have es

-- what is asked of a panel of a stretch, where the whole chart has these scales
pub record IsOfStretch (of_chart : List ScaleIn) (j : Stretch) (here : PanelHere) : Type 0 where
  pub facet : IsFacetRow j.facet here.panel.facet
  pub times : (name : List ℕ) (s : ScaleIn) → drawn_scale of_chart here.scales name ≡ Some s → is_time s.scale ≡ is_time_named j.scales name

-- where the marks of a panel stand: among stretches that begin at a number
pub record Stands (of_chart : List ScaleIn) (n : ℕ) (js : List Stretch) (u : ℕ) (here : PanelHere) : Type 0 where
  pub place : ℕ
  pub at : u ≡ n + place
  pub stretch : Stretch
  pub there : stretch_at js place ≡ Some stretch
  pub is : IsOfStretch of_chart stretch here

abbrev pub IsPart : List ScaleIn → ℕ → List Stretch → Part → Type 0
IsPart of_chart n js (Title t) = Unit {0}
IsPart of_chart n js (OfPlot here) = Each IsSound here.scales × ((u : ℕ) → here.panel.view ≡ Some u → Stands of_chart n js u here)

abbrev pub IsView : List ScaleIn → ℕ → List Stretch → Placed → Type 0
IsView of_chart n js v = Each (IsPart of_chart n js) v.parts

-- among the first of two lists of stretches, or the second
part_first : (of_chart : List ScaleIn) (n : ℕ) (xs ys : List Stretch) (p : Part) → IsPart of_chart n xs p → IsPart of_chart n (xs ++ ys) p
part_first of_chart n xs ys (Title t) h = tt
part_first of_chart n xs ys (OfPlot here) h = (
  h.0,
  λ u view. let s = h.1 u view in
      record { place = s.place; at = s.at; stretch = s.stretch; there = at_first xs ys s.place s.stretch s.there; is = s.is },
)

part_later : (of_chart : List ScaleIn) (n m : ℕ) (xs ys : List Stretch) (p : Part) → m ≡ n + total xs → IsPart of_chart m ys p → IsPart of_chart n (xs ++ ys) p
part_later of_chart n m xs ys (Title t) e h = tt
part_later of_chart n m xs ys (OfPlot here) e h = (
  h.0,
  λ u view. let s = h.1 u view in
      let at = s.at in
      record { place = total xs + s.place; at = omega (arith, at, e); stretch = s.stretch; there = at_later xs ys s.place ∙ s.there; is = s.is },
)

view_first : (of_chart : List ScaleIn) (n : ℕ) (xs ys : List Stretch) (vs : List Placed)
    → Each (IsView of_chart n xs) vs → Each (IsView of_chart n (xs ++ ys)) vs
view_first of_chart n xs ys =
    each_weaker (IsView of_chart n xs) (IsView of_chart n (xs ++ ys))
    (λ v. each_weaker (IsPart of_chart n xs) (IsPart of_chart n (xs ++ ys)) (part_first of_chart n xs ys) v.parts)

view_later : (of_chart : List ScaleIn) (n m : ℕ) (xs ys : List Stretch) (vs : List Placed) → m ≡ n + total xs → Each (IsView of_chart m ys) vs
    → Each (IsView of_chart n (xs ++ ys)) vs
view_later of_chart n m xs ys vs e =
    each_weaker (IsView of_chart m ys) (IsView of_chart n (xs ++ ys))
    (λ v. each_weaker (IsPart of_chart m ys) (IsPart of_chart n (xs ++ ys)) (λ p. part_later of_chart n m xs ys p e) v.parts) vs

-- ---- views

second_part : {A B C : Type 0} (a : A) (o : Option B) (make : A → B → C) (c : C) → (o >>= λ b. Some (make a b)) ≡ Some c → (x : A) × (b : B) × (make x b ≡ c)
second_part a None make c e = absurd (cc e)
second_part a (Some b) make c e = (a, b, cc e)

two_parts : {A B C : Type 0} (x : Option A) (y : A → Option B) (make : A → B → C) (c : C) → (x >>= λ a. y a >>= λ b. Some (make a b)) ≡ Some c
    → (a : A) × (b : B) × (make a b ≡ c)
two_parts None y make c e = absurd (cc e)
two_parts (Some a) y make c e = second_part a (y a) make c e

joined : {X : Type 0} (a b : Option (List X)) (c : List X) → (a >>= λ x. b >>= λ y. Some (x ++ y)) ≡ Some c
    → (x : List X) × (y : List X) × (a ≡ Some x) × (b ≡ Some y) × (x ++ y ≡ c)
joined None b c e = absurd (cc e)
joined (Some x) None c e = absurd (cc e)
joined (Some x) (Some y) c e = (x, y, refl, refl, cc e)

less : (a b : ℕ) → a < b → nat_lt a b ≡ true
less a b h = grind (arith, nat_tests)

all_parts : (P : Part → Type 0) (vs : List Placed) → Each (λ (v : Placed). Each P v.parts) vs → Each P (flat_map (λ (v : Placed). v.parts) vs)
all_parts P [] h = tt
all_parts P (v ∷ vs) h = each-append P v.parts (flat_map (λ (x : Placed). x.parts) vs) h.0 (all_parts P vs h.1)

each-numbered : {X : Type 0} (P : X → Type 0) (n : ℕ) (xs : List X) → Each P xs → Each (λ (p : ℕ × X). P p.1) (enumerate_from n xs)
each-numbered P n [] h = tt
each-numbered P n (x ∷ xs) h = (h.0, each-numbered P (n + 1) xs h.1)

module _ (items : ItemsOfMarks) (chart : List ScaleHere) (width height : ℤ) (chart_kept : Each IsKeptHere chart) where
  abbrev of_chart : List ScaleIn
  of_chart = map (scale_in width height) chart

  -- the kind of the scale of a name
  kind_of : (w h : ℤ) (scales : List ScaleHere) → Each IsKeptHere scales → (name : List ℕ) (s : ScaleIn) → (a b : Option ScaleHere)
      → find (named_here name) scales ≡ a → find (named name) chart ≡ b
      → option_or (option_map (scale_in w h) a) (option_map (scale_in width height) b) ≡ Some s
      → is_time s.scale ≡ option_map_or is_of_time (option_or (option_map of_specification a) (option_map of_specification b)) false
  kind_of w h scales kept name s (Some x) b is other e =
      let same : scale_in w h x ≡ s = cc e in
      let own = each_found IsKeptHere (named_here name) scales x kept is in
      ap (λ (y : ScaleIn). is_time y.scale) (sym same) ∙ time_of_scale x.scale w h x.domain own.fits
  kind_of w h scales kept name s None (Some x) is other e =
      let same : scale_in width height x ≡ s = cc e in
      let own = each_found IsKeptHere (named name) chart x chart_kept other in
      ap (λ (y : ScaleIn). is_time y.scale) (sym same) ∙ time_of_scale x.scale width height x.domain own.fits
  kind_of w h scales kept name s None None is other e = absurd (cc e)

  times_are : (r : Round) (frame : Frame) → FrameIs chart r frame → (name : List ℕ) (s : ScaleIn)
      → drawn_scale of_chart (scales_of_plot frame) name ≡ Some s → is_time s.scale ≡ is_time_named r.scales name
  times_are r frame h name s e =
      kind_of frame.width frame.height frame.scales h.kept name s (find (named_here name) frame.scales) (find (named name) chart) refl refl
      (sym (ap₂ option_or (found_laid frame.width frame.height name frame.scales) (found_of_chart width height name chart)) ∙ e)
      ∙ ap (λ o. option_map_or is_of_time o false) (h.scales name)

  -- a plot
  plot_part : (n : ℕ) (o : Object) (marks : Marks) (found : Found) (r : Round) (frame : Frame) (p : Plot) → IsNumbered n marks → FrameIs chart r frame
      → HasPixels frame → plot_of items o marks found frame ≡ Some p
      → IsPart of_chart n (plot_in (count_marks marks) r ∷ []) (OfPlot (record { panel = plot_panel p; scales = p.scales }))
  plot_part n o marks found r frame p numbers h pixels e =
      let made = two_parts (option_map (with_guides o frame) (drawn_in items marks found frame)) (λ (inside : Inside).
      axes_at frame.width frame.height (axes_over frame.width frame.height frame.axes ++ inside.axes)) _ p e in
      let view : p.view ≡ first_unit marks = ap (λ (x : Plot). x.view) (sym made.2) in
      let cells : p.cells ≡ frame.cells = ap (λ (x : Plot). x.cells) (sym made.2) in
      let scales : p.scales ≡ scales_of_plot frame = ap (λ (x : Plot). x.scales) (sym made.2) in
      let kept = laid_sound frame.width frame.height pixels.0 pixels.1 (filter (λ (s : ScaleHere). not s.is_of_chart) frame.scales)
      (each-filter IsKeptHere (λ (s : ScaleHere). not s.is_of_chart) frame.scales h.kept) in (
        subst (Each IsSound) (sym scales) kept,
        λ u is.
            let first = first_number n u marks numbers (sym view ∙ is) in
            let at = first.0 in
            record {
              place = 0;
              at = omega (arith, at);
              stretch = plot_in (count_marks marks) r;
              there = ap (λ b. cond b (Some (plot_in (count_marks marks) r)) None) (less 0 (count_marks marks) first.1);
              is = record {
                facet = facet_is p.cells r.facet (ap fields_of_cells cells ∙ h.cells);
                times = λ name s f. times_are r frame h name s (ap (λ own. drawn_scale of_chart own name) (sym scales) ∙ f);
              };
            },
      )

  titles_are : (n : ℕ) (js : List Stretch) (title : Option (List ℕ)) → Each (IsPart of_chart n js) (titled title)
  titles_are n js None = tt
  titles_are n js (Some t) = (tt, tt)

  grid_is : (n : ℕ) (o : Object) (js : List Stretch) (frame : Frame) (spacing : ℤ) (columns : ℕ) (cells : Option (List Placed)) (v : Placed)
      → ((vs : List Placed) → cells ≡ Some vs → Each (IsView of_chart n js) vs) → option_map (grid_round o frame spacing columns) cells ≡ Some v
      → IsView of_chart n js v
  grid_is n o js frame spacing columns None v within e = absurd (cc e)
  grid_is n o js frame spacing columns (Some vs) v within e =
      let same : grid_round o frame spacing columns vs ≡ v = cc e in
      subst (IsView of_chart n js) same
      (each-append (IsPart of_chart n js) (titled o.title) (flat_map (λ (x : Placed). x.parts) vs) (titles_are n js o.title)
      (all_parts (IsPart of_chart n js) vs (within vs refl)))

  module _ (n : ℕ) (o : Object) (marks : Marks) (found : Found) (r : Round) (frame : Frame) (numbers : IsNumbered n marks) where
    plot_is : FrameIs chart r frame → HasPixels frame → (v : Placed) (p : Option Plot)
        → plot_of items o marks found frame ≡ p → option_map placed_plot p ≡ Some v
        → IsView of_chart n (plot_in (count_marks marks) r ∷ []) v
    plot_is h pixels v None is e = absurd (cc e)
    plot_is h pixels v (Some p) is e =
        let same : placed_plot p ≡ v = cc e in
        subst (IsView of_chart n (plot_in (count_marks marks) r ∷ [])) same (plot_part n o marks found r frame p numbers h pixels is, tt)

    by_layout : IsCopyOf chart r o frame → (l : Option Layout) → o.layout ≡ l → (cells : Option (List Placed)) (v : Placed)
        → ((vs : List Placed) → cells ≡ Some vs → Each (IsView of_chart n (stretches r marks)) vs)
        → option_map_or (λ (l : Layout). option_map (grid_round o frame (spacing_of l) (grid_of l found).columns) cells) l
        (option_map placed_plot (plot_of items o marks found frame)) ≡ Some v
        → IsView of_chart n (cond (is_some l) (stretches r marks) (plot_in (count_marks marks) r ∷ [])) v
    by_layout copy (Some l) is cells v within e = grid_is n o (stretches r marks) frame (spacing_of l) (grid_of l found).columns cells v within e
    by_layout copy None is cells v within e = plot_is copy.is (copy.pixels (ap is_some is)) v (plot_of items o marks found frame) refl e

    -- the view of a copy of an object, from those in it
    pub view_is : IsCopyOf chart r o frame → (cells : Option (List Placed)) (v : Placed)
        → ((vs : List Placed) → cells ≡ Some vs → Each (IsView of_chart n (stretches r marks)) vs) → view_round items o marks found frame cells ≡ Some v
        → IsView of_chart n (in_object o (count_marks marks) r (stretches r marks)) v
    view_is copy cells v within e = by_layout copy o.layout refl cells v within e

  cell_view : (n : ℕ) (o : Object) (inside : Marks) (r : Round) (frame : Frame) (grid : Grid) → KeepsObject o → IsNumbered n inside → FrameIs chart r frame
      → (cell : ℕ × CopyFound) → FactsAre o cell.1.facts × FoundIs inside cell.1.inside → (v : Placed)
      → ((f : Frame) (ws : List Placed) → FrameIs chart (inside_round o r) f
      → views_in items inside cell.1.inside f (grid_here o cell.1.inside) 0 ≡ Some ws → Each (IsView of_chart n (stretches (inside_round o r) inside)) ws)
      → (here : Option Frame) → cell_at frame grid o cell.0 cell.1.facts ≡ here
      → (here >>= λ f. view_round items o inside cell.1.inside f (views_in items inside cell.1.inside f (grid_here o cell.1.inside) 0)) ≡ Some v
      → IsView of_chart n (in_object o (count_marks inside) (inside_round o r) (stretches (inside_round o r) inside)) v
  cell_view n o inside r frame grid keeps numbers h cell of v within None is e = absurd (cc e)
  cell_view n o inside r frame grid keeps numbers h cell of v within (Some f) is e =
      let copy = cell_is chart r frame grid o cell.0 cell.1.facts f keeps of.0 h is in
      view_is n o inside cell.1.inside (inside_round o r) f numbers copy (views_in items inside cell.1.inside f (grid_here o cell.1.inside) 0) v
      (λ ws same. within f ws copy.is same) e

  -- the views of the copies of marks in a grid
  pub views_are : (n : ℕ) (marks : Marks) (found : Found) (r : Round) (frame : Frame) (grid : Grid) (index : ℕ) (vs : List Placed) → IsNumbered n marks
      → KeepsMarks marks → FoundIs marks found → FrameIs chart r frame → views_in items marks found frame grid index ≡ Some vs
      → Each (IsView of_chart n (stretches r marks)) vs
  views_are n NoMarks found r frame grid index vs numbers keeps are h e = let same : [] ≡ vs = cc e in subst (Each (IsView of_chart n [])) same tt
  views_are n (AMark unit m others) found r frame grid index vs numbers keeps are h e =
      view_later of_chart n (suc n) (alone_in r ∷ []) (stretches r others) vs (omega arith)
      (views_are (suc n) others (behind_first found) r frame grid index vs numbers.1 keeps are h e)
  views_are n (AGroup o inside others) found r frame grid index vs numbers keeps are h e =
      let here : List Stretch = in_object o (count_marks inside) (inside_round o r) (stretches (inside_round o r) inside) in
      let give : ℕ × CopyFound → Option Placed = λ cell. cell_at frame grid o cell.0 cell.1.facts >>= λ f.
      view_round items o inside cell.1.inside f (views_in items inside cell.1.inside f (grid_here o cell.1.inside) 0) in
      let parts = joined (all_found (map give (enumerate_from index (first_copies found))))
      (views_in items others (behind_first found) frame grid (index + length (first_copies found))) vs e in
      let own = all_given give (λ (cell : ℕ × CopyFound). FactsAre o cell.1.facts × FoundIs inside cell.1.inside) (IsView of_chart n here)
      (λ cell of v is. cell_view n o inside r frame grid keeps.0 numbers.0 h cell of v
      (λ f ws it same. views_are n inside cell.1.inside (inside_round o r) f (grid_here o cell.1.inside) 0 ws numbers.0 keeps.1 of.1 it same)
      (cell_at frame grid o cell.0 cell.1.facts) refl is)
      (enumerate_from index (first_copies found))
      (each-numbered (λ (c : CopyFound). FactsAre o c.facts × FoundIs inside c.inside) index (first_copies found) are.0)
      parts.0 parts.2 in
      let rest = views_are (n + count_marks inside) others (behind_first found) r frame grid
      (index + length (first_copies found)) parts.1 numbers.1 keeps.2 are.1 h parts.3 in
      let size = total_object (is_some o.layout) (count_marks inside) (inside_round o r)
      (stretches (inside_round o r) inside) (total_count (inside_round o r) inside) in
      subst (Each (IsView of_chart n (here ++ stretches r others))) parts.4
      (each-append (IsView of_chart n (here ++ stretches r others)) parts.0 parts.1 (view_first of_chart n here (stretches r others) parts.0 own)
      (view_later of_chart n (n + count_marks inside) here (stretches r others) parts.1 (ap (λ k. n + k) (sym size)) rest))

  -- the view of the top
  pub top_view : (o : Object) (marks : Marks) (found : Found) (r : Round) (frame : Frame) (v : Placed) → IsNumbered 0 marks → KeepsMarks marks
      → FoundIs marks found → IsCopyOf chart r o frame → view_of items o marks found frame ≡ Some v
      → IsView of_chart 0 (in_object o (count_marks marks) r (stretches r marks)) v
  top_view o marks found r frame v numbers keeps are copy e =
      view_is 0 o marks found r frame numbers copy (views_in items marks found frame (grid_here o found) 0) v
      (λ vs is. views_are 0 marks found r frame (grid_here o found) 0 vs numbers keeps are copy.is is) e
