-- Why what is drawn of the top is what is drawn of a specification.
use Rattle.std.proofs.Common.{◌≡◌, ℕ, zero, suc, ◌+◌, ◌<◌, ◌^◌, ℤ, pos, Bool, true, false, cond, is_some, Option, Some, None, List, [], ◌∷◌}
use Rattle.std.proofs.Common.{◌++◌, map, Bor, Result, Err, refl, sym, ap, ◌∙◌, subst, append_assoc, arith, drop, get_or, length}
use Rattle.std.proofs.lemmas.List.{append-nil, drop_more}
use Rattle.std.proofs.lemmas.List.Elements.{All-head, All-tail}
use Rattle.std.specs.Prelude.{IfSome, unwrap_or}
use Rattle.std.specs.Option.{option_map, option_map_or}
use Rattle.std.specs.List.{filter}
use Rattle.fixed_num.specs.Ranges.{◌>>=◌}
use Rattle.cell_value.specs.declared.cell.Cell.{Cell}
use Rattle.expr_eval.specs.Answers.{Evaluates}
use Rattle.cell_value.specs.declared.state.StoreOf.{StoreOf}
use Rattle.expr_eval.specs.Stores.{values_of_stores}
use Rattle.expr_eval.specs.Values.{Values}
use Rattle.expr_eval.specs.declared.error.EvalError.{EvalError}
use Rattle.expr_eval.specs.declared.error.EvalError.TheVariants.{Overflow, Memory}
use Rattle.scale_kit.specs.declared.scale.ScaleIn.{ScaleIn}
use Rattle.scale_kit.specs.declared.scale.ScaleSet.{ScaleSet}
use Rattle.scale_kit.specs.Scale.{IsPixel, AreScales}
use Rattle.vega_guides.specs.Shown.{IsCount}
use Rattle.vega_signals.specs.Settling.{values_inside}
use Rattle.vega_spec.specs.declared.guides.Layout.{Layout}
use Rattle.vega_spec.specs.declared.spec.Group.{out-Group}
use Rattle.vega_spec.specs.declared.spec.VgSpec.{VgSpec}
use Rattle.plot_scenes.specs.declared.headers.Header.{Header}
use Rattle.plot_scenes.specs.declared.scenes.Drawing.{Drawing}
use Rattle.plot_scenes.specs.Views.{placed_plot}
use Rattle.vega_copies.specs.declared.facts.CopyFacts.{CopyFacts, out-CopyFacts}
use Rattle.vega_copies.specs.declared.facts.Step.{Step}
use Rattle.vega_copies.specs.Outlines.{Marks, NoMarks, AMark, AGroup, Opened, outline_of, numbered, count_marks, count_groups}
use Rattle.vega_copies.specs.Scopes.{Names}
use Rattle.vega_copies.specs.inner.Kept.{KeepsObject, KeepsMarks, KeepsAll}
use Rattle.vega_copies.specs.Facts.{Found}
use Rattle.vega_copies.specs.inner.FactsSeen.{ListsOnPaths, copy_seen}
use Rattle.vega_copies.specs.inner.Outlined.{marks_in, marks_of, AreFew}
use Rattle.vega_copies.proofs.OutlineLemmas.{opened_object, opened_marks}
use Rattle.vega_copies.proofs.SeenFacts.{copy_opened}
use Rattle.vega_drawing.specs.declared.scales.AxisHere.{AxisHere as HeldAxis}
use Rattle.vega_drawing.specs.declared.scales.ScaleHere.{ScaleHere as HeldScale}
use Rattle.vega_drawing.specs.declared.values.ValuesAt.{ValuesAt}
use Rattle.vega_drawing.specs.Drawings.{drawn_from_facts}
use Rattle.vega_drawing.specs.Frames.{Frame, as_grid}
use Rattle.vega_drawing.specs.Grids.{grid_of}
use Rattle.vega_drawing.specs.Insides.{ItemsOfMarks}
use Rattle.vega_drawing.specs.Plots.{plot_of}
use Rattle.vega_drawing.specs.Scales.{ScaleHere, and_outer, own_scales, set_of, with_domains}
use Rattle.vega_drawing.specs.Sizes.{size_of}
use Rattle.vega_drawing.specs.Tops.{of_chart, sized_top}
use Rattle.vega_drawing.specs.Views.{grid_round, spacing_of, views_in}
use Rattle.vega_drawing.specs.inner.Drawn.{MayShow}
use Rattle.vega_drawing.specs.inner.Framed.{IsFrame}
use Rattle.vega_drawing.specs.inner.Kept.{scale_seen, IsFitHere, IsKeptScale, AreKeptScales, AreKeptAxes}
use Rattle.vega_drawing.specs.inner.Topped.{top_of, TopFits, names_on_top, found_on_top, held_top, top_seen, drawn_view, drawn_plot}
use Rattle.vega_drawing.specs.inner.Topped.{sized_plot, grid_with_axes, drawn_top}
use Rattle.vega_drawing.proofs.CellLemmas.{behind_none}

-- ---- the top by its members

pub outline_is : (g : VgSpec) → outline_of g ≡ top_of g
outline_is g = λ i. record { object = opened_object g.group i; marks = numbered 0 1 (opened_marks g.group i) }

kept_unnumbered : (unit number : ℕ) (marks : Marks) → KeepsMarks (numbered unit number marks) → KeepsMarks marks
kept_unnumbered unit number NoMarks kept = tt
kept_unnumbered unit number (AMark old m others) kept = kept_unnumbered (suc unit) number others kept
kept_unnumbered unit number (AGroup o inside others) (kept, below, rest) = (
  record {
    sets = kept.sets;
    scales = kept.scales;
    domains = kept.domains;
    bounds = kept.bounds;
    axes = kept.axes;
    columns = kept.columns;
  },
  kept_unnumbered unit (suc number) inside below,
  kept_unnumbered (unit + count_marks inside) (suc number + count_groups inside) others rest,
)

marks_alike : (unit number : ℕ) (marks : Marks) → count_marks (numbered unit number marks) ≡ count_marks marks
marks_alike unit number NoMarks = refl
marks_alike unit number (AMark old m others) = ap suc (marks_alike (suc unit) number others)
marks_alike unit number (AGroup o inside others) = λ i.
    marks_alike unit (suc number) inside i + marks_alike (unit + count_marks inside) (suc number + count_groups inside) others i

groups_alike : (unit number : ℕ) (marks : Marks) → count_groups (numbered unit number marks) ≡ count_groups marks
groups_alike unit number NoMarks = refl
groups_alike unit number (AMark old m others) = groups_alike (suc unit) number others
groups_alike unit number (AGroup o inside others) = λ i.
    suc (groups_alike unit (suc number) inside i + groups_alike (unit + count_marks inside) (suc number + count_groups inside) others i)

nothing_more : (n : ℕ) → n ≡ 0 + n
nothing_more n = omega arith

module _ (g : VgSpec) (kept : KeepsAll g) where
  pub top_kept : KeepsObject (top_of g).object
  top_kept = subst (λ (top : Opened). KeepsObject top.object) (outline_is g) kept.top

  pub top_few : AreFew 0 1 (marks_in (out-Group g.group))
  top_few = record {
    units = subst (λ n. n < 2 ^ 32)
        (ap (λ (top : Opened). count_marks top.marks) (outline_is g) ∙ marks_alike 0 1 (marks_of (marks_in (out-Group g.group)))
        ∙ nothing_more (count_marks (marks_of (marks_in (out-Group g.group))))) kept.few_marks;
    numbers = subst (λ n. 1 + n < 2 ^ 32)
        (ap (λ (top : Opened). count_groups top.marks) (outline_is g) ∙ groups_alike 0 1 (marks_of (marks_in (out-Group g.group)))) kept.few_groups;
  }

  pub top_shows : (facts : CopyFacts) → TopFits g facts → MayShow (marks_in (out-Group g.group)) (out-CopyFacts facts).inside
  top_shows facts fits = record {
    kept = kept_unnumbered 0 1 (marks_of (marks_in (out-Group g.group))) (subst (λ (top : Opened). KeepsMarks top.marks) (outline_is g) kept.marks);
    fit = fits.inside;
  }

  pub top_columns : (l : Layout) → (top_of g).object.layout ≡ Some l → IfSome l.columns IsCount
  top_columns l is = subst (λ (o : Option Layout). IfSome (o >>= λ (l : Layout). l.columns) IsCount) is top_kept.columns

-- ---- the top as a copy

pub top_is_frame : (path : Bor (List Step)) (values : ValuesAt) (scales : Bor (List HeldScale)) (set : Bor ScaleSet) (axes : Bor (List HeldAxis))
    (cells : Option (Bor (List (List ℕ × Cell)))) (headers : Bor (List Header)) (w h : ℤ) → AreKeptScales scales.now
    → set.now ≡ set_of w h (map scale_seen scales.now) → AreScales set.now → AreKeptAxes axes.now → IsPixel w → IsPixel h
    → IsFrame (held_top path values scales set axes cells headers w h)
top_is_frame path values scales set axes cells headers w h kept is sound axes_kept wide high =
    record { scales = kept; set = is; sound = sound; axes = axes_kept; width = wide; height = high }

-- ---- what isn't found stops all that needs it

pub goes_on : {A B : Type 0} (r : Result B EvalError) (o : Option A) (f : A → Option B) (x : A) → o ≡ Some x → Evaluates r (f x) → Evaluates r (o >>= f)
goes_on r o f x is h = subst (λ o. Evaluates r (o >>= f)) (sym is) h

pub stops : {A B : Type 0} (e : EvalError) (o : Option A) (f : A → Option B) → Evaluates {X = A} (Err e) o → Evaluates {X = B} (Err e) (o >>= f)
stops Overflow o f none = ap (λ o. o >>= f) none
stops Memory o f none = tt

-- ---- what is drawn of the top

module _ (items : ItemsOfMarks) (g : VgSpec) (found : Found) where
  abbrev by_layout : Frame → Option Layout → Option Drawing
  by_layout frame layout =
      cond (is_some layout) (Some (as_grid (top_of g).object frame)) (sized_top g.width g.height frame) >>= λ here.
      option_map_or (λ (l : Layout).
      option_map (grid_round (top_of g).object here (spacing_of l) (grid_of l found).columns)
      (views_in items (top_of g).marks found here (grid_of (unwrap_or layout (record { padding = None; columns = None })) found) 0)) layout
      (option_map placed_plot (plot_of items (top_of g).object (top_of g).marks found here))
      >>= drawn_view g here

  pub top_is_plot : (frame : Frame) → (top_of g).object.layout ≡ None → drawn_top items g found frame ≡ sized_plot items g found frame
  top_is_plot frame none = ap (by_layout frame) none

  pub top_is_grid : (frame : Frame) (l : Layout) → (top_of g).object.layout ≡ Some l → drawn_top items g found frame ≡ grid_with_axes items g l found frame
  top_is_grid frame l is = ap (by_layout frame) is

  module _ (names : Names) (cells : Option (List (List ℕ × Cell))) (scales : List ScaleHere) where
    abbrev sizes : Values
    sizes = with_domains scales names.values

    abbrev unsized : Frame
    unsized = top_seen names cells scales (pos 0) (pos 0)

    abbrev of_size : Option ℤ → Option ℤ → Option Drawing
    of_size width height = (width >>= λ w. height >>= λ h. Some (top_seen names cells scales w h)) >>= drawn_plot items g found

    pub sized_is : (w h : ℤ) → size_of sizes g.width ≡ Some w → size_of sizes g.height ≡ Some h
        → sized_plot items g found unsized ≡ drawn_plot items g found (top_seen names cells scales w h)
    sized_is w h wide high = λ i. of_size (wide i) (high i)

    pub no_width : (e : EvalError) → Evaluates {X = ℤ} (Err e) (size_of sizes g.width) → Evaluates {X = Drawing} (Err e) (sized_plot items g found unsized)
    no_width Overflow none = ap (λ w. of_size w (size_of sizes g.height)) none
    no_width Memory none = tt

    pub no_height : (w : ℤ) (e : EvalError) → size_of sizes g.width ≡ Some w → Evaluates {X = ℤ} (Err e) (size_of sizes g.height)
        → Evaluates {X = Drawing} (Err e) (sized_plot items g found unsized)
    no_height w Overflow wide none = λ i. of_size (wide i) (none i)
    no_height w Memory wide none = tt

-- the top with its facts
abbrev pub scales_on_top : VgSpec → CopyFacts → List ScaleHere
scales_on_top g facts = and_outer [] (own_scales (of_chart (top_of g).object.layout) (top_of g).object.scales (out-CopyFacts facts).domains)

module _ (items : ItemsOfMarks) (lists : ListsOnPaths) (stores : List StoreOf) (g : VgSpec) (facts : CopyFacts) where
  abbrev values_on_top : Values
  values_on_top = values_inside (out-CopyFacts facts).signals (values_of_stores stores)

  pub top_is_drawn : drawn_top items g (found_on_top lists values_on_top facts)
      (top_seen (names_on_top lists values_on_top) (out-CopyFacts facts).cells (scales_on_top g facts) (pos 0) (pos 0))
      ≡ drawn_from_facts items g (outline_of g) (copy_seen lists facts [] (values_of_stores stores))
  top_is_drawn =
      ap (λ cells. drawn_top items g (found_on_top lists values_on_top facts)
      (top_seen (names_on_top lists values_on_top) cells (scales_on_top g facts) (pos 0) (pos 0)))
      (behind_none (out-CopyFacts facts).cells)
      ∙ sym (λ i. drawn_from_facts items g (outline_is g i) (copy_opened lists facts [] (values_of_stores stores) i))

-- ---- scales that pass a test, one after the other

pub scale_kept : (scales : List HeldScale) (i : ℕ) (s : HeldScale) → AreKeptScales scales → i < length scales → s ≡ get_or scales i s
    → IsKeptScale s.kept.now
scale_kept [] i s kept below is = absurd (omega (arith, below))
scale_kept (first ∷ others) zero s kept below is =
    subst (λ (s : HeldScale). IsKeptScale s.kept.now) (sym is) (All-head IsFitHere (scale_seen first) (map scale_seen others) kept)
scale_kept (first ∷ others) (suc i) s kept below is =
    scale_kept others i s (All-tail IsFitHere (scale_seen first) (map scale_seen others) kept) (omega (arith, below)) is

module _ (test : ScaleHere → Bool) (made : ScaleHere → ScaleIn) where
  abbrev pub those : List ScaleHere → List ScaleIn
  those scales = map made (filter test scales)

  joined : (b : Bool) (out : List ScaleIn) (s : ScaleHere) (rest : List ScaleHere)
      → (out ++ map made (cond b (s ∷ []) [])) ++ map made rest ≡ out ++ map made (cond b (s ∷ rest) rest)
  joined true out s rest = append_assoc out (made s ∷ []) (map made rest)
  joined false out s rest = ap (λ l. l ++ map made rest) (append-nil out)

  pub one_more_scale : (scales : List HeldScale) (i : ℕ) (s : HeldScale) (out grown whole : List ScaleIn) → i < length scales → s ≡ get_or scales i s
      → out ++ those (map scale_seen (drop i scales)) ≡ whole → grown ≡ out ++ those (scale_seen s ∷ [])
      → grown ++ those (map scale_seen (drop (i + 1) scales)) ≡ whole
  one_more_scale scales i s out grown whole below is before adds =
      ap (λ l. l ++ those (map scale_seen (drop (i + 1) scales))) adds
      ∙ joined (test (scale_seen s)) out (scale_seen s) (filter test (map scale_seen (drop (i + 1) scales)))
      ∙ ap (λ l. out ++ those (map scale_seen l)) (sym (drop_more scales i s below ∙ ap (λ s. s ∷ drop (i + 1) scales) (sym is)))
      ∙ before
