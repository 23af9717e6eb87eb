-- What stands in a plot.
use Rattle.std.proofs.Common.{◌≡◌, ℕ, suc, ◌+◌, Option, Some, None, [], ◌++◌, Result, Ok, Err, refl, sym, ap, ◌∙◌, append_assoc, arith}
use Rattle.std.proofs.lemmas.List.{append-nil}
use Rattle.std.specs.Option.{option_map}
use Rattle.fixed_num.specs.Ranges.{◌>>=◌}
use Rattle.expr_eval.specs.Answers.{Evaluates}
use Rattle.expr_eval.specs.declared.error.EvalError.{EvalError}
use Rattle.expr_eval.specs.declared.error.EvalError.TheVariants.{Overflow, Memory}
use Rattle.plot_scenes.specs.declared.views.Plot.{Plot}
use Rattle.plot_scenes.specs.Axes.{axes_at}
use Rattle.vega_copies.specs.Outlines.{Object, Marks, first_unit, numbered}
use Rattle.vega_copies.specs.Facts.{Found}
use Rattle.vega_copies.specs.inner.Results.{result_map}
use Rattle.vega_copies.proofs.OutlineLemmas.{first_is}
use Rattle.vega_drawing.specs.declared.inside.Inside.{Inside as HeldInside}
use Rattle.vega_drawing.specs.Frames.{Frame}
use Rattle.vega_drawing.specs.Guides.{axes_over, own_axes, legends_in}
use Rattle.vega_drawing.specs.Insides.{ItemsOfMarks, Inside, nothing_inside, and_inside, with_guides, drawn_in}
use Rattle.vega_drawing.specs.Plots.{plot_of}
use Rattle.vega_drawing.specs.inner.Drawn.{DrawsMore, inside_seen}
use Rattle.vega_drawing.specs.inner.Plotted.{behind_axes, standing_in, plot_with, plot_round}

-- ---- the plot by what stands in it

module _ (items : ItemsOfMarks) (o : Object) (marks : Marks) (found : Found) (frame : Frame) where
  abbrev with_axes_of : Inside → Option Plot
  with_axes_of inside =
      axes_at frame.width frame.height (axes_over frame.width frame.height frame.axes ++ inside.axes) >>= λ shown.
      Some (plot_with o (first_unit marks) frame shown inside)

  by_drawn : (d : Option Inside) → (option_map (with_guides o frame) d >>= with_axes_of)
      ≡ (option_map (behind_axes frame) (option_map (with_guides o frame) d) >>= plot_round o (first_unit marks) frame)
  by_drawn None = refl
  by_drawn (Some d) = refl

  pub plot_is : (inside : Inside) → standing_in items o marks found frame ≡ Some inside
      → plot_of items o marks found frame ≡ plot_round o (first_unit marks) frame inside
  plot_is inside stands = by_drawn (drawn_in items marks found frame) ∙ ap (λ s. s >>= plot_round o (first_unit marks) frame) stands

  pub plot_stops : (e : EvalError) → Evaluates {X = Inside} (Err e) (standing_in items o marks found frame)
      → Evaluates {X = Plot} (Err e) (plot_of items o marks found frame)
  plot_stops Overflow none = by_drawn (drawn_in items marks found frame) ∙ ap (λ s. s >>= plot_round o (first_unit marks) frame) none
  plot_stops Memory none = tt

-- the least number of marks is the same however their groups are numbered
pub first_alike : (unit number : ℕ) (marks : Marks) → first_unit (numbered unit 0 marks) ≡ first_unit (numbered unit number marks)
first_alike unit number marks = first_is unit 0 marks ∙ sym (first_is unit number marks)

-- ---- what is drawn behind the axes of the grids round a plot

pub one_more : (n : ℕ) → n + 1 ≡ suc n
one_more n = omega arith

-- what stops draws nothing
pub as_evaluated : (e : EvalError) (old new : HeldInside) (drawn : Option Inside) → DrawsMore {X = Unit {0}} (Err e) old new drawn
    → Evaluates {X = Inside} (Err e) drawn
as_evaluated Overflow old new drawn none = none
as_evaluated Memory old new drawn none = tt

module _ (frame : Frame) (o : Object) where
  module _ (first guided : Inside) (is_axes : first.axes ≡ axes_over frame.width frame.height frame.axes) (no_legends : first.legends ≡ [])
      (no_items : first.items ≡ []) (guides : guided ≡ and_inside first (with_guides o frame nothing_inside)) where
    axes_behind : guided.axes ≡ axes_over frame.width frame.height frame.axes ++ axes_over frame.width frame.height (own_axes o frame)
    axes_behind =
        ap (λ (g : Inside). g.axes) guides ∙ (λ i. is_axes i ++ append-nil (axes_over frame.width frame.height (own_axes o frame)) i)

    legends_behind : guided.legends ≡ legends_in o frame
    legends_behind = ap (λ (g : Inside). g.legends) guides ∙ (λ i. no_legends i ++ append-nil (legends_in o frame) i)

    items_behind : guided.items ≡ []
    items_behind = ap (λ (g : Inside). g.items) guides ∙ (λ i. no_items i ++ [])

    one_behind : (d : Inside) → behind_axes frame (with_guides o frame d) ≡ and_inside guided d
    one_behind d = λ i. record {
      axes = (sym (append_assoc (axes_over frame.width frame.height frame.axes) (axes_over frame.width frame.height (own_axes o frame)) d.axes)
          ∙ ap (λ l. l ++ d.axes) (sym axes_behind)) i;
      legends = ap (λ l. l ++ d.legends) (sym legends_behind) i;
      items = ap (λ l. l ++ d.items) (sym items_behind) i;
    }

    pub all_behind : (drawn : Option Inside) (new : Inside) → option_map (and_inside guided) drawn ≡ Some new
        → option_map (behind_axes frame) (option_map (with_guides o frame) drawn) ≡ Some new
    all_behind None new e = e
    all_behind (Some d) new e = ap Some (one_behind d) ∙ e

  pub none_behind : (e : EvalError) (drawn : Option Inside) → Evaluates {X = Inside} (Err e) drawn
      → Evaluates {X = Inside} (Err e) (option_map (behind_axes frame) (option_map (with_guides o frame) drawn))
  none_behind Overflow drawn none = ap (λ d. option_map (behind_axes frame) (option_map (with_guides o frame) d)) none
  none_behind Memory drawn none = tt

  -- what was added to nothing
  pub stands_behind : (first guided new : HeldInside) (drawn : Option Inside) (r : Result (Unit {0}) EvalError)
      → first.axes ≡ axes_over frame.width frame.height frame.axes → first.legends ≡ [] → first.items ≡ []
      → inside_seen guided ≡ and_inside (inside_seen first) (with_guides o frame nothing_inside) → DrawsMore r guided new drawn
      → Evaluates (result_map (λ done. inside_seen new) r) (option_map (behind_axes frame) (option_map (with_guides o frame) drawn))
  stands_behind first guided new drawn (Ok done) is_axes no_legends no_items guides e =
      all_behind (inside_seen first) (inside_seen guided) is_axes no_legends no_items guides drawn (inside_seen new) e
  stands_behind first guided new drawn (Err error) is_axes no_legends no_items guides e =
      none_behind error drawn (as_evaluated error guided new drawn e)
