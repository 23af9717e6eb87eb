use Rattle.std.proofs.Common.{◌≡◌, [], All, IsTrue, map, pos, sym, ap, ◌∙◌, subst}
use Rattle.std.specs.List.{AllZip}
use Rattle.expr_eval.specs.Answers.{Evaluates}
use Rattle.expr_eval.specs.Stores.{values_of_stores}
use Rattle.vega_scales.specs.Scales.{is_built, FitsScale, KeepsBounds}
use Rattle.vega_signals.specs.Settling.{values_inside}
use Rattle.vega_spec.specs.declared.scales.Scale.{Scale}
use Rattle.vega_copies.specs.declared.facts.CopyFacts.{out-CopyFacts}
use Rattle.vega_drawing.specs.Scales.{and_outer, own_scales}
use Rattle.vega_drawing.specs.inner.Kept.{kept_seen, scale_seen, IsKeptScale, AreKeptScales}
use Rattle.vega_drawing.specs.inner.Levels.{values_over}
use Rattle.vega_drawing.specs.inner.Topped.{drawn_top, found_on_top, names_on_top, top_of, top_seen}
use Rattle.vega_drawing.proofs.TopLemmas.{top_kept, scales_on_top, top_is_drawn}
use Rattle.vega_drawing.proofs.ValueLemmas.{values_entered}
use Rattle.vega_drawing.proofs.drawing.drawn.Goals as goal

pub kept_scales-requires-clause-built : goal.kept_scales-requires-clause-built
kept_scales-requires-clause-built g c =
    subst (All (λ (s : Scale). IsTrue (is_built s))) (sym c.scales_in.ensures) (top_kept c.args.g.now c.requires.kept).scales

pub kept_scales-requires-clause-bounds : goal.kept_scales-requires-clause-bounds
kept_scales-requires-clause-bounds g c = subst (All KeepsBounds) (sym c.scales_in.ensures) (top_kept c.args.g.now c.requires.kept).bounds

pub kept_scales-requires-clause-fits : goal.kept_scales-requires-clause-fits
kept_scales-requires-clause-fits g c =
    subst (λ scales. AllZip FitsScale scales c.as_slice.result.now) (sym c.scales_in.ensures)
    (subst (AllZip FitsScale (top_of c.args.g.now).object.scales) (sym c.as_slice.ensures) c.requires.fit.domains)

pub and_outer-requires-clause-own : goal.and_outer-requires-clause-own
and_outer-requires-clause-own g c = subst (All IsKeptScale) (sym c.as_slice-mine.ensures) c.in_ok-own.ensures.kept

pub draw_top-requires-clause-top : goal.draw_top-requires-clause-top
draw_top-requires-clause-top g c = record {
  kept = c.requires.kept;
  fits = c.requires.fit;
  scales = subst AreKeptScales (sym c.as_slice-here.ensures) c.in_ok-scales.ensures.kept;
}

pub returns : goal.returns
returns g c =
    let items = g.M.MarkItems.items c.args.maker.now in
    let lists = g.M.MarkItems.lists c.args.maker.now in
    let spec = c.args.g.now in
    let facts = c.args.facts.now in
    let values : values_over c.args.stores.now c.as_slice-signals.result.now
    ≡ values_inside (out-CopyFacts facts).signals (values_of_stores c.args.stores.now) =
    values_entered c.args.stores.now c.as_slice-signals.result.now [] (out-CopyFacts facts).signals
    (ap (map (λ l. l.now)) c.as_slice-signals.ensures ∙ c.in_ok-levels.ensures) in
    let scales : map scale_seen c.as_slice-here.result.now ≡ scales_on_top spec facts =
    ap (map scale_seen) c.as_slice-here.ensures ∙ c.in_ok-scales.ensures.value
    ∙ ap (and_outer []) (ap (map kept_seen) c.as_slice-mine.ensures ∙ c.in_ok-own.ensures.value
    ∙ (λ i. own_scales (c.of_top.ensures i) (c.scales_in.ensures i) (c.as_slice.ensures i))) in
    subst (Evaluates c.draw_top.result)
    ((λ i. drawn_top items spec (found_on_top lists (values i) facts)
    (top_seen (names_on_top lists (values i)) (c.slice_of.ensures i) (scales i) (pos 0) (pos 0)))
    ∙ top_is_drawn items lists c.args.stores.now spec facts)
    c.draw_top.ensures
