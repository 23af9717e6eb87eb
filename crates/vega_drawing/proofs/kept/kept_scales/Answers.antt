use Rattle.std.proofs.Common.{inl, inr}
use Rattle.vega_drawing.specs.inner.Kept.{chart_has}
use Rattle.vega_drawing.proofs.KeptLemmas.{own_ended, own_kept}
use Rattle.vega_drawing.proofs.kept.kept_scales.Goals as goal

pub returns-clause-value : goal.returns-clause-value
returns-clause-value c =
    elim c.in-None.ensures.steps [
      | inl scales ↦ own_ended (chart_has c.args.of) _ _ c.loop-scale.scale-iterator.a.rest.now
          c.loop-scale.scale-iterator.b.rest.now (inl scales.1.0) c.loop-scale.invariant
      | inr domains ↦ own_ended (chart_has c.args.of) _ _ c.loop-scale.scale-iterator.a.rest.now
          c.loop-scale.scale-iterator.b.rest.now (inr domains.1.0) c.loop-scale.invariant
    ]

pub returns-clause-kept : goal.returns-clause-kept
returns-clause-kept c =
    elim c.in-None.ensures.steps [
      | inl scales ↦ own_kept (chart_has c.args.of) c.args.scales.now c.args.domains.now c.loop-scale.kept
          (own_ended (chart_has c.args.of) _ _ c.loop-scale.scale-iterator.a.rest.now
          c.loop-scale.scale-iterator.b.rest.now (inl scales.1.0) c.loop-scale.invariant)
          c.requires.built c.requires.bounds c.requires.fits
      | inr domains ↦ own_kept (chart_has c.args.of) c.args.scales.now c.args.domains.now c.loop-scale.kept
          (own_ended (chart_has c.args.of) _ _ c.loop-scale.scale-iterator.a.rest.now
          c.loop-scale.scale-iterator.b.rest.now (inr domains.1.0) c.loop-scale.invariant)
          c.requires.built c.requires.bounds c.requires.fits
    ]
