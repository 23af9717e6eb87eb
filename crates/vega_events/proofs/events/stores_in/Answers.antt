use Rattle.std.proofs.Common.{inl, inr, subst}
use Rattle.std.proofs.lemmas.List.Elements.{All-tail}
use Rattle.vega_events.specs.Premises.{IsTold, FieldsAreTold}
use Rattle.vega_events.proofs.StoreLemmas.{zip_ended, zip_goes_on, no_less, few_more}
use Rattle.vega_events.proofs.events.stores_in.Goals as goal

pub loop-v-preserved : goal.loop-v-preserved
loop-v-preserved g c =
    let steps = c.in-Some.ensures.steps in (
      zip_goes_on _ _ _ _ _ _ _ _ _ _ _ steps.0 steps.1 c.in_ok-store_after.ensures.value c.in_ok-push.ensures.ok c.loop-v.invariant.0,
      All-tail (IsTold (g.R.UnitRows.tells c.args.rows.now)) _ _
          (subst (FieldsAreTold (g.R.UnitRows.tells c.args.rows.now)) steps.0 c.loop-v.invariant.1),
      no_less _ _ _ c.loop-v.invariant.2 c.in_ok-store_after.ensures.counted,
      few_more _ _ _ _ _ _ _ steps.0 c.in_ok-store_after.ensures.few c.loop-v.invariant.3,
    )

pub returns-clause-value : goal.returns-clause-value
returns-clause-value g c =
    elim c.in-None.ensures.steps [
      | inl xs ↦ zip_ended _ c.loop-v.out _ c.loop-v.v-iterator.a.rest.now c.loop-v.v-iterator.b.rest.now (inl xs.1.0) c.loop-v.invariant.0
      | inr ys ↦ zip_ended _ c.loop-v.out _ c.loop-v.v-iterator.a.rest.now c.loop-v.v-iterator.b.rest.now (inr ys.1.0) c.loop-v.invariant.0
    ]
