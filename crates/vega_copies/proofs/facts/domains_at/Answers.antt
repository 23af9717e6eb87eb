use Rattle.std.proofs.Common.{◌≡◌, ◌+◌, Some, [], map, take, sym, ap, ◌∙◌, subst}
use Rattle.std.specs.List.{AllZip}
use Rattle.std.proofs.lemmas.List.{take_all}
use Rattle.fixed_num.specs.Ranges.{all_found}
use Rattle.expr_eval.proofs.Several.{all_more, stops_all}
use Rattle.vega_scales.specs.Scales.{FitsScale}
use Rattle.vega_copies.specs.inner.FactsMade.{domain_at}
use Rattle.vega_copies.specs.inner.Levels.{names_at}
use Rattle.vega_copies.proofs.FoundLemmas.{added_both, not_added, is_value, is_stopped}
use Rattle.vega_copies.proofs.MadeLemmas.{zip_more}
use Rattle.vega_copies.proofs.facts.domains_at.Goals as goal

pub loop-scale-init : goal.loop-scale-init
loop-scale-init c = record {
  value = ap Some (sym c.in_ok-domains.ensures);
  fits = subst (AllZip FitsScale []) (sym c.in_ok-domains.ensures) tt;
}

pub loop-scale-preserved : goal.loop-scale-preserved
loop-scale-preserved c =
    let one = domain_at (names_at c.args.names.now.stores.now c.args.names.now.sources.now c.args.names.now.levels.now) in
    let found =
    added_both c.domain_at.result c.loop-scale.domains _ (λ domain. one c.scale-item.result ≡ Some domain) (FitsScale c.scale-item.result) _ c.in-Ok.ensures
    (is_value c.domain_at.result (one c.scale-item.result) c.domain_at.ensures.value) c.domain_at.ensures.fits in
    record {
      value =
          all_more one c.args.scales.now c.loop-scale.scale-index _ c.loop-scale.domains found.0 c.loop-scale-test.true c.scale-item.is
          c.loop-scale.invariant.value found.1
          ∙ ap Some (sym found.3);
      fits =
          subst (AllZip FitsScale (take (c.loop-scale.scale-index + 1) c.args.scales.now)) (sym found.3)
          (zip_more FitsScale c.args.scales.now c.loop-scale.domains c.loop-scale.scale-index _ found.0 c.loop-scale-test.true c.scale-item.is
          c.loop-scale.invariant.fits found.2);
    }

pub returns-in-Err-clause-value : goal.returns-in-Err-clause-value
returns-in-Err-clause-value c =
    let one = domain_at (names_at c.args.names.now.stores.now c.args.names.now.sources.now c.args.names.now.levels.now) in
    stops_all one c.args.scales.now c.loop-scale.scale-index _ c.loop-scale-test.true c.scale-item.is c.in-Err.error
    (not_added c.domain_at.result _ _ (one c.scale-item.result) c.in-Err.error c.in-Err.ensures
    (is_stopped c.domain_at.result (one c.scale-item.result) c.domain_at.ensures.value))

pub returns-clause-value : goal.returns-clause-value
returns-clause-value c =
    ap (λ scales. all_found (map (domain_at (names_at c.args.names.now.stores.now c.args.names.now.sources.now c.args.names.now.levels.now)) scales))
    (sym (take_all c.loop-scale.scale-index c.args.scales.now c.loop-scale-test.false))
    ∙ c.loop-scale.invariant.value

pub returns-clause-fits : goal.returns-clause-fits
returns-clause-fits c =
    subst (λ scales. AllZip FitsScale scales c.loop-scale.domains) (take_all c.loop-scale.scale-index c.args.scales.now c.loop-scale-test.false)
    c.loop-scale.invariant.fits
