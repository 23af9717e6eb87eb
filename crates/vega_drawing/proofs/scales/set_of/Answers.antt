use Rattle.std.proofs.Common.{◌++◌, ◌∷◌, [], ◌∙◌, map, sym, ap, subst}
use Rattle.std.specs.List.{All}
use Rattle.std.proofs.lemmas.List.Elements.{All-push}
use Rattle.scale_kit.specs.Scale.{IsScale}
use Rattle.scale_kit.specs.declared.scale.ScaleIn.{ScaleIn}
use Rattle.vega_drawing.specs.Scales.{scale_in}
use Rattle.vega_drawing.specs.inner.Kept.{scale_seen, IsFitHere}
use Rattle.vega_drawing.proofs.SeenLemmas.{one_more_added, at_seen, seen_twice_made}
use Rattle.vega_drawing.proofs.scales.set_of.Goals as goal

pub scale_in-requires-clause-kept : goal.scale_in-requires-clause-kept
scale_in-requires-clause-kept c =
    at_seen IsFitHere scale_seen c.args.scales.now c.loop-scale.scale-index c.scale-item.result c.loop-scale-test.true c.scale-item.is c.requires.kept

pub loop-scale-preserved : goal.loop-scale-preserved
loop-scale-preserved c = record {
  value =
      one_more_added (λ xs. map (scale_in c.args.width c.args.height) (map scale_seen xs)) c.args.scales.now c.loop-scale.scale-index c.scale-item.result
      c.loop-scale.made c.push.new.self (map (scale_in c.args.width c.args.height) (map scale_seen c.args.scales.now))
      (seen_twice_made (scale_in c.args.width c.args.height) scale_seen) c.loop-scale-test.true c.scale-item.is c.loop-scale.invariant.value
      (c.in_ok-push.ensures.ok ∙ ap (λ s. c.loop-scale.made ++ s ∷ []) c.in_ok-named.ensures.value);
  sound =
      subst (All (λ (made : ScaleIn). IsScale made.scale)) (sym c.in_ok-push.ensures.ok)
      (All-push (λ (made : ScaleIn). IsScale made.scale) c.loop-scale.made c.in_ok-named.named c.loop-scale.invariant.sound c.in_ok-named.ensures.sound);
}
