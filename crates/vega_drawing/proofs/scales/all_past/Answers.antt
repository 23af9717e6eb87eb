use Rattle.std.proofs.Common.{map, refl, sym, subst}
use Rattle.std.specs.List.{All}
use Rattle.vega_drawing.specs.Scales.{past}
use Rattle.vega_drawing.specs.inner.Kept.{scale_seen, IsFitHere}
use Rattle.vega_drawing.proofs.KeptLemmas.{kept_past}
use Rattle.vega_drawing.proofs.SeenLemmas.{all_added}
use Rattle.vega_drawing.proofs.scales.all_past.Goals as goal

pub returns-clause-kept : goal.returns-clause-kept
returns-clause-kept c =
    subst (All IsFitHere)
    (sym (all_added (λ xs. map (past c.args.spot) (map scale_seen xs)) c.args.scales.now c.loop-scale.scale-index (map scale_seen c.loop-scale.out)
    (map (past c.args.spot) (map scale_seen c.args.scales.now)) refl c.loop-scale-test.false c.loop-scale.invariant))
    (kept_past c.args.spot (map scale_seen c.args.scales.now) c.requires.kept)
