use Rattle.std.proofs.Common.{Bool, List, map, refl, sym, subst}
use Rattle.std.specs.Prelude.{not}
use Rattle.std.specs.List.{All, filter}
use Rattle.vega_drawing.specs.declared.scales.ScaleKept.{ScaleKept}
use Rattle.vega_drawing.specs.Scales.{ScaleHere, and_outer, has_scale, name_of}
use Rattle.vega_drawing.specs.inner.Kept.{scale_seen, kept_seen, IsFitHere}
use Rattle.vega_drawing.proofs.KeptLemmas.{kept_and_outer}
use Rattle.vega_drawing.proofs.SeenLemmas.{all_added}
use Rattle.vega_drawing.proofs.scales.and_outer.Goals as goal

abbrev is_shown : List ScaleKept → ScaleHere → Bool
is_shown own s = not (has_scale (map kept_seen own) (name_of s))

pub returns-clause-kept : goal.returns-clause-kept
returns-clause-kept c =
    subst (All IsFitHere)
    (sym (all_added (λ xs. filter (is_shown c.args.own.now) (map scale_seen xs)) c.args.outer.now c.loop-scale.scale-index (map scale_seen c.loop-scale.out)
    (and_outer (map scale_seen c.args.outer.now) (map kept_seen c.args.own.now)) refl c.loop-scale-test.false c.loop-scale.invariant))
    (kept_and_outer c.args.own.now (map scale_seen c.args.outer.now) c.requires.own c.requires.outer)
