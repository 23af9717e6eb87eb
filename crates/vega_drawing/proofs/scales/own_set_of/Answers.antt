use Rattle.std.proofs.Common.{◌≡◌, ◌++◌, map, sym, ap, ◌∙◌, subst}
use Rattle.std.specs.Prelude.{IfOk}
use Rattle.std.specs.List.{All}
use Rattle.std.proofs.lemmas.List.Elements.{All-map}
use Rattle.scale_kit.specs.declared.scale.ScaleSet.{ScaleSet}
use Rattle.vega_drawing.specs.Scales.{set_of}
use Rattle.vega_drawing.specs.inner.Kept.{kept_seen, scale_seen, IsFitHere}
use Rattle.vega_drawing.proofs.scales.own_set_of.Goals as goal

pub set_of-requires-clause-kept : goal.set_of-requires-clause-kept
set_of-requires-clause-kept c =
    subst (All IsFitHere)
    (sym (ap (map scale_seen) c.as_slice.ensures ∙ c.in_ok-push_own.ensures
    ∙ ap (λ scales. map scale_seen scales ++ map kept_seen c.args.own.now) c.in_ok-scales.ensures))
    (All-map IsFitHere kept_seen c.args.own.now c.requires.kept)

pub returns-clause-value : goal.returns-clause-value
returns-clause-value c =
    subst (λ scales. IfOk c.set_of.result (λ (set : ScaleSet). set ≡ set_of c.args.width c.args.height scales))
    (ap (map scale_seen) c.as_slice.ensures ∙ c.in_ok-push_own.ensures
    ∙ ap (λ scales. map scale_seen scales ++ map kept_seen c.args.own.now) c.in_ok-scales.ensures)
    c.set_of.ensures.value
