use Rattle.std.proofs.Common.{◌++◌, ◌∷◌, [], ap, ◌∙◌}
use Rattle.vega_lists.proofs.ParamLemmas.{one_param}
use Rattle.vega_lists.proofs.operations.params_of.Goals as goal

pub loop-place-preserved : goal.loop-place-preserved
loop-place-preserved c =
    one_param c.args.params.now c.args.ops.now c.loop-place.place c.loop-place.given c.push.new.self _ c.loop-place-test.true
    (c.in_ok-push.ensures.ok ∙ ap (λ n. c.loop-place.given ++ n ∷ []) c.param_at.ensures) c.loop-place.invariant
