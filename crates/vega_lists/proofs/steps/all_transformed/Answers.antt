use Rattle.vega_lists.specs.Held.{scope_in}
use Rattle.vega_lists.proofs.StepLemmas.{rest_may_fold}
use Rattle.vega_lists.proofs.steps.all_transformed.Goals as goal

pub run-requires-clause-folds : goal.run-requires-clause-folds
run-requires-clause-folds g c =
    rest_may_fold (g.P.ParamReader.values c.args.params.now) (scope_in c.args.sources.now c.args.lists.now)
    c.args.rows.now c.in-Ok.made c.first-item.result c.args.transforms.now
    c.requires.folds c.in-len1-up.len_at_least c.first-item.is c.in-Ok.ensures.read
