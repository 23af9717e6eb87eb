use Rattle.std.proofs.Common.{◌≡◌, drop, map}
use Rattle.vl_trails.specs.Judging.{after}
use Rattle.vl_rules.specs.Views.{items_from, param_fault, params_faults}
use Rattle.vl_rules.proofs.views.judge_items.Given as goal

abbrev pub invariant-loop-place : goal.invariant-loop-place
invariant-loop-place l =
    after l.judging (items_from l.place
    (map (param_fault l.judging.tree.now l.first l.params l.offers (map (λ o. o.now) l.inside)) (drop l.place l.numbers)) l.judging.trail)
    ≡ after l.fn.judging (params_faults l.fn.judging.tree.now l.first l.params l.offers (map (λ o. o.now) l.inside) l.numbers l.fn.judging.trail)
