use Rattle.std.proofs.Common.{◌≡◌, List, map, subst, ap, ◌∙◌}
use Rattle.std.specs.Prelude.{OnOk, codes}
use Rattle.vl_trails.specs.Judging.{after}
use Rattle.vl_trails.specs.Trails.{to_member}
use Rattle.vl_rules.specs.declared.offers.Offer.{Offer}
use Rattle.vl_rules.specs.Selections.{below}
use Rattle.vl_rules.specs.Views.{params_faults}
use Rattle.vl_rules.proofs.views.judge_params.Goals as goal

pub returns : goal.returns
returns c =
    let all : List Offer → Type 0 = λ us. OnOk c.judge_listed.result (c.judge_listed.new.judging
    ≡ after c.args.judging.now (params_faults c.args.judging.now.tree.now c.args.first.now c.args.params.now c.args.offers.now us
    c.args.numbers.now (to_member c.args.judging.now.trail (codes "params")))) in
    subst all (ap (map (λ o. o.now)) c.as_slice-2.ensures ∙ c.in_ok-inside.ensures ∙ ap (λ t. below t c.args.offers.now) c.as_slice.ensures)
    c.judge_listed.ensures
