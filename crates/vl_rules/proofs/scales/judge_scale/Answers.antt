use Rattle.std.proofs.Common.{◌≡◌, subst}
use Rattle.std.specs.Prelude.{OnOk}
use Rattle.vl_trails.specs.declared.judging.Judging.{Judging}
use Rattle.vl_rules.specs.Scales.{unfit_range, unfit_scheme, unfit_type}
use Rattle.vl_rules.proofs.LoopLemmas.{three_parts}
use Rattle.vl_rules.proofs.scales.judge_scale.Goals as goal

pub returns : goal.returns
returns c =
    let all : Judging → Type 0 = λ j. OnOk c.judge_scheme.result (c.judge_scheme.new.judging ≡ j) in
    subst all (three_parts c.args.judging.now _ _ (λ tree. unfit_type tree c.args.channel c.args.definition.now c.args.scale.now)
    (λ tree. unfit_range tree c.args.channel c.args.definition.now c.args.scale.now)
    (λ tree. unfit_scheme tree c.args.channel c.args.definition.now c.args.scale.now) c.in_ok-judge_type.ensures c.in_ok-judge_range.ensures)
    c.judge_scheme.ensures
