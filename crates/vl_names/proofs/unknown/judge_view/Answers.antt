use Rattle.std.proofs.Common.{◌≡◌, ◌++◌, subst, ◌∙◌}
use Rattle.std.specs.Prelude.{codes, OnOk}
use Rattle.vl_trails.specs.declared.judging.Judging.{Judging}
use Rattle.vl_trails.specs.Judging.{after}
use Rattle.vl_trails.specs.Trails.{to_member}
use Rattle.vl_names.specs.Filters.{Judged}
use Rattle.vl_names.specs.Unknown.{encoding_part, facet_part, transforms_faults}
use Rattle.vl_names.specs.Views.{ViewIn}
use Rattle.vl_names.specs.inner.Looked.{known_shown}
use Rattle.vl_names.specs.inner.Shown.{view_shown}
use Rattle.vl_names.proofs.LoopLemmas.{three_parts}
use Rattle.vl_names.proofs.unknown.judge_view.Goals as goal

pub returns : goal.returns
returns c =
    let known = known_shown c.args.known.now in
    let v : ViewIn = view_shown c.args.here.now in
    let steps : Judged = λ trail. transforms_faults known c.transforms_in.result.now (to_member trail (codes "transform")) in
    let all : Judging → Type 0 = λ j. OnOk c.judge_parts.result (c.judge_parts.new.j ≡ j) in
    subst all (three_parts c.args.j.now _ _ steps (encoding_part known v.encoding) (facet_part known v.facet)
    c.in_ok-judge_transforms.ensures c.in_ok-judge_channels.ensures
    ∙ (λ i. after c.args.j.now (transforms_faults known (c.transforms_in.ensures i) (to_member (c.requires i) (codes "transform"))
    ++ encoding_part known v.encoding (c.requires i) ++ facet_part known v.facet (c.requires i)))) c.judge_parts.ensures
