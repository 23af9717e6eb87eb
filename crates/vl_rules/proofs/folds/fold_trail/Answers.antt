use Rattle.std.proofs.Common.{◌≡◌, subst, ap, ◌∙◌}
use Rattle.std.specs.Prelude.{IfOk, codes}
use Rattle.vl_trails.specs.Trails.{Trail, to_item, to_member}
use Rattle.vl_rules.proofs.folds.fold_trail.Goals as goal

pub returns : goal.returns
returns c =
    let all : Trail → Type 0 = λ t. IfOk c.to_member-2.result (λ longer. longer ≡ to_member t (codes "fold")) in
    subst all (c.as_slice-2.ensures ∙ c.in_ok-transform.ensures ∙ ap (λ t. to_item t c.args.number) (c.as_slice.ensures ∙ c.in_ok-transforms.ensures))
    c.to_member-2.ensures
