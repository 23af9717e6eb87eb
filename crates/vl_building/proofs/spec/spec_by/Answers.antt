use Rattle.std.proofs.Common.{[], ◌∙◌}
use Rattle.vl_building.specs.Sources.{sources_of}
use Rattle.vl_building.specs.inner.Named.{shown}
use Rattle.vl_building.proofs.SpecLemmas.{parts_are, known}
use Rattle.vl_building.proofs.ViewLemmas.{view_is}
use Rattle.vl_building.proofs.spec.spec_by.Goals as goal

pub returns : goal.returns
returns c =
    parts_are c.args.tree.now _ c.args.named.now.all (shown c.args.named.now) c.args.params _ _ _ _ _ _ _ c.members_of-members.ensures
    (known _ _ _ c.in_ok-params.ensures.second c.text_at.ensures) c.number_between.ensures c.named_at.ensures
    (known _ _ _ c.in_ok-params.ensures.fourth c.config_at.ensures)
    (known _ _ _ c.in_ok-params.ensures.third c.sources_of.ensures ∙ (λ i. sources_of (c.needed_members.ensures i) (c.as_slice.ensures i)))
    (known _ _ _ c.in_ok-params.ensures.first c.bare_params.ensures)
    (known _ _ _ c.in_ok-params.ensures.fifth c.view_of.ensures
    ∙ view_is (shown c.args.named.now) c.args.tree.now _ [] c.members_of-members.ensures)
