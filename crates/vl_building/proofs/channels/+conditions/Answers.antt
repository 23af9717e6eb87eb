use Rattle.std.proofs.Common.{◌≡◌, List, subst, ap, ◌∙◌}
use Rattle.std.specs.Prelude.{Some, IfOk}
use Rattle.vl_spec.specs.declared.channels.Condition.{Condition}
use Rattle.vl_spec.specs.declared.channels.Conditions.TheVariants as conditions
use Rattle.vl_building.specs.Channels.{condition_of}
use Rattle.vl_building.proofs.MadeLemmas.{one_made}
use Rattle.vl_building.proofs.ChannelLemmas.{object_is, one_is, list_is}
use Rattle.vl_building.proofs.channels.+conditions.Goals as goal

pub condition_of-returns-in-Object : goal.condition_of-returns-in-Object
condition_of-returns-in-Object t c =
    let is : Condition → Type 0 = λ y. IfOk c.object_condition.result (λ f. f ≡ y) in
    subst is (object_is c.args.tree.now c.in-Object.members _ c.in-Object.is c.as_slice.ensures) c.object_condition.ensures

pub conditions_of-returns-in_ok-condition-in-Object : goal.conditions_of-returns-in_ok-condition-in-Object
conditions_of-returns-in_ok-condition-in-Object t c =
    ap (λ (held : Condition). Some (conditions.One held)) (c.in_ok-condition-in-Object.ensures _ c.object_condition.ensures)
    ∙ one_is c.args.tree.now c.in-Object.members _ c.in-Object.is c.as_slice.ensures

pub conditions_of-returns-in_ok-conditions-in-List : goal.conditions_of-returns-in_ok-conditions-in-List
conditions_of-returns-in_ok-conditions-in-List t c =
    ap (λ (held : List Condition). Some (conditions.Several held)) c.in_ok-conditions-in-List.ensures
    ∙ list_is c.args.tree.now c.in-List.items _ c.in-List.is c.as_slice-in-List.ensures

pub conditions_in-loop-tree-preserved : goal.conditions_in-loop-tree-preserved
conditions_in-loop-tree-preserved t c =
    one_made condition_of c.args.items.now c.loop-tree.tree-index c.tree-item.result c.loop-tree.out _ c.loop-tree-test.true c.tree-item.is
    c.loop-tree.invariant (c.in_ok-push_made.ensures _ c.condition_of.ensures)
