-- The signals of what is read stand in orders.
use Rattle.std.proofs.Common.{◌≡◌, subst}
use Rattle.std.specs.Prelude.{None}
use Rattle.json_exact.specs.declared.json.Json.{Json}
use Rattle.vega_parts.specs.Parts.{parts_of}
use Rattle.vega_rules.specs.Faults.{earliest}
use Rattle.vega_rules.specs.Rules.{rule_faults}
use Rattle.vega_rules.specs.Cycles.{first_cycle}
use Rattle.vega_model.specs.Faults.{fault_by_members, fault_by_rules, judged, gathered, first_fault_of}
use Rattle.vega_building.specs.Spec.{spec_of}
use Rattle.vega_copies.specs.Outlines.{Object, outline_of}
use Rattle.vega_standing.specs.OwnNames.{HasOwnNames}
use Rattle.vega_signals.specs.Laws.{SettleInOrder}
use Rattle.vega_copies.specs.Outlines.{Marks, NoMarks, AMark, AGroup}
use Rattle.vega_standing.specs.Orders.{HasOrder, Settles, EachObject, OfAll, AcceptedAreInOrder, AcceptedSettle}
use Rattle.vega_standing.proofs.ReadTrees.{read_own}
use Rattle.vega_standing.proofs.Top.{IsTop, the_top, none_earlier, none_placed, none_sooner}
use Rattle.vega_standing.proofs.Whole.{read_as}
use Rattle.vega_standing.proofs.InOrder.{all_in_order}

-- a tree without fault has no signal that needs itself
no_cycle : (tree : Json) → first_fault_of tree ≡ None → first_cycle (parts_of tree) ≡ None
unfolding first_fault_of fault_by_members judged gathered
no_cycle tree e =
    let faults : (fault_by_members tree ≡ None) × (fault_by_rules tree ≡ None) = none_earlier (fault_by_members tree) (fault_by_rules tree) e in
    (none_sooner (earliest (rule_faults (parts_of tree))) (first_cycle (parts_of tree)) (none_placed tree (judged (gathered tree)) faults.1)).1

of_tree : (tree : Json) → HasOwnNames tree → first_fault_of tree ≡ None → OfAll HasOrder (spec_of tree)
of_tree tree own e = let t : IsTop tree = the_top tree own e in all_in_order tree t.stands (record { twice = t.rules.twice; cycle = no_cycle tree e })

pub accepted : AcceptedAreInOrder
accepted bytes tree g reads e =
    let read : (first_fault_of tree ≡ None) × (spec_of tree ≡ g) = read_as (first_fault_of tree) g (spec_of tree) e in
    subst (OfAll HasOrder) read.1 (of_tree tree (read_own bytes tree reads) read.0)

-- ---- what settles

each_object : (P Q : Object → Type 0) → ((o : Object) → P o → Q o) → (marks : Marks) → EachObject P marks → EachObject Q marks
each_object P Q f NoMarks e = tt
each_object P Q f (AMark unit mark others) e = each_object P Q f others e
each_object P Q f (AGroup o inside others) e = (f o e.0, each_object P Q f inside e.1, each_object P Q f others e.2)

settles : SettleInOrder → (o : Object) → HasOrder o → Settles o
settles law o order = λ sources lists outer given. law sources lists outer given o.signals o.sets order.0 order.1

pub all_settle : SettleInOrder → AcceptedSettle
all_settle law bytes tree g reads e =
    let orders : OfAll HasOrder g = accepted bytes tree g reads e in
    record { top = settles law (outline_of g).object orders.top; inside = each_object HasOrder Settles (settles law) (outline_of g).marks orders.inside }
