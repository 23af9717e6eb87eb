use Rattle.std.proofs.Common.{◌≡◌, List, ◌++◌, subst}
use Rattle.std.specs.Prelude.{OnOk}
use Rattle.spec_walk.proofs.Opened.{walked, list_inside, object_inside}
use Rattle.spec_walk.proofs.visits.+walk.Goals as goal

pub walk-returns-clause-gathered : goal.walk-returns-clause-gathered
walk-returns-clause-gathered g t c =
    walked c.args.schema.now g.V.Visitor.noted g.V.Visitor.visit c.args.tree.now c.args.number c.args.shape c.in-Some.form
    (g.V.Visitor.trail c.args.visitor.now) (g.V.Visitor.trail c.enter.new.self)
    (g.V.Visitor.gathered c.args.visitor.now) (g.V.Visitor.gathered c.enter.new.self)
    (g.V.Visitor.gathered c.walk_inside.new.visitor) (g.V.Visitor.gathered c.leave.new.self)
    c.in-Some.ensures c.in_ok-enter.ensures.trail c.in_ok-enter.ensures.gathered
    c.in_ok-walk_inside.ensures.gathered c.leave.ensures.gathered

pub walk_inside-returns-in-List-clause-gathered : goal.walk_inside-returns-in-List-clause-gathered
walk_inside-returns-in-List-clause-gathered g t c =
    let gives : List g.V.Visitor.Part → Type 0 = λ parts.
    OnOk c.walk_list.result (g.V.Visitor.gathered c.walk_list.new.visitor ≡ g.V.Visitor.gathered c.args.visitor.now ++ parts) in
    subst gives (list_inside c.args.schema.now g.V.Visitor.noted g.V.Visitor.visit c.args.tree.now c.in-List.items _
    c.args.form _ (g.V.Visitor.trail c.args.visitor.now) c.in-List.is c.as_slice.ensures c.items.ensures) c.walk_list.ensures.gathered

pub walk_inside-returns-in-Object-clause-gathered : goal.walk_inside-returns-in-Object-clause-gathered
walk_inside-returns-in-Object-clause-gathered g t c =
    let gives : List g.V.Visitor.Part → Type 0 = λ parts.
    OnOk c.walk_object.result (g.V.Visitor.gathered c.walk_object.new.visitor ≡ g.V.Visitor.gathered c.args.visitor.now ++ parts) in
    subst gives (object_inside c.args.schema.now g.V.Visitor.noted g.V.Visitor.visit c.args.tree.now c.in-Object.members _
    c.args.form (g.V.Visitor.trail c.args.visitor.now) c.in-Object.is c.as_slice-in-Object.ensures) c.walk_object.ensures.gathered
