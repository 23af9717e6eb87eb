use Rattle.std.proofs.Common.{◌≡◌, sym, ◌∙◌, subst}
use Rattle.std.specs.Prelude.{Option, IfOk}
use Rattle.spec_schema.specs.declared.fault.Fault.{Fault}
use Rattle.spec_schema.proofs.Firsts.{in_list, in_object, by_layout}
use Rattle.spec_schema.proofs.search.+search.Goals as goal

pub first_by_layout-returns : goal.first_by_layout-returns
first_by_layout-returns t c =
    let is : Option Fault → Type 0 = λ y. IfOk c.first_missing.result (λ f. f ≡ y) in
    subst is (by_layout c.args.schema.now c.args.layout.now c.args.members.now _ c.as_slice.ensures (sym c.in_ok-fault.ensures
    ∙ c.in_default.is)) c.first_missing.ensures

pub first_fault-returns-in-List : goal.first_fault-returns-in-List
first_fault-returns-in-List t c =
    let is : Option Fault → Type 0 = λ y. IfOk c.first_in_list.result (λ f. f ≡ y) in
    subst is (in_list c.args.schema.now c.args.tree.now c.args.shape c.in-Some.form c.in-List.items _ _ c.in-List.is c.in-Some.ensures
    c.as_slice.ensures c.items.ensures) c.first_in_list.ensures

pub first_fault-returns-in-Object : goal.first_fault-returns-in-Object
first_fault-returns-in-Object t c =
    let is : Option Fault → Type 0 = λ y. IfOk c.first_in_object.result (λ f. f ≡ y) in
    subst is (in_object c.args.schema.now c.args.tree.now c.args.shape c.in-Some.form c.in-Object.members _ c.in-Object.is c.in-Some.ensures
    c.as_slice-in-Object.ensures) c.first_in_object.ensures
