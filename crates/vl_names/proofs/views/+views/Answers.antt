use Rattle.std.proofs.Common.{◌≡◌, ◌≤◌, List, length, map, subst, arith}
use Rattle.std.specs.Prelude.{OnOk}
use Rattle.vl_names.specs.Views.{ViewIn}
use Rattle.vl_names.specs.inner.Shown.{view_shown}
use Rattle.vl_names.proofs.ViewLemmas.{unit_added, layer_added, facet_added, joined_added, one_view, no_view_more}
use Rattle.vl_names.proofs.views.+views.Goals as goal

pub push_view-returns-in-Unit : goal.push_view-returns-in-Unit
push_view-returns-in-Unit t c =
    unit_added c.args.view.now c.in-Unit.field-0 c.args.trail.now (map view_shown c.args.out.now) _ c.in_ok-push_here.ensures c.in-Unit.is

pub push_view-returns-in-Layer : goal.push_view-returns-in-Layer
push_view-returns-in-Layer t c =
    let all : List ViewIn → Type 0 = λ vs. OnOk c.push_list.result (map view_shown c.push_list.new.out ≡ vs) in
    subst all (layer_added c.args.view.now c.in-Layer.layer c.args.trail.now c.as_slice.result.now (map view_shown c.args.out.now) _
    c.in_ok-push_here.ensures c.in-Layer.is c.as_slice.ensures) c.push_list.ensures

pub push_view-returns-in-Facet : goal.push_view-returns-in-Facet
push_view-returns-in-Facet t c =
    let all : List ViewIn → Type 0 = λ vs. OnOk c.push_only.result (map view_shown c.push_only.new.out ≡ vs) in
    subst all (facet_added c.args.view.now c.in-Facet.faceted c.args.trail.now c.get.result.now (map view_shown c.args.out.now) _
    c.in_ok-push_here.ensures c.in-Facet.is c.get.ensures) c.push_only.ensures

pub push_view-returns-in-Joined : goal.push_view-returns-in-Joined
push_view-returns-in-Joined t c =
    let all : List ViewIn → Type 0 = λ vs. OnOk c.push_list-in-Joined.result (map view_shown c.push_list-in-Joined.new.out ≡ vs) in
    subst all (joined_added c.args.view.now c.in-Joined.joined c.args.trail.now c.as_slice-in-Joined.result.now c.joined_word.result.now
    (map view_shown c.args.out.now) _ c.in_ok-push_here.ensures c.in-Joined.is c.as_slice-in-Joined.ensures c.joined_word.ensures)
    c.push_list-in-Joined.ensures

pub push_items-loop-number-preserved : goal.push_items-loop-number-preserved
push_items-loop-number-preserved t c =
    one_view c.args.views.now c.args.trail.now c.loop-number.number c.index-views-number.result (map view_shown c.loop-number.out) _ _
    c.loop-number-test.true c.index-views-number.is c.in_ok-push_item.ensures c.loop-number.invariant

pub push_items-returns : goal.push_items-returns
push_items-returns t c =
    let past = c.loop-number-test.false in
    let over : length c.args.views.now ≤ c.loop-number.number = omega arith in
    no_view_more c.args.views.now c.args.trail.now c.loop-number.number (map view_shown c.loop-number.out) _ over c.loop-number.invariant
