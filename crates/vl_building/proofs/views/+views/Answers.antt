use Rattle.std.proofs.Common.{◌≡◌, List, map, subst, ap, rules, ◌∙◌}
use Rattle.std.specs.Prelude.{IfOk, codes}
use Rattle.vl_spec.specs.declared.views.View.{View}
use Rattle.vl_building.specs.Views.{child, as_view, kind_by, view_with, view_given, views_given, views_in}
use Rattle.vl_building.specs.inner.Named.{shown}
use Rattle.vl_building.specs.inner.Heads.{views_inside, view_in}
use Rattle.vl_building.proofs.ViewLemmas.{view_is, views_are, empty_is, here_first, none_left, one_view}
use Rattle.vl_building.proofs.views.+views.Goals as goal

pub view_of-returns : goal.view_of-returns
view_of-returns t c =
    subst (λ (y : View). IfOk c.view_with.result (λ v. v ≡ y)) (λ i. view_with (shown c.args.named.now) c.args.members.now c.args.place.now
    (kind_by (c.view_word.ensures i) c.args.members.now (views_inside (shown c.args.named.now) c.args.members.now c.args.place.now)))
    (c.view_with.ensures _ c.kind_by-kind.ensures)

pub view_at-returns-then-eq : goal.view_at-returns-then-eq
view_at-returns-then-eq t c =
    subst (λ (y : View). IfOk c.boxed.result (λ held. held ≡ y))
    (ap (view_in (shown c.args.named.now) c.members_of.result.now) (c.as_slice.ensures ∙ c.in_ok-here.ensures)
    ∙ view_is (shown c.args.named.now) c.index-members-number.result.value _ (child c.args.place.now c.loop-number.number) c.members_of.ensures
    ∙ here_first view_given (shown c.args.named.now) c.args.members.now c.args.place.now (codes "spec") c.loop-number.number
    c.index-members-number.result _ c.loop-number-test.true c.index-members-number.is (search rules) c.loop-number.invariant)
    (c.boxed.ensures _ c.view_of-view.ensures)

pub view_at-returns : goal.view_at-returns
view_at-returns t c =
    subst (λ (y : View). IfOk c.boxed-2.result (λ held. held ≡ y))
    (empty_is (shown c.args.named.now) c.args.place.now
    ∙ none_left (shown c.args.named.now) c.args.members.now c.args.place.now (codes "spec") c.loop-number.number _ (search rules) c.loop-number.invariant)
    (c.boxed-2.ensures _ (c.view_with.ensures _ c.unit_of.ensures))

pub views_at-returns-then-eq : goal.views_at-returns-then-eq
views_at-returns-then-eq t c =
    subst (λ (y : List View). IfOk c.views_in.result (λ vs. vs ≡ y))
    (ap (views_in (map (as_view (shown c.args.named.now)) c.items_of.result.now)) (c.as_slice.ensures ∙ c.in_ok-here.ensures)
    ∙ views_are (shown c.args.named.now) c.index-members-number.result.value _ (child c.args.place.now c.loop-number.number) c.items_of.ensures
    ∙ here_first views_given (shown c.args.named.now) c.args.members.now c.args.place.now c.args.name.now c.loop-number.number
    c.index-members-number.result _ c.loop-number-test.true c.index-members-number.is (search rules) c.loop-number.invariant)
    c.views_in.ensures

pub views_in-loop-number-preserved : goal.views_in-loop-number-preserved
views_in-loop-number-preserved t c =
    let here = child c.args.place.now c.loop-number.number in
    one_view (shown c.args.named.now) c.args.place.now c.args.items.now c.loop-number.number c.index-items-number.result
    (view_in (shown c.args.named.now) c.members_of.result.now c.as_slice.result.now) c.loop-number.views _ _ c.loop-number-test.true c.index-items-number.is
    (ap (view_in (shown c.args.named.now) c.members_of.result.now) (c.as_slice.ensures ∙ c.in_ok-here.ensures)
    ∙ view_is (shown c.args.named.now) c.index-items-number.result _ here c.members_of.ensures)
    (c.in_ok-push_made.ensures _ c.view_of-view.ensures) c.loop-number.invariant
