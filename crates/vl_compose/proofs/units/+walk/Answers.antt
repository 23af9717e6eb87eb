use Rattle.std.proofs.Common.{◌≡◌, ◌≤◌, [], ◌∷◌, ◌++◌, ap, length, map, subst, ◌∙◌, arith}
use Rattle.std.specs.Prelude.{OnOk}
use Rattle.vl_compose.specs.Rounds.{in_order, rounds_in}
use Rattle.vl_compose.specs.Shown.{round_shown, view_shown}
use Rattle.vl_compose.specs.inner.Found.{FoundAt, found_shown, counted, after}
use Rattle.vl_compose.proofs.WalkLemmas.{one_more, all_done}
use Rattle.vl_compose.proofs.WalkedLemmas.{unit_walked, layer_walked, facet_walked, joined_walked}
use Rattle.vl_compose.proofs.units.+walk.Goals as goal

pub walk_view-returns-in-Unit : goal.walk_view-returns-in-Unit
walk_view-returns-in-Unit t c =
    let all : FoundAt → Type 0 = λ f. OnOk c.push_unit.result (found_shown c.push_unit.new.found ≡ f) in
    subst all (unit_walked c.args.view.now c.in-Unit.unit (round_shown c.args.outer.now) c.args.child (found_shown c.args.found.now) c.in-Unit.is)
    c.push_unit.ensures

pub walk_view-returns-in-Layer : goal.walk_view-returns-in-Layer
walk_view-returns-in-Layer t c =
    let all : FoundAt → Type 0 = λ f. OnOk c.walk_row.result (found_shown c.walk_row.new.found ≡ f) in
    subst all (layer_walked c.args.view.now c.in-Layer.layer (round_shown c.args.outer.now) c.args.child (found_shown c.args.found.now) c.as_slice.result.now
    c.in-Layer.is c.as_slice.ensures) c.walk_row.ensures

pub walk_view-returns-in-Facet : goal.walk_view-returns-in-Facet
walk_view-returns-in-Facet t c =
    let all : FoundAt → Type 0 = λ f. OnOk c.walk_alone.result (found_shown c.walk_alone.new.found ≡ f) in
    subst all (facet_walked c.args.view.now c.in-Facet.faceted (round_shown c.args.outer.now) c.args.child (found_shown c.args.found.now) c.get.result.now
    c.in-Facet.is c.get.ensures) c.walk_alone.ensures

pub walk_view-returns-in-Joined : goal.walk_view-returns-in-Joined
walk_view-returns-in-Joined t c =
    let all : FoundAt → Type 0 = λ f. OnOk c.walk_row-in-Joined.result (found_shown c.walk_row-in-Joined.new.found ≡ f) in
    subst all (joined_walked c.args.view.now c.in-Joined.joined (round_shown c.args.outer.now)
    c.args.child (found_shown c.args.found.now) c.as_slice-in-Joined.result.now
    c.in-Joined.is c.as_slice-in-Joined.ensures) c.walk_row-in-Joined.ensures

pub walk_alone-returns : goal.walk_alone-returns
walk_alone-returns t c =
    let all : FoundAt → Type 0 = λ f. OnOk c.walk_view.result (found_shown c.walk_view.new.found ≡ f) in
    let more : found_shown c.count_view.new.found ≡ counted (found_shown c.args.found.now) = c.in_ok-count_view.ensures in
    let stands : round_shown c.as_slice.result.now ≡ round_shown c.args.outer.now ++ view_shown c.args.here ∷ [] =
    ap round_shown c.as_slice.ensures ∙ c.in_ok-round.ensures in
    subst all (λ i. after (more i) (rounds_in c.args.view.now (stands i) 0 (more i).count)) c.walk_view.ensures

pub walk_row-returns : goal.walk_row-returns
walk_row-returns t c =
    let all : FoundAt → Type 0 = λ f. OnOk c.walk_views.result (found_shown c.walk_views.new.found ≡ f) in
    let more : found_shown c.count_view.new.found ≡ counted (found_shown c.args.found.now) = c.in_ok-count_view.ensures in
    let stands : round_shown c.as_slice.result.now ≡ round_shown c.args.outer.now ++ view_shown c.args.here ∷ [] =
    ap round_shown c.as_slice.ensures ∙ c.in_ok-round.ensures in
    subst all (λ i. after (more i) (in_order (map rounds_in c.args.views.now) (stands i) 0 (more i).count)) c.walk_views.ensures

pub walk_views-loop-child-preserved : goal.walk_views-loop-child-preserved
walk_views-loop-child-preserved t c =
    one_more c.args.views.now (round_shown c.args.outer.now) c.loop-child.child c.index-views-child.result (found_shown c.loop-child.found) _ _
    c.loop-child-test.true c.index-views-child.is c.in_ok-walk_view.ensures c.loop-child.invariant

pub walk_views-returns : goal.walk_views-returns
walk_views-returns t c =
    let past = c.loop-child-test.false in
    let over : length c.args.views.now ≤ c.loop-child.child = omega arith in
    all_done c.args.views.now (round_shown c.args.outer.now) c.loop-child.child (found_shown c.loop-child.found) _ over c.loop-child.invariant
