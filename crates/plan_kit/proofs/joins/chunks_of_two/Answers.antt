use Rattle.std.proofs.Common.{rules, ◌≡◌, ◌++◌, Some, None, ap, ◌∙◌}
use Rattle.std.specs.Vec.Iter.{into_iter_items, into_iter_len}
use Rattle.plan_kit.specs.Joins.{chunks}
use Rattle.plan_kit.proofs.JoinLemmas.{both_taken, none_taken}
use Rattle.plan_kit.proofs.joins.chunks_of_two.Goals as goal

pub loop-first-preserved : goal.loop-first-preserved
loop-first-preserved g c =
    let is : c.next.result ≡ Some c.in-Some.first = search rules in
    let both = both_taken c.loop-first.out _ (into_iter_items c.loop-first.left) (into_iter_items c.next.new.self) (into_iter_items c.next-second.new.self)
    c.next.result c.next-second.result c.in-Some.first _ _ _ is c.next.ensures.items c.next-second.ensures.items c.loop-first.invariant.0
    c.next.ensures.len c.next-second.ensures.variant c.next-second.ensures.len c.loop-first.invariant.1 in
    (both.0, ap (λ out. out ++ chunks (into_iter_items c.next-second.new.self)) c.in_ok-push.ensures.ok ∙ both.1)

pub returns : goal.returns
returns g c =
    let none : c.next.result ≡ None = search rules in
    none_taken c.loop-first.out _ (into_iter_items c.loop-first.left) c.next.result (into_iter_len c.loop-first.left) none c.next.ensures.variant
    c.loop-first.invariant.0 c.loop-first.invariant.1
