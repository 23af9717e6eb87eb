use Rattle.std.proofs.Common.{◌≡◌, ◌++◌, drop, map, flat_map}
use Rattle.std.specs.List.{enumerate_from}
use Rattle.spec_walk.specs.Walk.{seen_in, member_parts, seen_members}
use Rattle.spec_walk.proofs.visits.+walk.Given as goal

abbrev pub invariant-walk_items-loop-number : goal.invariant-walk_items-loop-number
invariant-walk_items-loop-number g l = (g.V.Visitor.trail l.visitor ≡ g.V.Visitor.trail l.initial.visitor)
    × (g.V.Visitor.gathered l.visitor ++ flat_map (λ item. item.1 item.0 l.shape (g.V.Visitor.trail l.initial.visitor))
    (enumerate_from l.number (map (seen_in l.schema g.V.Visitor.noted g.V.Visitor.visit) (drop l.number l.items)))
    ≡ g.V.Visitor.gathered l.initial.visitor ++ flat_map (λ item. item.1 item.0 l.shape (g.V.Visitor.trail l.initial.visitor))
    (enumerate_from 0 (map (seen_in l.schema g.V.Visitor.noted g.V.Visitor.visit) l.items)))

abbrev pub invariant-walk_members-loop-number : goal.invariant-walk_members-loop-number
invariant-walk_members-loop-number g l = (g.V.Visitor.trail l.visitor ≡ g.V.Visitor.trail l.initial.visitor)
    × (g.V.Visitor.gathered l.visitor ++ flat_map (member_parts l.layout (g.V.Visitor.trail l.initial.visitor))
    (enumerate_from l.number (seen_members l.schema g.V.Visitor.noted g.V.Visitor.visit (drop l.number l.members)))
    ≡ g.V.Visitor.gathered l.initial.visitor ++ flat_map (member_parts l.layout (g.V.Visitor.trail l.initial.visitor))
    (enumerate_from 0 (seen_members l.schema g.V.Visitor.noted g.V.Visitor.visit l.members)))
