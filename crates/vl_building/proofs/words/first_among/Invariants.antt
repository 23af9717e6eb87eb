use Rattle.std.proofs.Common.{◌≡◌, drop, map, find}
use Rattle.json_exact.specs.declared.json.Member.{Member}
use Rattle.vl_building.specs.inner.Words.{is_among}
use Rattle.vl_building.proofs.words.first_among.Given as goal

abbrev pub invariant-loop-member : goal.invariant-loop-member
invariant-loop-member l =
    find (λ (m : Member). is_among (map (λ n. n.now) l.names) m.name) (drop l.member-index l.members)
    ≡ find (λ (m : Member). is_among (map (λ n. n.now) l.names) m.name) l.members
