use Rattle.std.proofs.Common.{◌≡◌, drop, map}
use Rattle.vl_building.specs.inner.Words.{is_among, among_or}
use Rattle.vl_building.proofs.words.is_among.Given as goal

abbrev pub invariant-loop-other : goal.invariant-loop-other
invariant-loop-other l = among_or l.found (map (λ n. n.now) (drop l.other-index l.names)) l.name ≡ is_among (map (λ n. n.now) l.names) l.name
