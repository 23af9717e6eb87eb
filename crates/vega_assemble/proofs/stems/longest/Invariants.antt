use Rattle.std.proofs.Common.{◌≡◌, drop, map}
use Rattle.std.specs.List.{fold}
use Rattle.vega_assemble.specs.Names.{longer, longest}
use Rattle.vega_assemble.proofs.stems.longest.Given as goal

abbrev pub invariant-loop-name : goal.invariant-loop-name
invariant-loop-name l =
    fold longer l.length (map (λ n. n.now) (drop l.name-index l.names)) ≡ longest (map (λ n. n.now) l.names)
