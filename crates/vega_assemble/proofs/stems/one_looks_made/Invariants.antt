use Rattle.std.proofs.Common.{◌≡◌, drop, map}
use Rattle.std.specs.List.{list_any}
use Rattle.vega_assemble.specs.Names.{looks_made}
use Rattle.vega_assemble.proofs.stems.one_looks_made.Given as goal

abbrev pub invariant-loop-name : goal.invariant-loop-name
invariant-loop-name l =
    list_any looks_made (map (λ n. n.now) (drop l.name-index l.names)) ≡ list_any looks_made (map (λ n. n.now) l.names)
