use Rattle.std.proofs.Common.{◌≡◌, drop, map}
use Rattle.std.specs.List.{list_all}
use Rattle.vl_names.specs.inner.Looked.{known_shown}
use Rattle.vl_names.proofs.known.knows_params.Given as goal

abbrev pub invariant-loop-name : goal.invariant-loop-name
invariant-loop-name l = list_all (known_shown l.known).param (map (λ n. n.now) (drop l.name-index l.names))
    ≡ list_all (known_shown l.known).param (map (λ n. n.now) l.names)
