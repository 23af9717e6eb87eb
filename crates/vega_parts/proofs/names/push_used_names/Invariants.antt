use Rattle.std.proofs.Common.{◌≡◌, ◌++◌, take, map}
use Rattle.std.specs.Prelude.{reverse}
use Rattle.vega_parts.specs.Names.{used_names}
use Rattle.vega_parts.proofs.names.push_used_names.Given as goal

abbrev pub invariant-loop-name : goal.invariant-loop-name
invariant-loop-name l = l.out ≡ l.initial.out ++ used_names l.kind (reverse l.trail) (map (λ n. n.now) (take l.name-index l.names))
