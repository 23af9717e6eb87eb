use Rattle.std.proofs.Common.{◌≡◌, drop, map}
use Rattle.plain_engine.specs.inner.Mentions.{are_params}
use Rattle.plain_engine.proofs.mentions.are_params.Given as goal

abbrev pub invariant-loop-name : goal.invariant-loop-name
invariant-loop-name l =
    are_params l.params (map (λ name. name.now) (drop l.name-index l.names)) ≡ are_params l.params (map (λ name. name.now) l.names)
