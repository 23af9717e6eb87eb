use Rattle.std.proofs.Common.{◌≡◌, drop, map}
use Rattle.std.specs.List.{list_any}
use Rattle.vega_assemble.specs.Names.{looks_like}
use Rattle.vega_assemble.proofs.stems.looks_like_one.Given as goal

abbrev pub invariant-loop-word : goal.invariant-loop-word
invariant-loop-word l =
    list_any (looks_like l.name) (map (λ w. w.now) (drop l.word-index l.words)) ≡ list_any (looks_like l.name) (map (λ w. w.now) l.words)
