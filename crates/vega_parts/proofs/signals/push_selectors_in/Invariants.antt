use Rattle.std.proofs.Common.{◌≡◌, ◌++◌, drop, flat_map}
use Rattle.std.specs.Prelude.{reverse}
use Rattle.std.specs.List.{enumerate_from}
use Rattle.vega_parts.specs.Signals.{selector, selectors_in}
use Rattle.vega_parts.proofs.signals.push_selectors_in.Given as goal

abbrev pub invariant-loop-inner : goal.invariant-loop-inner
invariant-loop-inner l =
    l.out ++ flat_map (selector (reverse l.trail) l.number) (enumerate_from l.inner (drop l.inner l.entries))
    ≡ l.initial.out ++ selectors_in (reverse l.trail) l.number l.entries
