use Rattle.std.proofs.Common.{◌≡◌, drop, map}
use Rattle.fixed_num.specs.Ranges.{all_found}
use Rattle.fixed_num.proofs.FoundLemmas.{after}
use Rattle.selection_events.specs.Drags.{extent_of, extents_of}
use Rattle.selection_events.proofs.drags.extents_of.Given as goal

abbrev pub invariant-loop-c : goal.invariant-loop-c
invariant-loop-c l = after l.out (all_found (map (extent_of l.panel l.d) (drop l.c-index l.channels))) ≡ extents_of l.panel l.d l.channels
