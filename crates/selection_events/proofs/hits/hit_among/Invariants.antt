use Rattle.std.proofs.Common.{◌≡◌, drop}
use Rattle.selection_events.specs.Hits.{hit_of}
use Rattle.selection_events.specs.inner.Last.{last_found}
use Rattle.selection_events.proofs.hits.hit_among.Given as goal

abbrev pub invariant-loop-item : goal.invariant-loop-item
invariant-loop-item l =
    last_found (hit_of l.units l.panel l.x l.y) (drop l.item-index l.items) l.found ≡ last_found (hit_of l.units l.panel l.x l.y) l.items l.fn.before
