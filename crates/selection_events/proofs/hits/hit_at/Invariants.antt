use Rattle.std.proofs.Common.{◌≡◌, drop}
use Rattle.selection_events.specs.Hits.{hit_of, hit_at}
use Rattle.selection_events.specs.inner.Last.{last_in_runs}
use Rattle.selection_events.proofs.hits.hit_at.Given as goal

abbrev pub invariant-loop-run : goal.invariant-loop-run
invariant-loop-run l = last_in_runs (hit_of l.units l.panel l.x l.y) (drop l.run-index l.runs) l.found ≡ hit_at l.units l.panel l.x l.y
