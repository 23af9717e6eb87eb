use Rattle.std.proofs.Common.{◌≡◌, drop}
use Rattle.spec_schema.specs.Order.{earlier}
use Rattle.vl_trails.specs.Faults.{earliest_placed}
use Rattle.vl_names.specs.Twice.{behind_firsts}
use Rattle.vl_names.specs.inner.First.{place_under}
use Rattle.vl_names.proofs.twice.sooner_among.Given as goal

abbrev pub invariant-loop-given : goal.invariant-loop-given
invariant-loop-given l =
    earlier l.so_far (earliest_placed l.tree (behind_firsts l.tree (place_under l.firsts) (drop l.given-index l.all)))
    ≡ earlier l.fn.so_far (earliest_placed l.tree (behind_firsts l.tree (place_under l.firsts) l.all))
