use Rattle.std.proofs.Common.{◌≡◌, ◌≤◌, length, take}
use Rattle.vega_rules.specs.Places.{fronts}
use Rattle.vega_rules.specs.Resolved.{given_in, first_found}
use Rattle.vega_rules.proofs.resolve.nearest.Given as goal

-- in the objects that are left is found what is found
abbrev pub invariant-loop-left : goal.invariant-loop-left
invariant-loop-left l = record {
  within : l.left ≤ length l.scope;
  same : first_found (given_in l.parts l.how l.name) (fronts (take l.left l.scope))
      ≡ first_found (given_in l.parts l.how l.name) (fronts (take l.room l.scope));
}

abbrev pub decreases-loop-left : goal.decreases-loop-left
decreases-loop-left l = l.left
