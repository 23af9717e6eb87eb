use Rattle.std.proofs.Common.{◌≡◌, ℕ, ◌≤◌, ◌&&◌, ◌||◌, List, length, take}
use Rattle.std.specs.Prelude.{is_some}
use Rattle.vega_rules.specs.inner.Keyed.{number_at}
use Rattle.vega_rules.specs.inner.Met.{reaches_at}
use Rattle.vega_rules.proofs.below.meet_fronts.Given as goal

-- what is met so far, and at the fronts that are left
abbrev pub invariant-loop-left : goal.invariant-loop-left
invariant-loop-left l = record {
  within : l.left ≤ length l.at;
  same : (q : List ℕ) → (is_some (number_at l.met q) || (reaches_at q l.name (take l.left l.at) && is_some (number_at l.asked q)))
      ≡ (is_some (number_at l.fn.met q) || (reaches_at q l.name l.at && is_some (number_at l.asked q)));
}

abbrev pub decreases-loop-left : goal.decreases-loop-left
decreases-loop-left l = l.left
