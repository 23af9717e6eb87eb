use Rattle.std.proofs.Common.{◌≡◌, ◌≤◌, false, drop, length}
use Rattle.std.specs.List.{list_any}
use Rattle.vl_compose.specs.Shown.{round_shown}
use Rattle.vl_compose.specs.Sharing.{separates}
use Rattle.vl_compose.proofs.sharing.home_of.Given as goal

abbrev pub invariant-loop-place : goal.invariant-loop-place
invariant-loop-place l = (l.place ≤ length l.round) × (list_any (separates l.code) (drop l.place (round_shown l.round)) ≡ false)

abbrev pub decreases-loop-place : goal.decreases-loop-place
decreases-loop-place l = l.place
