use Rattle.std.proofs.Common.{◌≡◌, ◌<◌, ℕ, [], length, get_or, Some}
use Rattle.plain_groups.specs.inner.GroupPlaces.{head_cells}
use Rattle.plain_groups.proofs.joins.given.Given as goal

abbrev pub invariant-loop-at : goal.invariant-loop-at
invariant-loop-at l = record {
  len : length l.given ≡ l.at;
  cells : (p : ℕ) → p < l.at → get_or l.leaders p 0 ≡ p → head_cells l.ops l.rows l.members p ≡ Some (get_or l.given p []);
}
