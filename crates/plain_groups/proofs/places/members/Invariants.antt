use Rattle.std.proofs.Common.{◌≡◌, ◌<◌, ℕ, [], take, length, get_or}
use Rattle.plain_groups.specs.inner.Places.{members_from}
use Rattle.plain_groups.proofs.places.members.Given as goal

abbrev pub invariant-loop-at : goal.invariant-loop-at
invariant-loop-at l = record {
  len : length l.lists.items ≡ length l.leaders;
  value : (p : ℕ) → p < length l.leaders → get_or l.lists.items p [] ≡ members_from p 0 (take l.at l.leaders);
}
