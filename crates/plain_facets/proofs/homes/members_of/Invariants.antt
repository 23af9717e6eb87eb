use Rattle.std.proofs.Common.{◌≡◌, ◌<◌, ℕ, [], take, length, get_or}
use Rattle.plain_facets.specs.Facets.{members_from}
use Rattle.plain_facets.proofs.homes.members_of.Given as goal

abbrev pub invariant-loop-at : goal.invariant-loop-at
invariant-loop-at l = record {
  len : length l.lists.items ≡ l.copies;
  value : (k : ℕ) → k < l.copies → get_or l.lists.items k [] ≡ members_from k 0 (take l.at l.homes);
}
