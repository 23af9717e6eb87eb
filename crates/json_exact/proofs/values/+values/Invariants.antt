use Rattle.std.proofs.Common.{◌≡◌, ◌+◌, ◌-◌, ◌*◌, length}
use Rattle.json_exact.specs.inner.Reader.{member_at, value_at, run_at, sequence_at}
use Rattle.json_exact.proofs.Complete.{item_at}
use Rattle.json_exact.proofs.values.+values.Given as goal

abbrev pub decreases-value_of : goal.decreases-value_of
decreases-value_of l = 8 * l.level

abbrev pub decreases-padded_of : goal.decreases-padded_of
decreases-padded_of l = 8 * l.level + 1

abbrev pub decreases-items_of : goal.decreases-items_of
decreases-items_of l = 8 * l.level + 2

abbrev pub decreases-list_of : goal.decreases-list_of
decreases-list_of l = 8 * l.level + 3

abbrev pub decreases-member_of : goal.decreases-member_of
decreases-member_of l = 8 * l.level + 2

abbrev pub decreases-members_of : goal.decreases-members_of
decreases-members_of l = 8 * l.level + 3

abbrev pub decreases-object_of : goal.decreases-object_of
decreases-object_of l = 8 * l.level + 4

abbrev pub invariant-items_of-loop : goal.invariant-items_of-loop
invariant-items_of-loop l = run_at 93 (item_at l.level) (length l.bytes - l.counter) l.items l.rest
    ≡ sequence_at 93 (item_at l.level) l.bytes

abbrev pub invariant-members_of-loop : goal.invariant-members_of-loop
invariant-members_of-loop l = run_at 125 (member_at (value_at l.level)) (length l.bytes - l.counter) l.members.members l.rest
    ≡ sequence_at 125 (member_at (value_at l.level)) l.bytes
