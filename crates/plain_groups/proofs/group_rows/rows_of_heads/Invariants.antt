use Rattle.std.proofs.Common.{◌≡◌, map, take, Some}
use Rattle.fixed_num.specs.Ranges.{all_found}
use Rattle.plain_groups.specs.inner.GroupPlaces.{group_at}
use Rattle.plain_groups.proofs.group_rows.rows_of_heads.Given as goal

abbrev pub invariant-loop-head : goal.invariant-loop-head
invariant-loop-head l = all_found (map (group_at l.g l.rows l.members) (take l.head-index l.heads)) ≡ Some l.out
