use Rattle.std.proofs.Common.{◌≡◌, ◌++◌, map, take}
use Rattle.std.specs.List.{All, AllZip}
use Rattle.std.specs.Vec.Iter.{into_iter_items}
use Rattle.vega_lists.specs.Held.{scope_read}
use Rattle.vega_spec.specs.declared.spec.VgMark.{out-VgMark}
use Rattle.vega_copies.specs.Facets.{copies_of}
use Rattle.vega_copies.specs.inner.Levels.{rows_at}
use Rattle.vega_copies.specs.inner.Outlined.{group_object}
use Rattle.vega_copies.specs.inner.Copied.{copy_seen, IsCopy}
use Rattle.vega_copies.specs.inner.Made.{levels_behind, made_seen, IsCopyMade, OneMade}
use Rattle.vega_copies.proofs.made.+making.Given as goal

abbrev pub invariant-made_in-loop-mark : goal.invariant-made_in-loop-mark
invariant-made_in-loop-mark l = AllZip (OneMade l.names.stores.now l.names.sources.now (levels_behind l.names.levels.now)) (take l.mark-index l.marks) l.made

abbrev pub invariant-made_of_group-loop-copy : goal.invariant-made_of_group-loop-copy
invariant-made_of_group-loop-copy l = record {
  copies : All (IsCopy l.names (out-VgMark l.mark)) (into_iter_items l.copy-iterator);
  seen : map made_seen l.made ++ map copy_seen (into_iter_items l.copy-iterator)
      ≡ copies_of (scope_read (rows_at l.names.sources.now l.names.levels.now)) (group_object 0 (out-VgMark l.mark));
  made : All (IsCopyMade l.names.stores.now l.names.sources.now (levels_behind l.names.levels.now) (out-VgMark l.mark)) l.made;
}
