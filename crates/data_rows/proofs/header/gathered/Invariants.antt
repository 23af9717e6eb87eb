use Rattle.std.proofs.Common.{◌≡◌, drop, map}
use Rattle.data_rows.specs.inner.Header.{named, put_all, kept_from, kept_columns}
use Rattle.data_rows.proofs.header.gathered.Given as goal

abbrev pub invariant-loop-at : goal.invariant-loop-at
invariant-loop-at l = put_all (map named l.kept.entries) (kept_from l.at (drop l.at l.columns)) ≡ kept_columns l.columns
