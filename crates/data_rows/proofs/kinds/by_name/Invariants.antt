use Rattle.std.proofs.Common.{◌≡◌, drop}
use Rattle.std.specs.Str.{bytes_eq}
use Rattle.std.specs.Map.{update_all}
use Rattle.data_rows.specs.Parse.{kind_of}
use Rattle.data_rows.specs.inner.Kinds.{kind_in}
use Rattle.data_rows.proofs.kinds.by_name.Given as goal

abbrev pub invariant-loop-entry : goal.invariant-loop-entry
invariant-loop-entry l = update_all bytes_eq (kind_in l.kinds) (drop l.entry-index l.parse) ≡ kind_of l.parse
