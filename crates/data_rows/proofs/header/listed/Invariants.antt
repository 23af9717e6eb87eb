use Rattle.std.proofs.Common.{◌≡◌, ◌++◌, map}
use Rattle.data_rows.specs.inner.Header.{named}
use Rattle.data_rows.proofs.header.listed.Given as goal

abbrev pub invariant-loop-name : goal.invariant-loop-name
invariant-loop-name l = l.list ++ map named l.name-iterator ≡ map named l.fn.kept.entries
