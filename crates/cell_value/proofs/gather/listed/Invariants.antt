use Rattle.std.proofs.Common.{◌≡◌, ◌++◌, map}
use Rattle.cell_value.specs.inner.Gather.{named}
use Rattle.cell_value.proofs.gather.listed.Given as goal

abbrev pub invariant-loop-name : goal.invariant-loop-name
invariant-loop-name l = l.list.items ++ map named l.name-iterator ≡ map named l.fn.cells.entries
