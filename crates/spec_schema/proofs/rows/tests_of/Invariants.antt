use Rattle.std.proofs.Common.{◌≡◌, take, map}
use Rattle.spec_schema.specs.Rows.{test_of}
use Rattle.spec_schema.proofs.rows.tests_of.Given as goal

abbrev pub invariant-loop-when : goal.invariant-loop-when
invariant-loop-when l = l.out ≡ map test_of (take l.when-index l.whens)
