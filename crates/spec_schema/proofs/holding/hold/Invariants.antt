use Rattle.std.proofs.Common.{◌≡◌, drop}
use Rattle.std.specs.List.{list_all}
use Rattle.spec_schema.specs.Layouts.{holds}
use Rattle.spec_schema.proofs.holding.hold.Given as goal

abbrev pub invariant-loop-test : goal.invariant-loop-test
invariant-loop-test l = list_all (holds l.schema l.members) (drop l.test-index l.tests) ≡ list_all (holds l.schema l.members) l.tests
