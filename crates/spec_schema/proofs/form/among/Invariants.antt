use Rattle.std.proofs.Common.{◌≡◌, drop}
use Rattle.spec_schema.specs.Values.{among}
use Rattle.spec_schema.proofs.form.among.Given as goal

abbrev pub invariant-loop-other : goal.invariant-loop-other
invariant-loop-other l = among (drop l.other-index l.names) l.name ≡ among l.names l.name
