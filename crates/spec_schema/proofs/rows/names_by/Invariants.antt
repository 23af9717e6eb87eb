use Rattle.std.proofs.Common.{◌≡◌, take, map}
use Rattle.spec_schema.proofs.rows.names_by.Given as goal

abbrev pub invariant-loop-name : goal.invariant-loop-name
invariant-loop-name l = l.out ≡ map (λ name. name.now) (take l.name-index l.names)
