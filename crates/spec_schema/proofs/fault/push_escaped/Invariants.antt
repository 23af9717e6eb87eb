use Rattle.std.proofs.Common.{◌≡◌, ◌++◌}
use Rattle.std.specs.Prelude.{flat_map, encode_utf8_all}
use Rattle.spec_schema.specs.Faults.{path_byte}
use Rattle.spec_schema.proofs.fault.push_escaped.Given as goal

abbrev pub invariant-loop-c : goal.invariant-loop-c
invariant-loop-c l = l.out ≡ l.initial.out ++ flat_map path_byte (encode_utf8_all l.yielded)
