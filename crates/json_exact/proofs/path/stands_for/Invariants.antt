use Rattle.std.proofs.Common.{◌≡◌, drop}
use Rattle.json_exact.specs.Path.{name_of}
use Rattle.json_exact.specs.inner.Along.{is_name}
use Rattle.json_exact.proofs.path.stands_for.Given as goal

abbrev pub invariant-loop-byte : goal.invariant-loop-byte
invariant-loop-byte l = is_name (name_of l.rest) (drop l.byte-index l.name) ≡ is_name (name_of l.word) l.name
