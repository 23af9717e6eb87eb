use Rattle.std.proofs.Common.{◌≡◌, take}
use Rattle.vl_names.proofs.index.name_numbers.Given as goal

abbrev pub invariant-loop-byte : goal.invariant-loop-byte
invariant-loop-byte l = l.key ≡ take l.byte-index l.fn.name
