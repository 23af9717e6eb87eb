use Rattle.std.proofs.Common.{◌≡◌, ◌++◌, take}
use Rattle.vega_rules.proofs.keys.push_name.Given as goal

-- the bytes so far are added
abbrev pub invariant-loop-byte : goal.invariant-loop-byte
invariant-loop-byte l = l.key ≡ l.fn.key ++ take l.byte-index l.fn.name
