use Rattle.std.proofs.Common.{◌≡◌, drop}
use Rattle.std.specs.List.{list_all}
use Rattle.vega_assemble.specs.Names.{is_tail}
use Rattle.vega_assemble.proofs.stems.are_tails.Given as goal

abbrev pub invariant-loop-byte : goal.invariant-loop-byte
invariant-loop-byte l =
    list_all is_tail (drop l.byte-index l.bytes) ≡ list_all is_tail l.bytes
