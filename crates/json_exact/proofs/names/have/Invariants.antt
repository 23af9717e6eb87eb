use Rattle.std.proofs.Common.{◌≡◌, drop}
use Rattle.std.specs.List.{list_any}
use Rattle.std.specs.Str.{bytes_eq}
use Rattle.json_exact.specs.inner.Reader.{names_of}
use Rattle.json_exact.proofs.names.have.Given as goal

abbrev pub invariant-loop-member : goal.invariant-loop-member
invariant-loop-member l = list_any (bytes_eq l.name) (names_of (drop l.member-index l.members))
    ≡ list_any (bytes_eq l.name) (names_of l.members)
