use Rattle.std.proofs.Common.{◌≡◌, drop}
use Rattle.std.specs.Prelude.{not}
use Rattle.std.specs.List.{list_any}
use Rattle.spec_schema.specs.Layouts.{is_one_of}
use Rattle.spec_schema.proofs.holding.goes_beyond.Given as goal

abbrev pub invariant-loop-member : goal.invariant-loop-member
invariant-loop-member l = list_any (λ m. not (is_one_of l.names m)) (drop l.member-index l.members)
    ≡ list_any (λ m. not (is_one_of l.names m)) l.members
