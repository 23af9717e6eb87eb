use Rattle.std.proofs.Common.{◌≡◌, drop}
use Rattle.std.specs.Prelude.{find}
use Rattle.std.specs.Option.{option_map}
use Rattle.std.specs.List.{enumerate_from}
use Rattle.spec_walk.specs.Places.{is_called, member_called}
use Rattle.spec_walk.proofs.places.member_called.Given as goal

abbrev pub invariant-loop-number : goal.invariant-loop-number
invariant-loop-number l = option_map (λ m. (m.0, m.1.value)) (find (is_called l.name) (enumerate_from l.number (drop l.number l.members)))
    ≡ member_called l.members l.name
