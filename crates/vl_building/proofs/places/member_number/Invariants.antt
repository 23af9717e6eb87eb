use Rattle.std.proofs.Common.{◌≡◌, drop}
use Rattle.std.specs.List.{position_from}
use Rattle.std.specs.Str.{bytes_eq}
use Rattle.vl_building.specs.Views.{member_number}
use Rattle.vl_building.proofs.places.member_number.Given as goal

abbrev pub invariant-loop-number : goal.invariant-loop-number
invariant-loop-number l = position_from (λ m. bytes_eq m.name l.name) l.number (drop l.number l.members) ≡ member_number l.members l.name
