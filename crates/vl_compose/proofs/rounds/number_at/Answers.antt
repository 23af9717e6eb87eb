use Rattle.std.proofs.Common.{◌≡◌, ◌<◌, ◌≤◌, Option, length, subst, Bor}
use Rattle.std.specs.Prelude.{MatchOption}
use Rattle.std.specs.List.{HoldsAt}
use Rattle.vl_compose.specs.declared.here.ViewHere.{ViewHere}
use Rattle.vl_compose.proofs.BehindLemmas.{first_at}
use Rattle.vl_compose.proofs.rounds.number_at.Goals as goal

pub returns-in-Some : goal.returns-in-Some
returns-in-Some c =
    let fact : Option (Bor ViewHere) → Type 0 =
    λ r. MatchOption r (length c.args.round.now ≤ c.args.place)
    (λ x. (c.args.place < length c.args.round.now) × HoldsAt (λ y. x.now ≡ y) c.args.round.now c.args.place) in
    let here = subst fact c.in-Some.is c.get.ensures.lookup.3 in
    first_at c.args.round.now c.args.place c.in-Some.here.now here.0 (here.1 c.in-Some.here.now)
