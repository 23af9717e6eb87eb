use Rattle.std.proofs.Common.{◌≡◌, drop}
use Rattle.plan_kit.specs.Among.{is_among}
use Rattle.plan_kit.proofs.among.is_among.Given as goal

abbrev pub invariant-loop-one : goal.invariant-loop-one
invariant-loop-one l =
    is_among (drop l.one-index l.numbers) l.number ≡ is_among l.numbers l.number
