use Rattle.std.proofs.Common.{◌≡◌, drop}
use Rattle.plan_kit.specs.Among.{is_among}
use Rattle.vega_assemble.proofs.lists.is_among.Given as goal

abbrev pub invariant-loop-number : goal.invariant-loop-number
invariant-loop-number l =
    is_among (drop l.number-index l.numbers) l.n ≡ is_among l.numbers l.n
