use Rattle.std.proofs.Common.{◌≡◌, ◌≤◌, drop, map}
use Rattle.vl_rules.specs.Folds.{passing, passing_from}
use Rattle.vl_rules.proofs.folds.passing.Given as goal

abbrev pub invariant-loop-number : goal.invariant-loop-number
invariant-loop-number l =
    (passing_from l.number l.rows (map (λ t. t.now) (drop l.number l.transforms)) ≡ passing (map (λ t. t.now) l.transforms)) × (l.rows ≤ 8)
