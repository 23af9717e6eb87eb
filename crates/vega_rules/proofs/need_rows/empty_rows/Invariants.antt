use Rattle.std.proofs.Common.{◌≡◌, [], replicate}
use Rattle.vega_rules.proofs.need_rows.empty_rows.Given as goal

-- as many rows as were counted
abbrev pub invariant-loop : goal.invariant-loop
invariant-loop l = l.rows.items ≡ replicate l.counter []
