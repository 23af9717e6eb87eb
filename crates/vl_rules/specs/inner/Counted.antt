-- The unit that is counted behind some.
use Rattle.std.specs.Prelude.{ℕ, ◌-◌, nat_lt, Option, Some, None, List, [], ◌∷◌, is_some, if◌then◌else◌}
use Rattle.std.specs.Option.{option_map_or}
use Rattle.vl_spec.specs.declared.marks.Mark.{Mark}
use Rattle.vl_normalize.specs.Marks.{pointed}
use Rattle.vl_trails.specs.declared.fault.RuleFault.{RuleFault}
use Rattle.vl_trails.specs.Faults.{wrong_at}
use Rattle.vl_trails.specs.Trails.{Trail}
use Rattle.vl_rules.specs.Marked.{MarkedAt}

-- as how many units a view of this mark counts
abbrev pub times_counted : Option Mark → ℕ
times_counted m = if is_some (pointed m) then 2 else 1

-- the steps to the unit that is counted behind as many
abbrev pub trail_behind : List MarkedAt → ℕ → Option Trail
trail_behind [] left = None
trail_behind (u ∷ others) left = if nat_lt left (times_counted u.mark) then Some u.trail else trail_behind others (left - times_counted u.mark)

-- what is wrong at a trail, if there is one
abbrev pub wrong_there : Option Trail → List RuleFault
wrong_there trail = option_map_or (λ (t : Trail). wrong_at t ∷ []) trail []
