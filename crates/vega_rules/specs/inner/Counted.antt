-- What is counted.
use Rattle.std.specs.Prelude.{ℕ, ◌-◌, Option, Some, None, List}
use Rattle.vega_parts.specs.declared.part.Part.{Part}
use Rattle.vega_rules.specs.declared.limits.Counted.{Counted}
use Rattle.vega_rules.specs.declared.limits.Counted.TheVariants as counted
use Rattle.vega_rules.specs.Limits.{plain_mark, plot}

-- the place of what is counted
abbrev pub counted_by : Counted → Part → Option (List ℕ)
counted_by counted.Marks = plain_mark
counted_by counted.Plots = plot

-- how many more there may be behind it
abbrev pub left_behind : Option (List ℕ) → ℕ → ℕ
left_behind None left = left
left_behind (Some at) left = left - 1
