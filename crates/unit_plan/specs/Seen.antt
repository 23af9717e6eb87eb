-- The scales of a plan as a unit sees them, at most one for each channel.
use Rattle.std.specs.Prelude.{ℕ, ◌==◌, Option, List, find}
use Rattle.unit_plan.specs.declared.seen.ScaleSeen.{ScaleSeen}

-- the scale of a channel
abbrev pub seen_at : List ScaleSeen → ℕ → Option ScaleSeen
seen_at scales channel = find (λ (s : ScaleSeen). s.channel == channel) scales
