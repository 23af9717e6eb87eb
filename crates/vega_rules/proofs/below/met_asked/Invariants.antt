use Rattle.std.proofs.Common.{◌≡◌, ℕ, ◌&&◌, ◌||◌, List, drop}
use Rattle.std.specs.Prelude.{is_some}
use Rattle.std.specs.List.{list_any}
use Rattle.vega_rules.specs.inner.Keyed.{number_at}
use Rattle.vega_rules.specs.inner.Met.{reaches}
use Rattle.vega_rules.proofs.below.met_asked.Given as goal

-- what is met so far, and of the rest
abbrev pub invariant-loop-part : goal.invariant-loop-part
invariant-loop-part l = (q : List ℕ)
    → (is_some (number_at l.met q) || (list_any (reaches q) (drop l.part-index l.parts) && is_some (number_at l.asked q)))
    ≡ (list_any (reaches q) l.parts && is_some (number_at l.asked q))
