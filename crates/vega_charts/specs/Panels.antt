-- How many plots in facets a chart may have.
use Rattle.std.specs.Prelude.{◌≡◌, refl, ℕ, ◌-◌, ◌^◌, nat_lt, min, if◌then◌else◌}
use Rattle.scene_tree.specs.Outcome.{Outcome, Drawn, Panels}

-- as many plots in facets as a chart may have
abbrev pub most_panels : ℕ
most_panels = 400

-- a chart with so many plots in facets: with too many it isn't drawn, and their count is told up to the greatest of 64 bits
abbrev pub with_panels : {X : Type 0} → ℕ → Outcome X → Outcome X
with_panels n drawn = if nat_lt most_panels n then Panels (min n (2 ^ 64 - 1)) else drawn

-- The rule at work.

abbrev a_drawing : Outcome ℕ
a_drawing = Drawn 7

at_most_400_panels : (with_panels 400 a_drawing ≡ Drawn 7) × (with_panels 401 a_drawing ≡ Panels 401)
    × (with_panels (2 ^ 64) a_drawing ≡ Panels (2 ^ 64 - 1))
at_most_400_panels = (refl, refl, refl)
