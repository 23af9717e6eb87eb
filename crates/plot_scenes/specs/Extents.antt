-- How far what belongs to a plot extends beyond its sides.
use Rattle.std.specs.Prelude.{◌≡◌, refl, ℤ, pos}
use Rattle.guide_kit.specs.Measures.{pixels, plus}
use Rattle.guide_kit.specs.declared.frames.Side.{Side}
use Rattle.guide_kit.specs.declared.frames.Side.TheVariants.{Left, Right, Top, Bottom}
use Rattle.plot_scenes.specs.declared.extents.Extents.{Extents}
use Rattle.plot_scenes.specs.Lengths.{beyond}

-- nothing extends beyond a plot
abbrev pub no_extents : Extents
no_extents = record { left = pos 0; top = pos 0; right = pos 0; bottom = pos 0 }

-- how far it extends at a side
abbrev pub at_side : Side → Extents → ℤ
at_side Left e = e.left
at_side Right e = e.right
at_side Top e = e.top
at_side Bottom e = e.bottom

-- the extents with one more outside those at a side
abbrev pub widened : Side → ℤ → Extents → Extents
widened Left more e = record { left = beyond e.left more; top = e.top; right = e.right; bottom = e.bottom }
widened Right more e = record { left = e.left; top = e.top; right = beyond e.right more; bottom = e.bottom }
widened Top more e = record { left = e.left; top = beyond e.top more; right = e.right; bottom = e.bottom }
widened Bottom more e = record { left = e.left; top = e.top; right = e.right; bottom = beyond e.bottom more }

-- ---- worked examples

two_at_the_left : (at_side Left (widened Left (pixels 10) (widened Left (pixels 28) no_extents)) ≡ pixels 38)
    × (at_side Right (widened Left (pixels 28) no_extents) ≡ pos 0)
unfolding plus
two_at_the_left = (refl, refl)
