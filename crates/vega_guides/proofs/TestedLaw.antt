-- Where the test of axes holds, they have what callers ask.
use Rattle.std.proofs.Common.{◌≡◌, ◌*◌, ◌&&◌, ℤ, pos, ◌≤ℤ◌, Bool, true, false, IfSome, List, [], ◌∷◌}
use Rattle.std.proofs.Common.{Option, Some, None, refl, arith}
use Rattle.std.specs.Option.{option_map_or}
use Rattle.std.specs.List.{All, list_all}
use Rattle.std.proofs.lemmas.Int.{ints}
use Rattle.std.proofs.lemmas.Bool.{false≢true}
use Rattle.std.proofs.lemmas.List.Elements.{All-cons, All-nil}
use Rattle.fixed_num.specs.Number.{million}
use Rattle.fixed_num.specs.Ranges.{is_within}
use Rattle.vega_spec.specs.declared.guides.Axis.{Axis}
use Rattle.vega_spec.specs.declared.spec.Group.{Group, Group-F}
use Rattle.vega_spec.specs.declared.spec.VgMark.{VgMark}
use Rattle.vega_guides.specs.Shown.{IsCount, IsAxis}
use Rattle.vega_guides.specs.Tested.{axes_in, is_kept_axis, has_kept_axes, HasKeptAxes}

both : (a b : Bool) → (a && b) ≡ true → (a ≡ true) × (b ≡ true)
both true b e = (refl, e)
both false b e = absurd (false≢true e)

within : (low high n : ℤ) → is_within low high n ≡ true → (low ≤ℤ n) × (n ≤ℤ high)
within low high n e = (grind (arith, ints), grind (arith, ints))

count_kept : (o : Option ℤ) → option_map_or (is_within (pos million) (pos (1000 * million))) o true ≡ true → IfSome o IsCount
count_kept None e = tt
count_kept (Some n) e = within (pos million) (pos (1000 * million)) n e

all_kept : (axes : List Axis) → list_all is_kept_axis axes ≡ true → All IsAxis axes
all_kept [] e = All-nil IsAxis
all_kept (a ∷ axes) e =
    let h = both (is_kept_axis a) (list_all is_kept_axis axes) e in
    All-cons IsAxis a axes (count_kept a.tick_count h.0) (all_kept axes h.1)

pub law : (g : Group-F Group VgMark) → has_kept_axes g ≡ true → HasKeptAxes g
law g e = all_kept (axes_in g) e
