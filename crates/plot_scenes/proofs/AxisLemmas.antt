-- The axes of a list that run along x, or along y, one outside the others.
use Rattle.std.proofs.Common.{◌≡◌, ℕ, ◌+◌, ◌<◌, ◌≤◌, Bool, true, false, cond, if◌then◌else◌, List, ◌∷◌, length, drop, get_or, ℤ, Option}
use Rattle.std.proofs.Common.{Some, None, refl, sym, ap, ◌∙◌, append_assoc, append-nil}
use Rattle.std.specs.Prelude.{Err}
use Rattle.std.specs.List.{filter}
use Rattle.std.specs.Option.{option_map}
use Rattle.std.proofs.lemmas.List.{drop_more, drop_all}
use Rattle.fixed_num.specs.Ranges.{◌>>=◌}
use Rattle.guide_kit.specs.declared.errors.GuideError.{GuideError}
use Rattle.guide_kit.specs.declared.errors.GuideError.TheVariants.{Overflow, Memory}
use Rattle.guide_kit.specs.Answers.{Draws}
use Rattle.plot_scenes.specs.declared.axes.Axes.{Axes}
use Rattle.plot_scenes.specs.declared.axes.AxisShown.{AxisShown}
use Rattle.plot_scenes.specs.declared.extents.Extents.{Extents}
use Rattle.plot_scenes.specs.Axes.{no_axes, and_then, axis_outside, axes_outside, runs_along}
use Rattle.plot_scenes.specs.inner.Steps.{and_axis}

-- no axes, and then others
started : (before : Extents) (o : Option Axes) → option_map (and_then (no_axes before)) o ≡ o
started before None = refl
started before (Some axes) = refl

-- some axes, and then no others
with_none : (all : Axes) → and_then all (no_axes all.extents) ≡ all
with_none all = λ i. record { grids = append-nil all.grids i; items = append-nil all.items i; extents = all.extents }

joined : (all first : Axes) (o : Option Axes)
    → option_map (and_then (and_then all first)) o ≡ option_map (and_then all) (option_map (and_then first) o)
joined all first None = refl
joined all first (Some rest) = ap Some (λ i. record {
  grids = append_assoc all.grids first.grids rest.grids i;
  items = append_assoc all.items first.items rest.items i;
  extents = rest.extents;
})

with_first : (all : Axes) (o : Option Axes) (f : Extents → Option Axes)
    → (option_map (and_then all) o >>= λ more. option_map (and_then more) (f more.extents))
    ≡ option_map (and_then all) (o >>= λ first. option_map (and_then first) (f first.extents))
with_first all None f = refl
with_first all (Some first) f = joined all first (f first.extents)

-- an error of a part is the whole's
fails : {X Y : Type 0} (o : Option X) (rest : X → Option Y) (whole : Option Y) (e : GuideError) → whole ≡ (o >>= rest)
    → Draws {X = X} (Err e) o → Draws {X = Y} (Err e) whole
fails o rest whole Overflow same told = same ∙ ap (λ o. o >>= rest) told
fails o rest whole Memory same told = tt

module _ (width height : ℤ) (x : Bool) where
  -- the axes of a list that run along x, or along y
  abbrev from : Extents → List AxisShown → Option Axes
  from before axes = axes_outside width height before (filter (runs_along x) axes)

  -- some axes, and then the others
  abbrev then_rest : List AxisShown → Axes → Option Axes
  then_rest rest all = option_map (and_then all) (from all.extents rest)

  by_direction : (all : Axes) (a : AxisShown) (kept : List AxisShown) (b : Bool)
      → ((if b then option_map (and_then all) (axis_outside width height all.extents a) else Some all)
      >>= λ more. option_map (and_then more) (axes_outside width height more.extents kept))
      ≡ option_map (and_then all) (axes_outside width height all.extents (cond b (a ∷ kept) kept))
  by_direction all a kept true =
      with_first all (axis_outside width height all.extents a) (λ extents. axes_outside width height extents kept)
  by_direction all a kept false = refl

  one_step : (all : Axes) (a : AxisShown) (rest : List AxisShown)
      → (and_axis width height x all a >>= then_rest rest) ≡ then_rest (a ∷ rest) all
  one_step all a rest = by_direction all a (filter (runs_along x) rest) (runs_along x a)

  module _ (axes : List AxisShown) (i : ℕ) (a : AxisShown) where
    here : (all : Axes) (whole : Option Axes) → i < length axes → a ≡ get_or axes i a → whole ≡ then_rest (drop i axes) all
        → whole ≡ (and_axis width height x all a >>= then_rest (drop (i + 1) axes))
    here all whole within is before =
        before ∙ ap (λ rest. then_rest rest all) (drop_more axes i a within ∙ ap (λ a. a ∷ drop (i + 1) axes) (sym is))
        ∙ sym (one_step all a (drop (i + 1) axes))

  -- at the beginning
  pub begun : (axes : List AxisShown) (before : Extents) (all : Axes) → all ≡ no_axes before → from before axes ≡ then_rest axes all
  begun axes before all is = sym (started before (from before axes)) ∙ ap (then_rest axes) (sym is)

  -- one more
  pub next : (axes : List AxisShown) (i : ℕ) (a : AxisShown) (all then_all : Axes) (whole : Option Axes) → i < length axes
      → a ≡ get_or axes i a → whole ≡ then_rest (drop i axes) all → and_axis width height x all a ≡ Some then_all
      → whole ≡ then_rest (drop (i + 1) axes) then_all
  next axes i a all then_all whole within is before this =
      here axes i a all whole within is before ∙ ap (λ o. o >>= then_rest (drop (i + 1) axes)) this

  -- an error at one is the whole's
  pub stopped : (axes : List AxisShown) (i : ℕ) (a : AxisShown) (all : Axes) (whole : Option Axes) (e : GuideError) → i < length axes
      → a ≡ get_or axes i a → whole ≡ then_rest (drop i axes) all → Draws {X = Axes} (Err e) (and_axis width height x all a)
      → Draws {X = Axes} (Err e) whole
  stopped axes i a all whole e within is before told =
      fails (and_axis width height x all a) (then_rest (drop (i + 1) axes)) whole e (here axes i a all whole within is before) told

  -- at the end
  pub ended : (axes : List AxisShown) (i : ℕ) (all : Axes) (whole : Option Axes) → length axes ≤ i → whole ≡ then_rest (drop i axes) all
      → whole ≡ Some all
  ended axes i all whole past before =
      before ∙ ap (λ rest. then_rest rest all) (drop_all i axes past) ∙ ap Some (with_none all)
