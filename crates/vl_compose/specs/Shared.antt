-- Each unit shares each of its scales once.
use Rattle.std.specs.Prelude.{◌≡◌, ℕ, ◌==◌, Bool, true, ◌&&◌, Some, [], ◌∷◌, filter, slice_get}
use Rattle.std.specs.List.{list_any}
use Rattle.vl_spec.specs.declared.spec.VlSpec.{VlSpec}
use Rattle.vl_compose.specs.declared.views.SharedScale.{SharedScale}
use Rattle.vl_compose.specs.Sharing.{has_scale, homed, homed_for, group_at, resolve_of}
use Rattle.vl_compose.specs.Units.{UnitAt, units_of}

-- whether a scale is one of a channel that a unit of this number shares
abbrev pub is_shared_by : ℕ → ℕ → SharedScale → Bool
is_shared_by code number scale = scale.channel == code && list_any (λ n. n == number) scale.units

-- Of the scales of a specification exactly one is that of a channel and a unit which has a scale for it: the one of those units that share the
-- channel up to the same view.
abbrev pub EachUnitSharesOnce : Type 0
EachUnitSharesOnce = (s : VlSpec) (code number : ℕ) (unit : UnitAt) → slice_get (units_of s) number ≡ Some unit → has_scale code unit ≡ true →
    filter (is_shared_by code number) (resolve_of s) ≡ group_at code (homed_for code (units_of s)) (homed code unit) ∷ []
