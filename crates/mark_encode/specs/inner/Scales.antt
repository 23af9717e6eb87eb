-- Scales by their names in the program.
use Rattle.std.specs.Prelude.{◌≡◌, ℕ, Option, Some, None, List, [], ◌∷◌, String, map, find, slice_get, All}
use Rattle.std.specs.Borrow.{Bor}
use Rattle.std.specs.Option.{option_map}
use Rattle.std.specs.Str.{bytes_eq}
use Rattle.std.specs.declared.alloc.Global.{Global}
use Rattle.std.specs.BTreeMap.{BTreeMap, get_by_text}
use Rattle.fixed_num.specs.Ranges.{◌>>=◌}
use Rattle.scale_kit.specs.declared.scale.Scale.{Scale}
use Rattle.scale_kit.specs.declared.scale.ScaleIn.{ScaleIn}
use Rattle.scale_kit.specs.declared.scale.ScaleSet.{ScaleSet}
use Rattle.scale_kit.specs.Scale.{IsScale}
use Rattle.mark_encode.specs.Channels.{scales_within}

-- the place under a name
abbrev pub place_under : BTreeMap (String Global) ℕ → List ℕ → Option ℕ
place_under places name = get_by_text places name

-- the scale at a place, if one is given
abbrev pub scale_at : List Scale → Option ℕ → Option Scale
scale_at scales place = place >>= slice_get scales

-- scales without their names
abbrev pub scales_of : List ScaleIn → List Scale
scales_of = map (λ (s : ScaleIn). s.scale)

-- whether each is such a scale as calls ask for
abbrev pub AreAllScales : List ScaleIn → Type 0
AreAllScales = All (λ (s : ScaleIn). IsScale s.scale)

-- each name leads to the first scale that has it
abbrev pub FindsScales : BTreeMap (String Global) ℕ → List Scale → List ScaleIn → Type 0
FindsScales places scales named =
    (name : List ℕ) → scale_at scales (place_under places name)
    ≡ option_map (λ (s : ScaleIn). s.scale) (find (λ (s : ScaleIn). bytes_eq s.name name) named)

-- the sets of objects round one another, where there is such a set
abbrev pub sets_round : Option (Bor (List ScaleSet)) → List ScaleSet
sets_round None = []
sets_round (Some sets) = sets.now

-- the scales that have names in the innermost of objects, whose sets these are from it outwards
abbrev pub scales_inside : List ScaleSet → ScaleSet
scales_inside [] = record { scales = [] }
scales_inside (own ∷ outer) = scales_within own (scales_inside outer)
