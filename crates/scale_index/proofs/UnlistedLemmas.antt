-- What a scale has for cells that don't stand in its domain.
use Rattle.std.proofs.Common.{◌≡◌, ℕ, pos, [], length, position, Option, None, Ok, option_map, refl, sym, ap}
use Rattle.fixed_num.specs.Number.{million}
use Rattle.cell_value.specs.declared.cell.Cell.{Cell}
use Rattle.cell_value.specs.Cell.{same_cells}
use Rattle.scale_kit.specs.declared.bands.Bands.{Bands}
use Rattle.scale_kit.specs.declared.scale.Scale.{Scale}
use Rattle.scale_kit.specs.declared.scale.Scale.TheVariants.{Linear, Time, Band, Point, Ordinal, Ramp}
use Rattle.scale_kit.specs.Bands.{place_of_band}
use Rattle.scale_kit.specs.Colors.{entry_text, paint_of}
use Rattle.scale_kit.specs.Places.{reached_place, entry_number, place_of, domain_cells, domain_index}

-- without a band there is no place
no_band : (b : Bands) (index : Option ℕ) → index ≡ None → Ok None ≡ reached_place (option_map (place_of_band b) index)
no_band b index e = ap (λ o. reached_place (option_map (place_of_band b) o)) (sym e)

-- a scale that lists cells has no place for another
pub no_place : (s : Scale) (v : Cell) → domain_index s v ≡ None → (domain_cells s ≡ [] → ⊥) → Ok None ≡ place_of s v
no_place (Linear d0 d1 r0 r1) v e lists = absurd (lists refl)
no_place (Time d0 d1 r0 r1) v e lists = absurd (lists refl)
no_place (Band domain inner outer r0 r1) v e lists =
    no_band (record { count = length domain; inner = inner; outer = outer; r0 = r0; r1 = r1 }) (position (same_cells v) domain) e
no_place (Point domain outer r0 r1) v e lists =
    no_band (record { count = length domain; inner = pos million; outer = outer; r0 = r0; r1 = r1 }) (position (same_cells v) domain) e
no_place (Ordinal domain range) v e lists = ap (λ o. reached_place (entry_number range o)) (sym e)
no_place (Ramp time d0 d1 from to) v e lists = absurd (lists refl)

-- nor a colour or sign
pub no_paint : (s : Scale) (v : Cell) → domain_index s v ≡ None → (domain_cells s ≡ [] → ⊥) → None ≡ paint_of s v
no_paint (Linear d0 d1 r0 r1) v e lists = absurd (lists refl)
no_paint (Time d0 d1 r0 r1) v e lists = absurd (lists refl)
no_paint (Band domain inner outer r0 r1) v e lists = refl
no_paint (Point domain outer r0 r1) v e lists = refl
no_paint (Ordinal domain range) v e lists = ap (entry_text range) (sym e)
no_paint (Ramp time d0 d1 from to) v e lists = absurd (lists refl)
