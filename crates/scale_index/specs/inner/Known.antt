-- What a scale has for cells, as it is kept.
use Rattle.std.specs.Prelude.{◌≡◌, ◌+ℤ◌, ◌*ℤ◌, ℤ, pos, Option, Some, None, List, if◌then◌else◌}
use Rattle.std.specs.List.{list_any}
use Rattle.std.specs.BTreeMap.{BTreeMap, get_by}
use Rattle.fixed_num.specs.Number.{million, rounded}
use Rattle.fixed_num.specs.Ranges.{◌>>=◌, in_range}
use Rattle.cell_value.specs.declared.cell.Cell.{Cell}
use Rattle.cell_value.specs.Cell.{cell_cmp, same_cells}
use Rattle.scale_kit.specs.declared.scale.Scale.{Scale}
use Rattle.scale_kit.specs.Places.{place_of, place_in_band_of}
use Rattle.scale_kit.specs.Colors.{paint_of}
use Rattle.scale_index.specs.declared.known.Known.{Known}

-- what a scale has for a cell: its place, its place in the centre of its band, and its colour or sign
abbrev pub known_of : Scale → Cell → Known
known_of s v = record { place = place_of s v; centre = place_in_band_of s v (pos 500000); paint = paint_of s v }

-- what is kept under a cell
abbrev pub known_under : BTreeMap Cell Known → Cell → Option Known
known_under known v = get_by (cell_cmp v) known

-- what a scale has for some cells is kept under them, and nothing under any other
abbrev pub AreKnown : Scale → List Cell → BTreeMap Cell Known → Type 0
AreKnown s cells known = (v : Cell) → known_under known v ≡ (if list_any (same_cells v) cells then Some (known_of s v) else None)

-- the place so many widths after another; None where the widths are out of range by themselves, and where the place is
abbrev pub place_after : ℤ → ℤ → ℤ → Option ℤ
place_after end width share = in_range (rounded (share *ℤ width) million) >>= λ way. in_range (end +ℤ way)
