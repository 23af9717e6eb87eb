-- Where keys stand, by a map.
use Rattle.std.specs.Prelude.{ℕ, Option, List, Vec, map, unwrap_or}
use Rattle.std.specs.Borrow.{Bor}
use Rattle.std.specs.List.{position_from}
use Rattle.std.specs.Cmp.Lexicographic.{slice_cmp}
use Rattle.std.specs.BTreeMap.{BTreeMap, get_by}
use Rattle.std.specs.declared.alloc.Global.{Global}
use Rattle.cell_value.specs.declared.cell.Cell.{Cell}
use Rattle.cell_value.specs.declared.state.Keyed.{Keyed}
use Rattle.cell_value.specs.Cell.{cell_cmp}
use Rattle.cell_value.specs.Datum.{datum_of}
use Rattle.plain_facets.specs.Facets.{key_of, is_key, home_among}

abbrev pub Places : Type 0
Places = BTreeMap (Vec Cell Global) ℕ

-- the place under a key
abbrev pub place_at : Places → List Cell → Option ℕ
place_at places key = get_by (λ (k : Vec Cell Global). slice_cmp cell_cmp key k.items) places

-- the first place at which a key stands among keys
abbrev pub first_place : List (List Cell) → List Cell → Option ℕ
first_place keys key = position_from (λ other. is_key other key) 0 keys

-- the same, and past so many copies where there is none
abbrev pub home_at : Places → ℕ → List Cell → ℕ
home_at places copies key = unwrap_or (place_at places key) copies

-- the cells of a row behind a reference in some fields
abbrev pub key_shown : List (List ℕ) → Bor Keyed → List Cell
key_shown fields row = key_of fields (datum_of row.now)

abbrev pub keys_shown : List (List ℕ) → List (Bor Keyed) → List (List Cell)
keys_shown fields rows = map (key_shown fields) rows

-- the place of its cells among those of copies
abbrev pub home_shown : List (List Cell) → List (List ℕ) → Bor Keyed → ℕ
home_shown copies fields row = home_among copies (key_shown fields row)
