-- Where rows stand by their keys.
use Rattle.std.specs.Prelude.{ℕ, ◌+◌, ◌==◌, Bool, Option, List, [], ◌∷◌, Vec, length, map, unwrap_or, slice_index_or, if◌then◌else◌}
use Rattle.std.specs.List.{position_from}
use Rattle.std.specs.Ordering.{eq_by_cmp}
use Rattle.std.specs.Cmp.Lexicographic.{slice_cmp}
use Rattle.std.specs.FinMap.{empty}
use Rattle.std.specs.BTreeMap.{BTreeMap, get_by}
use Rattle.std.specs.declared.alloc.Global.{Global}
use Rattle.cell_value.specs.declared.state.Keyed.{Keyed}
use Rattle.cell_value.specs.declared.cell.Cell.{Cell}
use Rattle.cell_value.specs.Cell.{cell_cmp}
use Rattle.cell_value.specs.Datum.{cell_at}

-- the cells of a row in the fields
abbrev pub key_cells : List (List ℕ) → Keyed → List Cell
key_cells fields row = map (cell_at row) fields

-- whether two lists of cells are the same
abbrev pub same_keys : List Cell → List Cell → Bool
same_keys = eq_by_cmp (slice_cmp cell_cmp)

abbrev pub Places : Type 0
Places = BTreeMap (Vec Cell Global) ℕ

-- the place under a key
abbrev pub place_at : Places → List Cell → Option ℕ
place_at places key = get_by (λ (k : Vec Cell Global). slice_cmp cell_cmp key k.items) places

-- the first place among keys at which a key stands
abbrev pub first_place : List (List Cell) → List Cell → Option ℕ
first_place keys key = position_from (λ other. same_keys other key) 0 keys

-- the same, and past all keys where the key doesn't stand there
abbrev pub leader_of : List (List Cell) → List Cell → ℕ
leader_of keys key = unwrap_or (first_place keys key) (length keys)

-- for each key the first place at which it stands
abbrev pub leaders : List (List Cell) → List ℕ
leaders keys = map (leader_of keys) keys

-- the places, counted from i, at which a leader stands
abbrev pub members_from : ℕ → ℕ → List ℕ → List ℕ
members_from leader i [] = []
members_from leader i (l ∷ ls) = if l == leader then i ∷ members_from leader (i + 1) ls else members_from leader (i + 1) ls

-- the places, counted from i, that lead themselves
abbrev pub heads_from : ℕ → List ℕ → List ℕ
heads_from i [] = []
heads_from i (l ∷ ls) = if l == i then i ∷ heads_from (i + 1) ls else heads_from (i + 1) ls

-- the row at a place
abbrev pub row_at : List Keyed → ℕ → Keyed
row_at rows place = slice_index_or rows place (record { key = record { id = 0; branch = 0 }; row = empty })

-- the rows at places
abbrev pub rows_at : List Keyed → List ℕ → List Keyed
rows_at rows places = map (row_at rows) places
