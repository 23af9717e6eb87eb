-- The names that a compiled specification makes of lists, of their columns and of marks are apart: from each other, and from all that the specification
-- mentions.
use Rattle.std.specs.Prelude.{◌≡◌, ◌≢◌, ℕ, ◌<◌, ◌^◌, List, All}
use Rattle.vega_assemble.specs.Names.{none_name, unit_name, begun_name, cells_name, ranks_name, codes_name, outer_name, orders_name, keys_name, cell_column}
use Rattle.vega_assemble.specs.Names.{rank_column, key_column, mark_name, stem_for}

-- What such a name is for, with the numbers behind its word.
pub data MadeName : Type 0 where
  NoneName : MadeName
  UnitName : ℕ → MadeName
  BegunName : ℕ → MadeName
  CellsName : ℕ → ℕ → MadeName
  RanksName : ℕ → MadeName
  CodesName : ℕ → ℕ → MadeName
  OuterName : ℕ → ℕ → MadeName
  OrdersName : ℕ → ℕ → MadeName
  KeysName : ℕ → ℕ → MadeName
  CellColumn : MadeName
  RankColumn : MadeName
  KeyColumn : ℕ → MadeName
  MarkName : ℕ → MadeName

-- the name, behind a stem
abbrev pub made_name : List ℕ → MadeName → List ℕ
made_name stem NoneName = none_name stem
made_name stem (UnitName n) = unit_name stem n
made_name stem (BegunName n) = begun_name stem n
made_name stem (CellsName n m) = cells_name stem n m
made_name stem (RanksName n) = ranks_name stem n
made_name stem (CodesName n m) = codes_name stem n m
made_name stem (OuterName n m) = outer_name stem n m
made_name stem (OrdersName n m) = orders_name stem n m
made_name stem (KeysName n m) = keys_name stem n m
made_name stem CellColumn = cell_column stem
made_name stem RankColumn = rank_column stem
made_name stem (KeyColumn n) = key_column stem n
made_name stem (MarkName n) = mark_name stem n

-- a number of 64 bits, as the places of a list are
abbrev pub IsPlace : ℕ → Type 0
IsPlace n = n < 2 ^ 64

-- the numbers behind its word are such
abbrev pub HasPlaces : MadeName → Type 0
HasPlaces NoneName = Unit {0}
HasPlaces (UnitName n) = IsPlace n
HasPlaces (BegunName n) = IsPlace n
HasPlaces (CellsName n m) = IsPlace n × IsPlace m
HasPlaces (RanksName n) = IsPlace n
HasPlaces (CodesName n m) = IsPlace n × IsPlace m
HasPlaces (OuterName n m) = IsPlace n × IsPlace m
HasPlaces (OrdersName n m) = IsPlace n × IsPlace m
HasPlaces (KeysName n m) = IsPlace n × IsPlace m
HasPlaces CellColumn = Unit {0}
HasPlaces RankColumn = Unit {0}
HasPlaces (KeyColumn n) = IsPlace n
HasPlaces (MarkName n) = IsPlace n

-- Behind one stem, names for different things differ.
abbrev pub MadeNamesDiffer : Type 0
MadeNamesDiffer = (stem : List ℕ) (a b : MadeName) → HasPlaces a → HasPlaces b → made_name stem a ≡ made_name stem b → a ≡ b

-- Behind the stem for some names, no name that is made is one of them, whatever the numbers in it.
abbrev pub MadeNamesAreNew : Type 0
MadeNamesAreNew = (mentioned : List (List ℕ)) (a : MadeName) → All (λ name. made_name (stem_for mentioned) a ≢ name) mentioned
