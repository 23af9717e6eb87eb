-- A cell put into each row.
use Rattle.std.specs.Prelude.{◌≡◌, refl, ℕ, nat_lt, true, Option, Some, None, List, [], ◌∷◌, map, option_map, codes, if◌then◌else◌}
use Rattle.std.specs.FinMap.{insert}
use Rattle.cell_value.specs.declared.state.Keyed.{Keyed}
use Rattle.cell_value.specs.declared.cell.Cell.{Cell}
use Rattle.cell_value.specs.declared.cell.Cell.TheVariants.{Null, Flag}
use Rattle.cell_value.specs.Datum.{Datum, id_name, cell_at, datum_with}
use Rattle.expr_syntax.specs.declared.expr.Expr.{Expr}
use Rattle.expr_eval.specs.Plain.{null_row}
use Rattle.fixed_num.specs.Ranges.{all_found}
use Rattle.expr_eval.specs.Value.{value_of}
use Rattle.expr_eval.specs.Values.{Values}

-- the row with a cell under a name, in place of the one that was there
abbrev pub with_cell : List ℕ → Cell → Keyed → Keyed
with_cell out cell keyed = record { key = keyed.key; row = insert keyed.row out cell }

-- each element with a value of it put in; None where there is no value of one of them
abbrev pub each_with : {X : Type 0} → (X → Option Cell) → (Cell → X → X) → List X → Option (List X)
each_with value put xs = all_found (map (λ x. option_map (λ cell. put cell x) (value x)) xs)

-- the rows, each with its value of the expression under a name; None where the expression overflows at one of them
abbrev pub calculated : Values → Expr → List ℕ → List Keyed → Option (List Keyed)
calculated values e out = each_with (λ keyed. value_of (cell_at keyed) values e) (with_cell out)

-- the same of rows as they are read
abbrev pub data_calculated : Values → Expr → List ℕ → List Datum → Option (List Datum)
data_calculated values e out = each_with (λ (datum : Datum). value_of datum.cell values e) (datum_with out)

-- The rules at work.

-- a row that reads as null under each name
abbrev null_datum : Datum
null_datum = record { key = record { id = 7; branch = 0 }; cell = null_row }

a_cell_under_its_name : (datum_with (codes "a") (Flag true) null_datum).cell (codes "a") ≡ Flag true
a_cell_under_its_name = refl

the_id_stays : (datum_with id_name (Flag true) null_datum).cell id_name ≡ Null
the_id_stays = refl

the_cell_of_another_name : each_with (λ (datum : Datum). Some (datum.cell (codes "b"))) (datum_with (codes "a")) (null_datum ∷ [])
    ≡ Some (datum_with (codes "a") Null null_datum ∷ [])
the_cell_of_another_name = refl

an_overflow_at_one_row : each_with (λ n. if nat_lt n 3 then Some Null else None) (λ cell n. n) (1 ∷ 3 ∷ 2 ∷ []) ≡ None
an_overflow_at_one_row = refl
