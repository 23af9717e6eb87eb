-- What a change leaves of one row more.
use Rattle.std.proofs.Common.{◌≡◌, ℕ, ◌+◌, Bool, true, false, cond, not, Option, Some, None, List, ◌∷◌, ◌++◌, length, map}
use Rattle.std.proofs.Common.{refl, sym, ap, arith}
use Rattle.std.specs.Prelude.{unwrap_or, if◌then◌else◌}
use Rattle.std.specs.List.{filter_map, filter}
use Rattle.std.specs.Option.{option_map, option_to_list}
use Rattle.cell_value.specs.Datum.{Datum}
use Rattle.expr_eval.specs.Values.{Values}
use Rattle.fixed_num.specs.Ranges.{◌>>=◌, all_found}
use Rattle.param_flow.specs.declared.command.ChangeOf.{ChangeOf}
use Rattle.param_flow.specs.Change.{removal_of, modified, row_after, rows_after, stays, count_staying}

-- the row after a row, before those after the others
abbrev pub before : Option (Option Datum) → Option (List Datum) → Option (List Datum)
before None more = None
before (Some row) more = option_map (λ rows. option_to_list row ++ rows) more

first_and_rest : (found : Option (Option Datum)) (others : Option (List (Option Datum)))
    → option_map (filter_map (λ row. row)) (found >>= λ row. others >>= λ rows. Some (row ∷ rows))
    ≡ before found (option_map (filter_map (λ row. row)) others)
first_and_rest None others = refl
first_and_rest (Some None) None = refl
first_and_rest (Some None) (Some rows) = refl
first_and_rest (Some (Some row)) None = refl
first_and_rest (Some (Some row)) (Some rows) = refl

module _ (values : Values) (change : ChangeOf) where
  -- a row and the rest
  pub rows_after_next : (row : Datum) (rest : List Datum)
      → rows_after values change (row ∷ rest) ≡ before (row_after values change row) (rows_after values change rest)
  rows_after_next row rest = first_and_rest (row_after values change row) (all_found (map (row_after values change) rest))

-- 1 for what is so
abbrev pub one_if : Bool → ℕ
one_if true = 1
one_if false = 0

-- whether it is known that nothing is left of a row
abbrev pub is_gone : Option (Option Datum) → Bool
is_gone None = false
is_gone (Some None) = true
is_gone (Some (Some row)) = false

gone_by : (removal : Option Bool) (new : Option Datum)
    → is_gone (removal >>= λ removed. if removed then Some None else option_map Some new) ≡ unwrap_or removal false
gone_by None new = refl
gone_by (Some true) new = refl
gone_by (Some false) None = refl
gone_by (Some false) (Some row) = refl

module _ (values : Values) (change : ChangeOf) (row : Datum) where
  pub stays_is : stays values change.remove row ≡ not (is_gone (row_after values change row))
  stays_is = ap not (sym (gone_by (removal_of values change.remove row) (modified values change.modify row)))

  pub count_next : (rest : List Datum) → count_staying values change.remove (row ∷ rest)
      ≡ one_if (stays values change.remove row) + count_staying values change.remove rest
  count_next rest = counted (stays values change.remove row) (filter (stays values change.remove) rest)
    where
      counted : (stays : Bool) (rest : List Datum) → length (cond stays (row ∷ rest) rest) ≡ one_if stays + length rest
      counted true rest = omega arith
      counted false rest = omega arith
