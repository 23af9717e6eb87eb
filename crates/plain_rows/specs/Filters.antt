-- The rows that pass a test.
use Rattle.std.specs.Prelude.{◌≡◌, refl, nat_lt, Bool, false, Option, Some, None, List, [], ◌∷◌, map, filter, unwrap_or, if◌then◌else◌}
use Rattle.cell_value.specs.Datum.{CellAt, Datum}
use Rattle.expr_syntax.specs.declared.expr.Expr.{Expr}
use Rattle.fixed_num.specs.Ranges.{◌>>=◌, all_found}
use Rattle.expr_eval.specs.Values.{Values}
use Rattle.expr_eval.specs.Value.{truth_of}

-- the elements at which the test gives true; None where it gives nothing at one of them
abbrev pub kept : {X : Type 0} → (X → Option Bool) → List X → Option (List X)
kept test xs = all_found (map test xs) >>= λ _. Some (filter (λ x. unwrap_or (test x) false) xs)

-- the rows of which the test's value counts as true; None where the test overflows at one of them
abbrev pub filtered : {X : Type 0} → (X → CellAt) → Values → Expr → List X → Option (List X)
filtered cells values test = kept (λ row. truth_of (cells row) values test)

-- the same of rows as they are read
abbrev pub data_filtered : Values → Expr → List Datum → Option (List Datum)
data_filtered = filtered (λ (datum : Datum). datum.cell)

-- The rules at work.

the_numbers_below_three : kept (λ n. Some (nat_lt n 3)) (1 ∷ 3 ∷ 2 ∷ []) ≡ Some (1 ∷ 2 ∷ [])
the_numbers_below_three = refl

a_test_without_a_value : kept (λ n. if nat_lt n 3 then Some false else None) (1 ∷ 3 ∷ 2 ∷ []) ≡ None
a_test_without_a_value = refl
