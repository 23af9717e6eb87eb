-- What is read of the rows that are answered.
use Rattle.std.proofs.Common.{◌≡◌, ℕ, Bool, true, false, cond, not, ◌&&◌, if◌then◌else◌, List, map, Option, Some, None, option_map}
use Rattle.std.proofs.Common.{unwrap_or, Result, Ok, Err, bytes_eq, pos, ◌*◌, refl, sym, ap, ◌∙◌}
use Rattle.std.specs.FinMap as finite
use Rattle.std.proofs.lemmas.Cmp.{nat_list_cmp_total}
use Rattle.std.specs.Cmp.Lexicographic.{texts_ties}
use Rattle.fixed_num.specs.Number.{million}
use Rattle.cell_value.specs.declared.cell.Cell.{Cell}
use Rattle.cell_value.specs.declared.cell.Cell.TheVariants.{Null, Number}
use Rattle.cell_value.specs.declared.state.Keyed.{Keyed}
use Rattle.cell_value.specs.Datum.{Datum, datum_of, cell_at, id_name, datum_with}
use Rattle.expr_syntax.specs.declared.expr.Expr.{Expr}
use Rattle.expr_eval.specs.declared.error.EvalError.{EvalError}
use Rattle.expr_eval.specs.declared.error.EvalError.TheVariants.{Overflow, Memory}
use Rattle.expr_eval.specs.Answers.{Evaluates}
use Rattle.expr_eval.specs.Value.{value_of}
use Rattle.expr_eval.specs.Values.{Values}
use Rattle.plain_rows.specs.Answers.{GivesRows}
use Rattle.expr_eval.specs.Value.{truth_of}
use Rattle.plain_rows.specs.Filters.{filtered, data_filtered}
use Rattle.plain_rows.specs.Calculations.{calculated, data_calculated, with_cell}
use Rattle.plain_rows.proofs.Lists.{kept_seen, all_seen}

-- an answer reads as what the rows of the definition read as
pub reads_so : (result : Result (List Keyed) EvalError) (given : Option (List Keyed)) (read : Option (List Datum))
    → read ≡ option_map (map datum_of) given → Evaluates result given → GivesRows result read
reads_so (Ok rows) given read same e = same ∙ ap (option_map (map datum_of)) e
reads_so (Err Overflow) given read same e = same ∙ ap (option_map (map datum_of)) e
reads_so (Err Memory) given read same e = tt

pub filter_reads : (values : Values) (test : Expr) (rows : List Keyed) (result : Result (List Keyed) EvalError)
    → Evaluates result (filtered cell_at values test rows) → GivesRows result (data_filtered values test (map datum_of rows))
filter_reads values test rows result = reads_so result _ _ (kept_seen (λ (datum : Datum). truth_of datum.cell values test) datum_of rows)

by_tests : (is_id is_out : Bool) (id cell : Cell) (old : Option Cell) → (if is_id then id else unwrap_or (cond is_out (Some cell) old) Null)
    ≡ (if is_out && not is_id then cell else (if is_id then id else unwrap_or old Null))
by_tests true true id cell old = refl
by_tests true false id cell old = refl
by_tests false true id cell old = refl
by_tests false false id cell old = refl

reads_at : (out : List ℕ) (cell : Cell) (keyed : Keyed) (name : List ℕ)
    → cell_at (with_cell out cell keyed) name ≡ (datum_with out cell (datum_of keyed)).cell name
reads_at out cell keyed name =
    let id : Cell = Number (pos (keyed.key.id * million)) in
    ap (λ o. if bytes_eq name id_name then id else unwrap_or o Null) (finite.get-insert nat_list_cmp_total keyed.row out cell name)
    ∙ ap (λ b. if bytes_eq name id_name then id else unwrap_or (cond b (Some cell) (finite.get keyed.row name)) Null) (sym (texts_ties name out))
    ∙ by_tests (bytes_eq name id_name) (bytes_eq name out) id cell (finite.get keyed.row name)

pub reads_with : (out : List ℕ) (cell : Cell) (keyed : Keyed) → datum_with out cell (datum_of keyed) ≡ datum_of (with_cell out cell keyed)
reads_with out cell keyed = sym (λ i. record { key = keyed.key; cell = λ name. reads_at out cell keyed name i })

reads_put : (out : List ℕ) (keyed : Keyed) (o : Option Cell)
    → option_map (λ cell. datum_with out cell (datum_of keyed)) o ≡ option_map datum_of (option_map (λ cell. with_cell out cell keyed) o)
reads_put out keyed None = refl
reads_put out keyed (Some cell) = ap Some (reads_with out cell keyed)

pub calculate_reads : (values : Values) (e : Expr) (out : List ℕ) (rows : List Keyed) (result : Result (List Keyed) EvalError)
    → Evaluates result (calculated values e out rows) → GivesRows result (data_calculated values e out (map datum_of rows))
calculate_reads values e out rows result =
    reads_so result _ _ (all_seen datum_of datum_of _ _ (λ keyed. reads_put out keyed (value_of (cell_at keyed) values e)) rows)
