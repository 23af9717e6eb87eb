-- Cells, codes and expressions are read back.
use Rattle.std.proofs.Common.{◌≡◌, ℕ, ℤ, List, [], ◌∷◌, refl, ap, ◌∙◌}
use Rattle.std.specs.Option.{option_map, option_and_then, unwrap_or}
use Rattle.std.specs.Prelude.{Option, Some, None, IfSome, codes}
use Rattle.json_exact.specs.Inside.{text_in, number_in, items_in, members_in}
use Rattle.json_exact.specs.Path.{member_value}
use Rattle.json_exact.specs.declared.json.Json.{out-Json}
use Rattle.json_exact.specs.declared.json.Member.{Member}
use Rattle.vega_building.specs.Groupings.{maybe_text, maybe_number}
use Rattle.vega_building.specs.Names.{named_in, operation_named, operation_of}
use Rattle.vega_building.specs.Parts.{list_at, two_texts, two_texts_at, expression_at, needed_expression, signal_at, cell_in, cell_at}
use Rattle.vega_building.specs.Parts.{cell_of}
use Rattle.vega_writing.specs.Names.{code_tree, name_at}
use Rattle.vega_writing.specs.Slots.{present}
use Rattle.vega_writing.specs.Trees.{text_tree, number_tree, expression_tree, cell_tree, list_tree, or_null, pair_tree, computed_tree}
use Rattle.vega_writing.specs.Trees.{computed_slots}
use Rattle.case_table.specs.Names.{operations, time_units, scale_kinds, index_of}
use Rattle.cell_value.specs.declared.cell.Cell.{Cell}
use Rattle.expr_reading.specs.Readings.{expression_of}
use Rattle.expr_syntax.specs.Writing.{text_of}
use Rattle.expr_syntax.specs.declared.expr.Expr.{Expr}
use Rattle.vega_model.proofs.Back.{opened_null, opened_flag, opened_number, opened_text, opened_list, opened_object, must_found}
use Rattle.vega_model.proofs.Back.{may_found_always, must_text, may_text, must_list, may_list, may_list_always, text_back}
use Rattle.vega_model.proofs.Back.{named_word, each_of, some_of}
use Rattle.vega_model.proofs.Found.{found}
use Rattle.vega_model.proofs.Places.{code_of_name}
use Rattle.vega_model.specs.RoundTrip.{IsCode, IsReading}
use Rattle.vega_model.specs.Codes.{Each}
use Rattle.cell_value.specs.declared.cell.Cell.TheVariants as cell
use Rattle.expr_syntax.specs.declared.expr.Expr.TheVariants as expr

-- ---- cells

-- what is read of a cell is the cell
pub cell_reads : (c : Cell) → cell_in (out-Json (cell_tree c)) ≡ Some c
unfolding cell_tree
cell_reads cell.Null = ap cell_in opened_null
cell_reads (cell.Flag flag) = ap cell_in (opened_flag flag)
cell_reads (cell.Number number) = ap cell_in (opened_number number)
cell_reads (cell.Text text) = ap cell_in (opened_text text)
cell_reads (cell.Pair first second) =
    ap cell_in (opened_list (number_tree first ∷ number_tree second ∷ []))
    ∙ ap (λ n. option_and_then (λ x. option_map (λ y. cell.Pair x y) (number_in (out-Json (number_tree second)))) (number_in n))
    (opened_number first)
    ∙ ap (λ n. option_map (λ y. cell.Pair first y) (number_in n)) (opened_number second)

pub cell_back : (c : Cell) → cell_of (cell_tree c) ≡ c
cell_back c = ap (λ o. unwrap_or o cell.Null) (cell_reads c)

pub may_cell : (members : List Member) (name : List ℕ) (o : Option Cell) → member_value members name ≡ option_map cell_tree o →
    cell_at members name ≡ o
may_cell members name o here = may_found_always members name cell_in cell_tree o here cell_reads

pub may_cells : (members : List Member) (name : List ℕ) (o : Option (List Cell)) →
    member_value members name ≡ option_map (list_tree cell_tree) o → list_at cell_of members name ≡ o
may_cells members name o here = may_list_always members name cell_of cell_tree o here cell_back

-- ---- texts and numbers that may be null

pub maybe_text_back : (o : Option (List ℕ)) → maybe_text (or_null text_tree o) ≡ o
maybe_text_back None = ap text_in opened_null
maybe_text_back (Some text) = ap text_in (opened_text text)

pub maybe_number_back : (o : Option ℤ) → maybe_number (or_null number_tree o) ≡ o
maybe_number_back None = ap number_in opened_null
maybe_number_back (Some number) = ap number_in (opened_number number)

pub may_pair : (members : List Member) (name : List ℕ) (o : Option (List ℕ × List ℕ)) →
    member_value members name ≡ option_map pair_tree o → two_texts_at members name ≡ o
may_pair members name None here = ap (λ v. option_and_then two_texts (option_and_then (λ t. items_in (out-Json t)) v)) here
may_pair members name (Some texts) here =
    ap (option_and_then two_texts) (must_found members name items_in (pair_tree texts) (text_tree texts.0 ∷ text_tree texts.1 ∷ []) here
    (ap items_in (opened_list (text_tree texts.0 ∷ text_tree texts.1 ∷ []))))
    ∙ λ j. Some (text_back texts.0 j, text_back texts.1 j)

-- ---- codes

pub operation_reads : (code : ℕ) → IsCode operations code → named_in operation_named (code_tree operations code) ≡ Some code
operation_reads code stands = named_word operation_named (name_at operations code) ∙ code_of_name operations code stands refl

pub operation_back : (code : ℕ) → IsCode operations code → operation_of (code_tree operations code) ≡ code
operation_back code stands = ap (λ o. unwrap_or o 0) (operation_reads code stands)

pub unit_reads : (code : ℕ) → IsCode time_units code → named_in (index_of time_units) (code_tree time_units code) ≡ Some code
unit_reads code stands = named_word (index_of time_units) (name_at time_units code) ∙ code_of_name time_units code stands refl

pub scale_type_reads : (code : ℕ) → IsCode scale_kinds code → named_in (index_of scale_kinds) (code_tree scale_kinds code) ≡ Some code
scale_type_reads code stands = named_word (index_of scale_kinds) (name_at scale_kinds code) ∙ code_of_name scale_kinds code stands refl

pub must_operations : (members : List Member) (name : List ℕ) (ops : List ℕ) →
    member_value members name ≡ Some (list_tree (code_tree operations) ops) → Each (IsCode operations) ops →
    list_at operation_of members name ≡ Some ops
must_operations members name ops here stand =
    must_list members name operation_of (code_tree operations) ops here (each_of operation_back ops stand)

pub may_operations : (members : List Member) (name : List ℕ) (o : Option (List ℕ)) →
    member_value members name ≡ option_map (list_tree (code_tree operations)) o → IfSome o (Each (IsCode operations)) →
    list_at operation_of members name ≡ o
may_operations members name o here stand =
    may_list members name operation_of (code_tree operations) o here (some_of (each_of operation_back) o stand)

-- ---- expressions

pub must_expression : (members : List Member) (name : List ℕ) (e : Expr) →
    member_value members name ≡ Some (expression_tree e) → IsReading e → expression_at members name ≡ Some e
must_expression members name e here reads = ap (option_and_then expression_of) (must_text members name (text_of e) here) ∙ reads

pub needed_expression_back : (members : List Member) (name : List ℕ) (e : Expr) →
    member_value members name ≡ Some (expression_tree e) → IsReading e → needed_expression members name ≡ e
needed_expression_back members name e here reads = ap (λ o. unwrap_or o expr.Null) (must_expression members name e here reads)

pub may_expression : (members : List Member) (name : List ℕ) (o : Option Expr) →
    member_value members name ≡ option_map expression_tree o → IfSome o IsReading → expression_at members name ≡ o
may_expression members name None here reads = ap (option_and_then expression_of) (may_text members name None here)
may_expression members name (Some e) here reads = must_expression members name e here reads

-- the expression of an object that stands for its value
pub computed_back : (e : Expr) → IsReading e → expression_at (present (computed_slots e)) (codes "signal") ≡ Some e
computed_back e reads = must_expression (present (computed_slots e)) (codes "signal") e
    (found (computed_slots e) (codes "signal") refl) reads

pub may_signal : (members : List Member) (name : List ℕ) (o : Option Expr) →
    member_value members name ≡ option_map computed_tree o → IfSome o IsReading → signal_at members name ≡ o
may_signal members name None here reads =
    ap (λ v. option_and_then (λ inside. expression_at inside (codes "signal")) (option_and_then (λ t. members_in (out-Json t)) v)) here
may_signal members name (Some e) here reads =
    ap (option_and_then (λ inside. expression_at inside (codes "signal")))
    (must_found members name members_in (computed_tree e) (present (computed_slots e)) here
    (ap members_in (opened_object (computed_slots e))))
    ∙ computed_back e reads
