-- The start of a unit of time as an expression is null where the cell is no instant.
use Rattle.std.proofs.Common.{◌≡◌, ℕ, ◌*◌, Bool, true, false, ◌||◌, cond, Option, Some, None, List, [], ◌∷◌, ◌++◌, refl, ap, ◌∙◌, ℤ, pos, ◌*ℤ◌}
use Rattle.std.specs.Option.{option_map, option_map_or, option_and_then}
use Rattle.case_table.specs.declared.unit.PartOf.{PartOf}
use Rattle.case_table.specs.declared.unit.PartOf.TheVariants as part
use Rattle.case_table.specs.TimeUnits.{UnitRule, unit_rules}
use Rattle.fixed_num.specs.Number.{million}
use Rattle.cell_value.specs.declared.cell.Cell.{Cell}
use Rattle.cell_value.specs.declared.cell.Cell.TheVariants.{Null, Number}
use Rattle.cell_value.specs.Datum.{CellAt}
use Rattle.expr_syntax.specs.declared.expr.BinOp.TheVariants.{Add, Sub, Mul}
use Rattle.expr_syntax.specs.declared.expr.Expr.TheVariants as expr
use Rattle.expr_syntax.specs.declared.expr.Expr.{Expr}
use Rattle.expr_eval.specs.Builtins.{part_in, instant, instant_in}
use Rattle.expr_eval.specs.Numbers.{the_number, else_null, number_or_null}
use Rattle.expr_eval.specs.Operations.{binary_of}
use Rattle.expr_eval.specs.Table.{called, builtin_table}
use Rattle.expr_eval.specs.Value.{value_of}
use Rattle.expr_eval.specs.Values.{Values}
use Rattle.time_calc.specs.Instants.{instant_at}
use Rattle.time_calc.specs.Parts.{part_of, part as part_number_at}
use Rattle.time_calc.specs.TimeUnits.{keeps}
use Rattle.unit_plan.specs.declared.codes.TheConstants.{YEAR, QUARTER, MONTH, DATE, DAY, HOURS, MINUTES, SECONDS, DATETIME}
use Rattle.plan_kit.specs.Literals.{whole}
use Rattle.unit_plan.specs.Starts.{part_call, quarter_month, weekday_date, year_kept, month_kept, date_kept, time_kept, day_parts}
use Rattle.unit_plan.specs.Starts.{time_parts, start_expr, start_by}
use Rattle.unit_laws.specs.StartLaws.{OthersHaveNone}
use Rattle.unit_laws.proofs.StartLemmas.{value, value-Call, value-Binary, value-whole, value-part, called_part, by_test}

-- a part of a cell that is no instant
no_part : (p : PartOf) (c : Cell) → option_and_then instant_at (the_number c) ≡ None → part_in p (c ∷ []) ≡ Some Null
no_part p c none = by (the_number c) none
  where
    by : (o : Option ℤ) → option_and_then instant_at o ≡ None → else_null o (λ at. Some (number_or_null (part_number_at at p))) ≡ Some Null
    by None e = refl
    by (Some n) e = ap (λ i. Some (number_or_null (option_map (λ instant. pos (part_of instant p) *ℤ pos million) i))) e

-- null, or so many ones
abbrev null_or : Bool → ℕ → Cell
null_or kept k = cond kept Null (Number (pos (k * million)))

-- an instant of which a part that is kept is null
no_instant : (y m q d w h mi s : Bool) → (y || (m || (q || (d || (w || (h || (mi || s))))))) ≡ true
    → instant_in (null_or y 2012 ∷ cond m Null (null_or q 0) ∷ cond d Null (null_or w 1) ∷ null_or h 0 ∷ null_or mi 0 ∷ null_or s 0 ∷ []) ≡ None
no_instant true m q d w h mi s e = refl
no_instant false true q d w h mi s e = refl
no_instant false false true d w h mi s e = refl
no_instant false false false true w h mi s e = refl
no_instant false false false false true h mi s e = refl
no_instant false false false false false true mi s e = refl
no_instant false false false false false false true s e = refl
no_instant false false false false false false false true e = refl
no_instant false false false false false false false false e = absurd cc

called_of_cells : (a b c d e f : Cell) → called DATETIME (Some a ∷ Some b ∷ Some c ∷ Some d ∷ Some e ∷ Some f ∷ [])
    ≡ Some (number_or_null (instant_in (a ∷ b ∷ c ∷ d ∷ e ∷ f ∷ [])))
unfolding builtin_table
called_of_cells a b c d e f = refl

module _ (row : CellAt) (values : Values) (field : List ℕ) (kept : List PartOf) (none : option_and_then instant_at (the_number (row field)) ≡ None) where
  abbrev given : Expr → Option Cell
  given = value row values field

  choose : (b : Bool) (x y : Expr) (c d : Cell) → given x ≡ Some c → given y ≡ Some d → given (cond b x y) ≡ Some (cond b c d)
  choose true x y c d this other = this
  choose false x y c d this other = other

  told : (code : ℕ) (p : PartOf) → called code (Some (row field) ∷ []) ≡ part_in p (row field ∷ []) → given (part_call code field) ≡ Some Null
  told code p table = value-part row values field code ∙ table ∙ no_part p (row field) none

  year : given (year_kept kept field) ≡ Some (null_or (keeps kept part.Year) 2012)
  year = choose (keeps kept part.Year) (part_call YEAR field) (whole 2012) _ _
      (told YEAR part.Year (called_part (row field)).0) (value-whole row values field 2012)

  quarter : given (quarter_month field) ≡ Some Null
  quarter =
      let less : given (expr.Binary Sub (part_call QUARTER field) (whole 1)) ≡ Some Null =
      value-Binary row values field Sub (part_call QUARTER field) (whole 1)
      ∙ (λ j. binary_of Sub (told QUARTER part.Quarter (called_part (row field)).1 j) (value-whole row values field 1 j)) in
      value-Binary row values field Mul (expr.Binary Sub (part_call QUARTER field) (whole 1)) (whole 3)
      ∙ (λ j. binary_of Mul (less j) (value-whole row values field 3 j))

  month : given (month_kept kept field) ≡ Some (cond (keeps kept part.Month) Null (null_or (keeps kept part.Quarter) 0))
  month = choose (keeps kept part.Month) (part_call MONTH field) _ _ _ (told MONTH part.Month (called_part (row field)).2)
      (choose (keeps kept part.Quarter) (quarter_month field) (whole 0) _ _ quarter (value-whole row values field 0))

  weekday : given (weekday_date field) ≡ Some Null
  weekday =
      value-Binary row values field Add (whole 1) (part_call DAY field)
      ∙ (λ j. binary_of Add (value-whole row values field 1 j) (told DAY part.Day (called_part (row field)).4 j))

  date : given (date_kept kept field) ≡ Some (cond (keeps kept part.Date) Null (null_or (keeps kept part.Day) 1))
  date = choose (keeps kept part.Date) (part_call DATE field) _ _ _ (told DATE part.Date (called_part (row field)).3)
      (choose (keeps kept part.Day) (weekday_date field) (whole 1) _ _ weekday (value-whole row values field 1))

  clock : (p : PartOf) (code : ℕ) → called code (Some (row field) ∷ []) ≡ part_in p (row field ∷ [])
      → given (time_kept kept p code field) ≡ Some (null_or (keeps kept p) 0)
  clock p code table = choose (keeps kept p) (part_call code field) (whole 0) _ _ (told code p table) (value-whole row values field 0)

  nothing : (keeps kept part.Year || (keeps kept part.Month || (keeps kept part.Quarter || (keeps kept part.Date || (keeps kept part.Day
      || (keeps kept part.Hours || (keeps kept part.Minutes || keeps kept part.Seconds))))))) ≡ true → given (start_expr kept field) ≡ Some Null
  nothing some =
      value-Call row values field DATETIME (day_parts kept field ++ time_parts kept field)
      ∙ (λ j. called DATETIME (year j ∷ month j ∷ date j ∷ clock part.Hours HOURS (called_part (row field)).5 j
      ∷ clock part.Minutes MINUTES (called_part (row field)).6 j ∷ clock part.Seconds SECONDS (called_part (row field)).7 j ∷ []))
      ∙ called_of_cells _ _ _ _ _ _
      ∙ ap (λ o. Some (number_or_null o)) (no_instant (keeps kept part.Year) (keeps kept part.Month) (keeps kept part.Quarter) (keeps kept part.Date)
      (keeps kept part.Day) (keeps kept part.Hours) (keeps kept part.Minutes) (keeps kept part.Seconds) some)

-- each unit keeps a part
abbrev keeps_one : UnitRule → Bool
keeps_one r = keeps r.kept part.Year || (keeps r.kept part.Month || (keeps r.kept part.Quarter || (keeps r.kept part.Date || (keeps r.kept part.Day
    || (keeps r.kept part.Hours || (keeps r.kept part.Minutes || keeps r.kept part.Seconds))))))

pub others_have_none : OthersHaveNone
unfolding start_by
others_have_none row values code rule field known none =
    ap (λ o. value_of row values (option_map_or (λ (r : UnitRule). start_expr r.kept field) o expr.Null)) known
    ∙ nothing row values field rule.kept none (by_test keeps_one (unit_rules ++ unit_rules) code rule refl known)
