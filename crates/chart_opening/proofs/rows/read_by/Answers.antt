use Rattle.chart_opening.proofs.RowLemmas.{of_values, of_file, of_nothing}
use Rattle.chart_opening.proofs.rows.read_by.Goals as goal

pub returns-in_ok-rows_of_values-in-Some : goal.returns-in_ok-rows_of_values-in-Some
returns-in_ok-rows_of_values-in-Some g c =
    of_values _ _ c.args.set.now c.in-Some.values c.in_ok-rows_of_values-in-Some.field-0 c.in-Some.is c.in_ok-rows_of_values-in-Some.ensures

pub returns-in-Some-url : goal.returns-in-Some-url
returns-in-Some-url g c =
    of_file _ _ _ _ c.read_rows.result c.args.set.now c.in-Some-url.url c.as_str.result.now c.in-None.is c.in-Some-url.is c.as_str.ensures
    c.read_rows.ensures

pub returns-in-None-url : goal.returns-in-None-url
returns-in-None-url g c = of_nothing _ _ c.args.set.now c.new.result c.in-None.is c.in-None-url.is c.new.ensures
