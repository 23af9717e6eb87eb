use Rattle.std.proofs.Common.{◌≡◌, ◌+◌, ◌-◌, length, arith, ap}
use Rattle.plain_engine.specs.inner.Sources.{rows_at, values_over}
use Rattle.plain_engine.proofs.Changes.{few_stay, few_here, past_is}
use Rattle.plain_engine.proofs.sources.is_past.Goals as goal

pub overflow_sub-others : goal.overflow_sub-others
overflow_sub-others c =
    let few = few_here c.args.sources.now c.args.index in
    let rows = ap length c.rows_at-rows.ensures in
    omega (arith, few, rows, c.count_rows-all.ensures)

pub overflow_add-others : goal.overflow_add-others
overflow_add-others c =
    let chart = c.args.chart.now in
    let few = few_here c.args.sources.now c.args.index in
    let rows = ap length c.rows_at-rows.ensures in
    let stay = few_stay (values_over chart.stores.now chart.signals.now) c.args.change.now (rows_at c.args.sources.now c.args.index) in
    omega (arith, few, rows, c.count_rows-all.ensures, stay, c.requires.staying, c.requires.state.few_rows)

pub is_past_limit-requires-clause-few : goal.is_past_limit-requires-clause-few
is_past_limit-requires-clause-few c =
    let chart = c.args.chart.now in
    let few = few_here c.args.sources.now c.args.index in
    let rows = ap length c.rows_at-rows.ensures in
    let stay = few_stay (values_over chart.stores.now chart.signals.now) c.args.change.now (rows_at c.args.sources.now c.args.index) in
    omega (arith, few, rows, c.count_rows-all.ensures, stay, c.requires.staying, c.requires.state.few_rows)

pub returns : goal.returns
returns c =
    let chart = c.args.chart.now in
    let sources = c.args.sources.now in
    let few = few_here sources c.args.index in
    let rows = ap length c.rows_at-rows.ensures in
    let all = c.count_rows-all.ensures in
    let others : (c.count_rows-all.result - length c.rows_at-rows.result.now) + length (rows_at sources c.args.index) ≡ c.count_rows-all.result =
    omega (arith, all, few, rows) in
    past_is chart.stores.now chart.next_id chart.params.now chart.signals.now sources c.args.index c.args.change.now c.count_rows-all.result
    (c.count_rows-all.result - length c.rows_at-rows.result.now) c.args.staying c.len.result c.is_past_limit.result all others c.requires.staying
    c.len.ensures c.is_past_limit.ensures
