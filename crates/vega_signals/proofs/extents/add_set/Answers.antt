use Rattle.std.proofs.Common.{map, sym, ap, ◌∙◌, subst}
use Rattle.cell_value.specs.Datum.{datum_of}
use Rattle.vega_lists.specs.Transforms.{transforms_of}
use Rattle.vega_lists.specs.Scopes.{with_list}
use Rattle.vega_lists.specs.Held.{MayFold}
use Rattle.vega_signals.specs.Extents.{all_left}
use Rattle.vega_signals.specs.inner.Rows.{scope_by}
use Rattle.vega_signals.proofs.RowLemmas.{scope_of_put, rows_of_put}
use Rattle.vega_signals.proofs.ExtentLemmas.{begun_may_fold}
use Rattle.vega_signals.proofs.extents.add_set.Goals as goal

pub run-requires-clause-folds : goal.run-requires-clause-folds
run-requires-clause-folds g c =
    subst (MayFold c.in_ok-rows.rows) (sym c.transforms_of.ensures)
    (begun_may_fold c.args.sources.now c.requires.sources (g.O.ListReader.named c.args.outer.now) c.args.lists.now
    c.args.set.now c.in_ok-rows.rows c.requires.folds c.in_ok-rows.ensures.read)

pub returns-clause-scope : goal.returns-clause-scope
returns-clause-scope g c =
    let values = g.P.ParamReader.values c.args.params.now in
    let outer = g.O.ListReader.named c.args.outer.now in
    let scope = scope_by outer c.args.lists.now in
    scope_of_put outer c.args.lists.now c.put_rows.new.lists c.args.set.now.name c.in_ok-left.left c.in_ok-put_rows.ensures
    ∙ ap (λ rows. with_list c.args.set.now.name rows scope)
    (c.in_ok-left.ensures.read ∙ ap (λ ts. all_left values scope ts (map datum_of c.in_ok-rows.rows)) c.transforms_of.ensures
    ∙ ap (all_left values scope (transforms_of c.args.set.now)) c.in_ok-rows.ensures.read)

pub returns-clause-rows : goal.returns-clause-rows
returns-clause-rows g c =
    rows_of_put (g.O.ListReader.named c.args.outer.now) c.args.lists.now c.put_rows.new.lists c.args.set.now.name
    c.in_ok-left.left c.in_ok-put_rows.ensures c.in_ok-left.ensures.rows c.requires.lists
