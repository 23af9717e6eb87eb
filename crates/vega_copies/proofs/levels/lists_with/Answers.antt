use Rattle.std.proofs.Common.{true, false, IfOk, map, sym, ◌∙◌, subst}
use Rattle.std.specs.List.{list_any}
use Rattle.cell_value.specs.State.{dataset_of}
use Rattle.vega_spec.specs.declared.spec.Group.{out-Group}
use Rattle.vega_lists.specs.Held.{scope_read}
use Rattle.vega_lists.specs.Inside.{AllKeysFit, GivesInside, rows_inside}
use Rattle.vega_lists.specs.Lists.{lists_of}
use Rattle.vega_lists.specs.Products.{products_after}
use Rattle.expr_eval.specs.Answers.{Evaluates}
use Rattle.vega_signals.specs.Lacking.{set_lacks}
use Rattle.vega_signals.specs.Settling.{values_inside}
use Rattle.vega_copies.specs.Outlines.{object_here}
use Rattle.vega_copies.specs.inner.Levels.{parts_over, rows_at, values_at, names_with_lists}
use Rattle.vega_copies.specs.inner.Results.{result_map}
use Rattle.vega_copies.proofs.NameLemmas.{names_by, names_listed}
use Rattle.vega_copies.proofs.levels.lists_with.Goals as goal

pub returns-then-branch-clause-value : goal.returns-then-branch-clause-value
returns-then-branch-clause-value c =
    let outer = c.args.over.now.outer in
    names_by outer c.args.over.now.parts.now (object_here (out-Group c.args.group.now)) c.args.own.now true
    (sym c.if-branch.true ∙ c.in_ok-any_set_lacks.ensures
    ∙ (λ i. list_any (set_lacks (values_inside c.args.own.now (values_at outer.stores.now outer.levels.now))) (c.data_of-sets.ensures i)))

pub returns-clause-value : goal.returns-clause-value
returns-clause-value c =
    let outer = c.args.over.now.outer in
    let parts = c.args.over.now.parts.now in
    let o = object_here (out-Group c.args.group.now) in
    subst (Evaluates (result_map (names_with_lists outer parts c.args.own.now) c.lists_inside.result))
    (sym (names_by outer parts o c.args.own.now false
    (sym c.if-branch.false ∙ c.in_ok-any_set_lacks.ensures
    ∙ (λ i. list_any (set_lacks (values_inside c.args.own.now (values_at outer.stores.now outer.levels.now))) (c.data_of-sets.ensures i)))))
    (names_listed outer parts o c.args.own.now c.lists_inside.result
    (subst (λ sets. GivesInside outer.sources.now (parts_over parts (rows_at outer.sources.now outer.levels.now)) c.lists_inside.result
    (lists_of (values_inside c.args.own.now (values_at outer.stores.now outer.levels.now)) (map dataset_of outer.sources.now)
    (scope_read (parts_over parts (rows_at outer.sources.now outer.levels.now))) sets))
    c.data_of-sets.ensures c.lists_inside.ensures.read))

pub returns-clause-folds : goal.returns-clause-folds
returns-clause-folds c = λ products fit.
    subst (λ sets. IfOk c.lists_inside.result (λ lists. AllKeysFit (products_after products sets) (rows_inside c.args.over.now.outer.sources.now
    (parts_over c.args.over.now.parts.now (rows_at c.args.over.now.outer.sources.now c.args.over.now.outer.levels.now)) lists)))
    c.data_of-sets.ensures (c.lists_inside.ensures.folds products fit)
