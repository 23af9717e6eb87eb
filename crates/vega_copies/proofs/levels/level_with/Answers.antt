use Rattle.std.proofs.Common.{Some, Option, Err, map, sym, ◌∙◌, subst}
use Rattle.cell_value.specs.State.{dataset_of}
use Rattle.vega_spec.specs.declared.spec.Group.{out-Group}
use Rattle.vega_lists.specs.Held.{AreAllRows, scope_read}
use Rattle.vega_lists.specs.Inside.{rows_inside, AllKeysFit}
use Rattle.vega_lists.specs.Products.{products_after}
use Rattle.expr_eval.specs.Answers.{Evaluates}
use Rattle.vega_signals.specs.Settling.{settled_own}
use Rattle.vega_signals.specs.Signals.{data_of}
use Rattle.vega_copies.specs.Outlines.{object_here}
use Rattle.vega_copies.specs.Scopes.{Names, names_with}
use Rattle.vega_copies.specs.inner.Levels.{parts_over, rows_at, values_at, names_over, names_with_lists}
use Rattle.vega_copies.proofs.NameLemmas.{parts_are_rows, names_settled}
use Rattle.vega_copies.proofs.levels.level_with.Goals as goal

pub own_values-requires-clause-lists : goal.own_values-requires-clause-lists
own_values-requires-clause-lists c =
    subst (λ parts. AreAllRows (parts_over parts (rows_at c.args.outer.now.sources.now c.args.outer.now.levels.now))) (sym c.as_slice.ensures)
    (parts_are_rows c.args.parts _ c.requires.parts c.requires.outer.rows)

pub lists_with-requires-clause-parts : goal.lists_with-requires-clause-parts
lists_with-requires-clause-parts c =
    subst (λ parts. AreAllRows (parts_over parts (rows_at c.args.outer.now.sources.now c.args.outer.now.levels.now))) (sym c.as_slice.ensures)
    (parts_are_rows c.args.parts _ c.requires.parts c.requires.outer.rows)

pub returns-in-Ok-clause-value : goal.returns-in-Ok-clause-value
returns-in-Ok-clause-value c =
    let outer = c.args.outer.now in
    let o = object_here (out-Group c.args.group.now) in
    names_settled outer c.args.parts o c.in_ok-own.own c.args.given.now
    (c.in_ok-own.ensures
    ∙ (λ i. settled_own (map dataset_of outer.sources.now) (scope_read (parts_over (c.as_slice.ensures i) (rows_at outer.sources.now outer.levels.now)))
    (values_at outer.stores.now outer.levels.now) c.args.given.now (c.signals_of.ensures i) (c.data_of.ensures i)))
    ∙ sym (λ i. names_with (map dataset_of outer.sources.now) (names_over outer (c.as_slice.ensures i)) o (c.as_slice-2.ensures i))
    ∙ c.in-Ok.ensures.value
    ∙ (λ i. Some (names_with_lists outer (c.as_slice.ensures i) (c.as_slice-2.ensures i) c.in-Ok.lists))

pub returns-in-Err-clause-value : goal.returns-in-Err-clause-value
returns-in-Err-clause-value c =
    let outer = c.args.outer.now in
    let o = object_here (out-Group c.args.group.now) in
    subst (λ (found : Option Names). Evaluates {X = Names} (Err c.in-Err.error) found)
    (sym (names_settled outer c.args.parts o c.in_ok-own.own c.args.given.now
    (c.in_ok-own.ensures
    ∙ (λ i. settled_own (map dataset_of outer.sources.now) (scope_read (parts_over (c.as_slice.ensures i) (rows_at outer.sources.now outer.levels.now)))
    (values_at outer.stores.now outer.levels.now) c.args.given.now (c.signals_of.ensures i) (c.data_of.ensures i)))
    ∙ sym (λ i. names_with (map dataset_of outer.sources.now) (names_over outer (c.as_slice.ensures i)) o (c.as_slice-2.ensures i))))
    c.in-Err.ensures.value

pub returns-in-Ok-clause-folds : goal.returns-in-Ok-clause-folds
returns-in-Ok-clause-folds c = λ products fit.
    subst (λ parts. AllKeysFit (products_after products (data_of (out-Group c.args.group.now)))
    (rows_inside c.args.outer.now.sources.now (parts_over parts (rows_at c.args.outer.now.sources.now c.args.outer.now.levels.now)) c.in-Ok.lists))
    c.as_slice.ensures
    (c.in-Ok.ensures.folds products
    (subst (λ parts. AllKeysFit products (parts_over parts (rows_at c.args.outer.now.sources.now c.args.outer.now.levels.now)))
    (sym c.as_slice.ensures) fit))
