use Rattle.std.proofs.Common.{◌≡◌, Bool, false, IfOk, Option, map, sym, ap, ◌∙◌, subst}
use Rattle.std.specs.Option.{option_map_or}
use Rattle.vega_spec.specs.declared.spec.Group.{out-Group}
use Rattle.vega_lists.specs.Products.{no_folds}
use Rattle.vega_signals.specs.Signals.{data_of}
use Rattle.vega_copies.specs.Fitting.{folds_fit_in}
use Rattle.vega_copies.specs.inner.Outlined.{marks_in, marks_of}
use Rattle.vega_copies.specs.inner.Tested.{Places, products_over, products_at}
use Rattle.vega_copies.proofs.ProductLemmas.{fits_by}
use Rattle.vega_copies.proofs.folds.folds_fit.Goals as goal

pub returns-in_default : goal.returns-in_default
returns-in_default c =
    let marks = marks_of (marks_in (out-Group c.args.group.now)) in
    ap (λ (found : Option Places). option_map_or (λ own. folds_fit_in (products_over own no_folds) marks) found false) (sym c.in_default.is)
    ∙ fits_by (data_of (out-Group c.args.group.now)) c.data_of.result.now marks c.no_products.result c.in_ok-own.field-0
    (c.no_products.ensures no_folds) c.data_of.ensures c.in_ok-own.ensures

pub returns : goal.returns
returns c =
    let marks = marks_of (marks_in (out-Group c.args.group.now)) in
    let levels = ap (map (λ level. level.now)) c.as_slice.ensures ∙ c.in_ok-levels.ensures in
    subst (λ (whole : Bool). IfOk c.folds_fit_in.result (λ fit. fit ≡ whole))
    ((λ i. folds_fit_in (products_at (levels i)) (marks_of (c.marks_in.ensures i)))
    ∙ ap (λ (found : Option Places). option_map_or (λ own. folds_fit_in (products_over own no_folds) marks) found false) (sym c.in-Some.is)
    ∙ fits_by (data_of (out-Group c.args.group.now)) c.data_of.result.now marks c.no_products.result c.in_ok-own.field-0
    (c.no_products.ensures no_folds) c.data_of.ensures c.in_ok-own.ensures)
    c.folds_fit_in.ensures
