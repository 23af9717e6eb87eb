use Rattle.std.proofs.Common.{◌≡◌, Bool, false, IfOk, Option, map, sym, ap, ◌∙◌, subst}
use Rattle.std.specs.Option.{option_map, option_map_or}
use Rattle.vega_spec.specs.declared.spec.Group.{out-Group}
use Rattle.vega_spec.specs.declared.spec.VgMark.{out-VgMark}
use Rattle.vega_lists.specs.Products.{Products}
use Rattle.vega_copies.specs.Fitting.{folds_fit_in}
use Rattle.vega_copies.specs.inner.Outlined.{marks_in, marks_of}
use Rattle.vega_copies.specs.inner.Tested.{products_over, products_at}
use Rattle.vega_copies.proofs.folds.+folding.Goals as goal

pub group_folds_fit-returns : goal.group_folds_fit-returns
group_folds_fit-returns t c =
    let outer : Products = products_at (map (λ level. level.now) c.args.outer.now) in
    let marks = marks_of (marks_in (out-Group (out-VgMark c.args.mark.now).group)) in
    let levels = ap (map (λ level. level.now)) c.as_slice.ensures ∙ c.in_ok-levels.ensures in
    subst (λ (whole : Bool). IfOk c.folds_fit_in.result (λ fit. fit ≡ whole))
    ((λ i. folds_fit_in (products_at (levels i)) (marks_of (c.marks_in.ensures i)))
    ∙ ap (λ (found : Option Products). option_map_or (λ own. folds_fit_in own marks) found false)
    (ap (option_map (λ own. products_over own outer)) (sym c.in-Some.is) ∙ c.in_ok-own.ensures))
    c.folds_fit_in.ensures
