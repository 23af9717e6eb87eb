-- Where the test of folds holds, they fit.
use Rattle.std.proofs.Common.{◌≡◌, ℕ, ◌*◌, ◌≤◌, Bool, true, false, if◌then◌else◌, List, [], ◌∷◌, Option, Some, None, nat_le, refl, sym, ap, subst, ◌∙◌, arith}
use Rattle.std.specs.Option.{option_map, option_map_or}
use Rattle.std.specs.List.{All}
use Rattle.std.proofs.lemmas.Bool.{false≢true, and_parts as both}
use Rattle.std.proofs.lemmas.Bool.Decides.{nat_tests}
use Rattle.std.proofs.lemmas.Option.{same_Some}
use Rattle.std.proofs.lemmas.List.Elements.{All-cons, All-nil}
use Rattle.fixed_num.specs.Ranges.{◌>>=◌}
use Rattle.vega_spec.specs.declared.data.DataSet.{DataSet}
use Rattle.vega_spec.specs.declared.transforms.Transform.{Transform}
use Rattle.vega_lists.specs.Transforms.{transforms_of}
use Rattle.vega_lists.specs.Products.{Products, no_folds, fold_length, fold_product, fold_products, most_folded, ProductsFit, FoldsFit}
use Rattle.vega_lists.specs.Products.{with_product, begun_product, and_its_product, products_after}
use Rattle.vega_copies.specs.Outlines.{Marks, NoMarks, AMark, AGroup}
use Rattle.vega_copies.specs.Fitting.{fitted, products_fitted, products_in_copy, folds_fit_in, folds_fit}
use Rattle.vega_copies.specs.inner.Kept.{FoldsFitIn}

abbrev pub is_small : ℕ → Type 0
is_small product = product ≤ most_folded

small : (n : ℕ) → true ≡ nat_le n most_folded → n ≤ most_folded
small n is = grind (arith, nat_tests)

-- one transform more, by its test
one_more : (product : ℕ) (ts : List Transform) (p : ℕ) (b : Bool) → b ≡ nat_le product most_folded → (if b then fitted product ts else None) ≡ Some p
    → (fitted product ts ≡ Some p → ProductsFit product ts × (p ≡ fold_product product ts))
    → All is_small (product ∷ fold_products product ts) × (p ≡ fold_product product ts)
one_more product ts p true is found rest =
    let others = rest found in (All-cons is_small product (fold_products product ts) (small product is) others.0, others.1)
one_more product ts p false is found rest = cc

-- the product that is found is that of the transforms, and none before it is too great
fits : (before : ℕ) (ts : List Transform) (p : ℕ) → fitted before ts ≡ Some p → ProductsFit before ts × (p ≡ fold_product before ts)
fits before [] p e = (All-nil is_small, sym (same_Some before p e))
fits before (t ∷ ts) p e =
    one_more (before * fold_length t) ts p (nat_le (before * fold_length t) most_folded) refl e (fits (before * fold_length t) ts p)

-- one data set more, by what its transforms give
one_set : (products : Products) (set : DataSet) (others : List DataSet) (after : Products) (o : Option ℕ)
    → o ≡ fitted (begun_product products set) (transforms_of set)
    → (option_map (λ p. with_product set.name p products) o >>= λ next. products_fitted next others) ≡ Some after
    → (products_fitted (and_its_product products set) others ≡ Some after
    → FoldsFit (and_its_product products set) others × (after ≡ products_after (and_its_product products set) others))
    → FoldsFit products (set ∷ others) × (after ≡ products_after products (set ∷ others))
one_set products set others after None is found rest = absurd (cc)
one_set products set others after (Some p) is found rest =
    let h = fits (begun_product products set) (transforms_of set) p (sym is) in
    let more = rest (ap (λ q. products_fitted (with_product set.name q products) others) (sym h.1) ∙ found) in
    ((h.0, more.0), more.1)

-- the products that are found are those after the data sets, whose folds fit
pub sets_fit : (products : Products) (sets : List DataSet) (after : Products) → products_fitted products sets ≡ Some after
    → FoldsFit products sets × (after ≡ products_after products sets)
sets_fit products [] after e = (tt, sym (same_Some products after e))
sets_fit products (set ∷ others) after e =
    one_set products set others after (fitted (begun_product products set) (transforms_of set)) refl e
    (sets_fit (and_its_product products set) others after)

-- an object, by what its data sets give
one_object : (products : Products) (sets : List DataSet) (inside : Marks) (found : Option Products) → found ≡ products_fitted products sets
    → option_map_or (λ next. folds_fit_in next inside) found false ≡ true
    → ((next : Products) → folds_fit_in next inside ≡ true → FoldsFitIn next inside)
    → FoldsFit products sets × FoldsFitIn (products_after products sets) inside
one_object products sets inside None is e rest = absurd (false≢true e)
one_object products sets inside (Some next) is e rest =
    let h = sets_fit products sets next (sym is) in (h.0, subst (λ after. FoldsFitIn after inside) h.1 (rest next e))

marks_fit : (products : Products) (marks : Marks) → folds_fit_in products marks ≡ true → FoldsFitIn products marks
marks_fit products NoMarks e = tt
marks_fit products (AMark unit mark others) e = marks_fit products others e
marks_fit products (AGroup o inside others) e =
    let here = products_in_copy o.facet products in
    let parts = both (option_map_or (λ next. folds_fit_in next inside) (products_fitted here o.sets) false) (folds_fit_in products others) e in
    let own = one_object here o.sets inside (products_fitted here o.sets) refl parts.0 (λ next. marks_fit next inside) in
    (own.0, own.1, marks_fit products others parts.1)

pub law : (sets : List DataSet) (marks : Marks) → folds_fit sets marks ≡ true
    → FoldsFit no_folds sets × FoldsFitIn (products_after no_folds sets) marks
law sets marks e = one_object no_folds sets marks (products_fitted no_folds sets) refl e (λ next. marks_fit next marks)
