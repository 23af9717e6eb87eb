-- Whether the folds of data sets fit, those in groups among them: on no path of data sets does the product of the lengths of folds pass the greatest.
use Rattle.std.specs.Prelude.{◌≡◌, refl, ℕ, ◌*◌, ◌&&◌, nat_le, Bool, true, false, Option, Some, None, List, [], ◌∷◌, zip, if◌then◌else◌, codes}
use Rattle.std.specs.Option.{option_map, option_map_or}
use Rattle.fixed_num.specs.Ranges.{◌>>=◌}
use Rattle.vega_spec.specs.declared.data.DataSet.{DataSet}
use Rattle.vega_spec.specs.declared.marks.Facet.{Facet}
use Rattle.vega_spec.specs.declared.transforms.Transform.{Transform}
use Rattle.vega_spec.specs.declared.transforms.Transform.TheVariants as vega
use Rattle.vega_lists.specs.Orders.{texts_in}
use Rattle.vega_lists.specs.Transforms.{transforms_of}
use Rattle.vega_lists.specs.Products.{Products, fold_length, most_folded, with_product, begun_product, no_folds}
use Rattle.vega_copies.specs.Outlines.{Marks, NoMarks, AMark, AGroup, bare}

-- the product after transforms; None where after one of them it is too great
abbrev pub fitted : ℕ → List Transform → Option ℕ
fitted before [] = Some before
fitted before (t ∷ ts) = if nat_le (before * fold_length t) most_folded then fitted (before * fold_length t) ts else None

-- the products with that of a data set; None where its folds don't fit
abbrev pub and_fitted : Products → DataSet → Option Products
and_fitted products set = option_map (λ p. with_product set.name p products) (fitted (begun_product products set) (transforms_of set))

-- the products after data sets, each over those before it; None where the folds of one don't fit
abbrev pub products_fitted : Products → List DataSet → Option Products
products_fitted products [] = Some products
products_fitted products (set ∷ others) = and_fitted products set >>= λ next. products_fitted next others

-- the products on the paths of lists where some names stand for parts of others: a part is on the path of its list
abbrev pub with_part_products : List (List ℕ × List ℕ) → Products → Products
with_part_products [] products = products
with_part_products (named ∷ others) products = with_product named.0 (products named.1) (with_part_products others products)

abbrev pub products_in_copy : Option Facet → Products → Products
products_in_copy None products = products
products_in_copy (Some f) products = with_part_products (zip (texts_in f.name) (texts_in f.data_)) products

-- whether the folds of the groups among marks fit, over the products round them
abbrev pub folds_fit_in : Products → Marks → Bool
folds_fit_in products NoMarks = true
folds_fit_in products (AMark unit mark others) = folds_fit_in products others
folds_fit_in products (AGroup o inside others) =
    option_map_or (λ next. folds_fit_in next inside) (products_fitted (products_in_copy o.facet products) o.sets) false
    && folds_fit_in products others

-- whether the folds of an object fit, and those of the groups in it
abbrev pub folds_fit : List DataSet → Marks → Bool
folds_fit sets marks = option_map_or (λ next. folds_fit_in next marks) (products_fitted no_folds sets) false

-- The rules at work.

abbrev the_product : List ℕ → ℕ
the_product = with_part_products ((codes "part", codes "t") ∷ []) (with_product (codes "t") 6 no_folds)

parts_are_on_the_paths_of_their_lists : (the_product (codes "part") ≡ 6) × (the_product (codes "u") ≡ 1)
parts_are_on_the_paths_of_their_lists = (refl, refl)

-- a data set that folds two fields of another
abbrev a_set : List ℕ → List ℕ → DataSet
a_set name source = record {
  name = name;
  values = None;
  url = None;
  format = None;
  source = Some source;
  transform = Some (vega.Fold record { fields = codes "a" ∷ codes "b" ∷ []; as_ = None } ∷ []);
}

-- a group with the first set, and in it a group with the second
abbrev two_groups : DataSet → DataSet → Marks
two_groups first second = AGroup (record bare { sets = first ∷ [] }) (AGroup (record bare { sets = second ∷ [] }) NoMarks NoMarks) NoMarks

-- two folds of two fields in groups, one in the other, after this product
abbrev after : ℕ → Bool
after product = folds_fit_in (with_product (codes "t") product no_folds) (two_groups (a_set (codes "u") (codes "t")) (a_set (codes "v") (codes "u")))

folds_of_groups_count : (after 1 ≡ true) × (after 2 ≡ true) × (after 3 ≡ false)
folds_of_groups_count = (refl, refl, refl)
