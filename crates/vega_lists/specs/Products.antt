-- How far folds multiply the rows of a data set.
use Rattle.std.specs.Prelude.{◌≡◌, refl, ℕ, ◌*◌, ◌≤◌, ◌<◌, Some, None, List, [], ◌∷◌, length, All, codes, if◌then◌else◌}
use Rattle.std.specs.Option.{option_map_or}
use Rattle.std.specs.Str.{bytes_eq}
use Rattle.cell_value.specs.declared.state.Key.{Key}
use Rattle.cell_value.specs.State.{most_rows}
use Rattle.vega_spec.specs.declared.data.DataSet.{DataSet}
use Rattle.vega_spec.specs.declared.transforms.Transform.{Transform}
use Rattle.vega_spec.specs.declared.transforms.Transform.TheVariants as vega
use Rattle.vega_lists.specs.Transforms.{transforms_of}

-- how many rows a transform makes of one at most
abbrev pub fold_length : Transform → ℕ
fold_length (vega.Filter f) = 1
fold_length (vega.Formula f) = 1
fold_length (vega.Extent e) = 1
fold_length (vega.Bin b) = 1
fold_length (vega.TimeUnit t) = 1
fold_length (vega.Aggregate a) = 1
fold_length (vega.JoinAggregate a) = 1
fold_length (vega.Stack s) = 1
fold_length (vega.Window w) = 1
fold_length (vega.Lookup l) = 1
fold_length (vega.Fold f) = length f.fields

-- the product of the lengths of the folds among transforms, and of what stands before them
abbrev pub fold_product : ℕ → List Transform → ℕ
fold_product before [] = before
fold_product before (transform ∷ others) = fold_product (before * fold_length transform) others

-- the same after each of the transforms
abbrev pub fold_products : ℕ → List Transform → List ℕ
fold_products before [] = []
fold_products before (transform ∷ others) =
    let product = before * fold_length transform in
    product ∷ fold_products product others

-- the greatest product that a path may have
abbrev pub most_folded : ℕ
most_folded = 8

-- after no transform is the product too great
abbrev pub ProductsFit : ℕ → List Transform → Type 0
ProductsFit before transforms = All (λ product. product ≤ most_folded) (fold_products before transforms)

-- the product on the path of the list for which each name stands: how many of its rows are made of one row of a source at most
abbrev pub Products : Type 0
Products = List ℕ → ℕ

-- no fold stands on a path
abbrev pub no_folds : Products
no_folds name = 1

abbrev pub with_product : List ℕ → ℕ → Products → Products
with_product name product products = λ other. if bytes_eq name other then product else products other

-- the product with which a data set begins: that of its source, 1 without one
abbrev pub begun_product : Products → DataSet → ℕ
begun_product products set = option_map_or products set.source 1

-- the products with that of a data set under its name
abbrev pub and_its_product : Products → DataSet → Products
and_its_product products set = with_product set.name (fold_product (begun_product products set) (transforms_of set)) products

-- On no path of data sets does the product of the lengths of the folds pass the greatest: each set's path is that of its source, which
-- stands before it, and then its own transforms.
abbrev pub FoldsFit : Products → List DataSet → Type 0
FoldsFit products [] = Unit {0}
FoldsFit products (set ∷ others) =
    ProductsFit (begun_product products set) (transforms_of set) × FoldsFit (and_its_product products set) others

-- the products with those of data sets under their names
abbrev pub products_after : Products → List DataSet → Products
products_after products [] = products
products_after products (set ∷ others) = products_after (and_its_product products set) others

-- keys such as a list has on a path with this product: there are at most so many times as many as a chart has rows, and the branches
-- are below the product
pub record KeysFit (product : ℕ) (keys : List Key) : Type 0 where
  pub few : length keys ≤ most_rows * product
  pub branches : All (λ (key : Key). key.branch < product) keys

-- The rules at work.

abbrev a_fold : List (List ℕ) → Transform
a_fold fields = vega.Fold record { fields = fields; as_ = None }

the_products_of_two_folds :
    fold_products 1 (a_fold (codes "a" ∷ codes "b" ∷ []) ∷ a_fold (codes "a" ∷ codes "b" ∷ codes "c" ∷ []) ∷ []) ≡ 2 ∷ 6 ∷ []
the_products_of_two_folds = refl

an_empty_fold_makes_it_none : fold_products 4 (a_fold [] ∷ a_fold (codes "a" ∷ codes "b" ∷ []) ∷ []) ≡ 0 ∷ 0 ∷ []
an_empty_fold_makes_it_none = refl

abbrev a_set : List ℕ → List ℕ → DataSet
a_set name source = record {
  name = name;
  values = None;
  url = None;
  format = None;
  source = Some source;
  transform = Some (a_fold (codes "a" ∷ codes "b" ∷ []) ∷ []);
}

those_of_the_source_count :
    and_its_product (and_its_product no_folds (a_set (codes "x") (codes "t"))) (a_set (codes "y") (codes "x")) (codes "y") ≡ 4
those_of_the_source_count = refl

those_of_outer_lists_count :
    products_after (with_product (codes "t") 3 no_folds) (a_set (codes "x") (codes "t") ∷ a_set (codes "y") (codes "x") ∷ []) (codes "y") ≡ 12
those_of_outer_lists_count = refl
