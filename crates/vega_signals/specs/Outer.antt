-- Lists of rows for which names stand round an object.
use Rattle.std.specs.Prelude.{ℕ, List}
use Rattle.cell_value.specs.declared.state.Keyed.{Keyed}
use Rattle.plain_rows.specs.Rows.{keys_of}
use Rattle.vega_spec.specs.declared.data.DataSet.{DataSet}
use Rattle.vega_lists.specs.Products.{Products, KeysFit, FoldsFit}

-- the rows for which each name stands
abbrev pub Listed : Type 0
Listed = List ℕ → List Keyed

-- they have keys such as those on paths with some products, after which no fold of the data sets makes a product too great
abbrev pub ListedMayFold : Listed → List DataSet → Type 0
ListedMayFold named sets = (products : Products) × ((name : List ℕ) → KeysFit (products name) (keys_of (named name))) × FoldsFit products sets
