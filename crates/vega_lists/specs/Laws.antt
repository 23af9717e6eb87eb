-- What holds of the sources of states, and of the rows of data sets.
use Rattle.std.specs.Prelude.{◌≡◌, Some, List, map}
use Rattle.cell_value.specs.declared.state.ChartState.{ChartState}
use Rattle.cell_value.specs.declared.state.Named.{Named}
use Rattle.cell_value.specs.State.{IsState, state_of, dataset_of}
use Rattle.expr_eval.specs.Values.{Values}
use Rattle.vega_spec.specs.declared.data.DataSet.{DataSet}
use Rattle.vega_lists.specs.Products.{Products, products_after}
use Rattle.vega_lists.specs.Lists.{lists_of}
use Rattle.vega_lists.specs.Held.{scope_read, AreSources}
use Rattle.vega_lists.specs.Inside.{RowsByName, AllKeysFit}

-- the sources of a state are such as named lists ask of them
abbrev pub SourcesOfStates : Type 0
SourcesOfStates = (st : ChartState) → IsState (state_of st) → AreSources st.sources

-- where names stand for what data sets give, their rows have keys such as the products of the data sets allow
abbrev pub KeysOfSets : Type 0
KeysOfSets = (values : Values) (sources : List Named) (sets : List DataSet) (outer rows : RowsByName) (products : Products) → AreSources sources
    → AllKeysFit products outer → lists_of values (map dataset_of sources) (scope_read outer) sets ≡ Some (scope_read rows)
    → AllKeysFit (products_after products sets) rows
