-- Which signals need which. What is read of stores isn't among their needs, as no signal gives a store.
use Rattle.std.specs.Prelude.{ℕ, ◌<◌, ◌≤◌, List, [], ◌∷◌, ◌++◌, length, flat_map, All, if◌then◌else◌}
use Rattle.std.specs.Option.{option_map_or}
use Rattle.std.specs.Str.{bytes_eq}
use Rattle.expr_reading.specs.Mentions.{parameters_in}
use Rattle.vega_spec.specs.declared.data.DataSet.{DataSet}
use Rattle.vega_spec.specs.declared.signals.Signal.{Signal}
use Rattle.vega_spec.specs.declared.transforms.BinExtent.{BinExtent}
use Rattle.vega_spec.specs.declared.transforms.BinExtent.TheVariants as bounds
use Rattle.vega_spec.specs.declared.transforms.Transform.{Transform}
use Rattle.vega_spec.specs.declared.transforms.Transform.TheVariants as vega
use Rattle.vega_lists.specs.Transforms.{transforms_of}
use Rattle.vega_signals.specs.Extents.{update_of, is_computed, extent_asked}
use Rattle.vega_signals.specs.Settling.{own_names}

-- a signal with those that it needs by itself
abbrev pub Need : Type 0
Need = List ℕ × List (List ℕ)

-- the signal over whose value bins reach
abbrev pub extent_reads : BinExtent → List (List ℕ)
extent_reads (bounds.Pair a b) = []
extent_reads (bounds.Signal name) = name ∷ []

-- the names of signals that the rows of each list read, by itself or through the lists from which they come
abbrev pub Reads : Type 0
Reads = List ℕ → List (List ℕ)

abbrev pub no_reads : Reads
no_reads name = []

abbrev pub with_reads : List ℕ → List (List ℕ) → Reads → Reads
with_reads name names reads = λ other. if bytes_eq name other then names else reads other

-- the names of signals that a transform reads, those of the list that it looks up among them
abbrev pub transform_reads : Reads → Transform → List (List ℕ)
transform_reads reads (vega.Filter f) = parameters_in f.expr
transform_reads reads (vega.Formula f) = parameters_in f.expr
transform_reads reads (vega.Extent e) = []
transform_reads reads (vega.Bin b) = extent_reads b.extent
transform_reads reads (vega.TimeUnit t) = []
transform_reads reads (vega.Aggregate a) = []
transform_reads reads (vega.JoinAggregate a) = []
transform_reads reads (vega.Stack s) = []
transform_reads reads (vega.Window w) = []
transform_reads reads (vega.Lookup l) = reads l.from
transform_reads reads (vega.Fold f) = []

-- the names that transforms read, and those that were read before them
abbrev pub all_reads : Reads → List Transform → List (List ℕ) → List (List ℕ)
all_reads reads [] before = before
all_reads reads (transform ∷ others) before = all_reads reads others (before ++ transform_reads reads transform)

-- the names that the rows read with which a data set begins
abbrev pub begun_reads : Reads → DataSet → List (List ℕ)
begun_reads reads set = option_map_or reads set.source []

-- the signals of extents among transforms: each needs what the transforms before it read
abbrev pub extent_needs : Reads → List Transform → List (List ℕ) → List Need
extent_needs reads [] before = []
extent_needs reads (transform ∷ others) before =
    option_map_or (λ e. (e.signal, before) ∷ []) (extent_asked transform) [] ++ extent_needs reads others (before ++ transform_reads reads transform)

-- those of data sets, each read where the lists before it have their names
abbrev pub set_needs : Reads → List DataSet → List Need
set_needs reads [] = []
set_needs reads (set ∷ others) =
    extent_needs reads (transforms_of set) (begun_reads reads set)
    ++ set_needs (with_reads set.name (all_reads reads (transforms_of set) (begun_reads reads set)) reads) others

-- a computed signal needs those of which its update mentions the value or a member
abbrev pub computed_needs : Signal → List Need
computed_needs s = if is_computed s then (s.name, option_map_or parameters_in (update_of s) []) ∷ [] else []

-- the signals of an object that aren't given, each with those of its own that it needs by itself
abbrev pub own_needs : List Signal → List DataSet → List Need
own_needs signals sets = flat_map computed_needs signals ++ set_needs no_reads sets

-- a signal has a place from 1 on, and what it needs has lesser places
pub record IsPlaced (place : List ℕ → ℕ) (most : ℕ) (need : Need) : Type 0 where
  pub from_one : 1 ≤ place need.0
  pub bounded : place need.0 ≤ most
  pub lesser : All (λ name. place name < place need.0) need.1

-- The signals of an object stand in an order, in which each needs only given ones, those of outer objects and those before it. The places
-- of those that aren't given are counted from 1 to their number.
abbrev pub AreInOrder : List Signal → List DataSet → (List ℕ → ℕ) → Type 0
AreInOrder signals sets place = All (IsPlaced place (length (own_names signals sets))) (own_needs signals sets)
