-- Whether signals have places in an order, told by the greatest place of what each reads.
use Rattle.std.specs.Prelude.{ℕ, Bool, true, false, ◌&&◌, nat_le, nat_lt, max, Option, Some, None, List, [], ◌∷◌, unwrap_or, String, if◌then◌else◌}
use Rattle.std.specs.Option.{option_map_or}
use Rattle.std.specs.List.{list_all}
use Rattle.std.specs.Str.{bytes_eq}
use Rattle.std.specs.declared.alloc.Global.{Global}
use Rattle.std.specs.BTreeMap as tree
use Rattle.expr_syntax.specs.declared.expr.Expr.{Expr}
use Rattle.expr_reading.specs.Mentions.{parameters_in}
use Rattle.vega_spec.specs.declared.data.DataSet.{DataSet}
use Rattle.vega_spec.specs.declared.signals.Signal.{Signal}
use Rattle.vega_spec.specs.declared.transforms.Transform.{Transform}
use Rattle.vega_spec.specs.declared.transforms.Transform.TheVariants as vega
use Rattle.vega_lists.specs.Transforms.{transforms_of}
use Rattle.vega_signals.specs.Extents.{update_of, extent_asked}
use Rattle.vega_signals.specs.Needs.{extent_reads}

-- numbers by names
abbrev pub NumbersByName : Type 0
NumbersByName = tree.BTreeMap (String Global) ℕ

-- the number of a name, 0 where it has none
abbrev pub number_under : NumbersByName → List ℕ → ℕ
number_under numbers name = unwrap_or (tree.get_by_text numbers name) 0

abbrev pub Places : Type 0
Places = List ℕ → ℕ

-- a name has a place, and each other the one that it had
abbrev pub with_place : List ℕ → ℕ → Places → Places
with_place name place places = λ other. if bytes_eq name other then place else places other

-- the greatest place of some names, 0 where there are none
abbrev pub greatest : Places → List (List ℕ) → ℕ
greatest place [] = 0
greatest place (name ∷ names) = max (place name) (greatest place names)

-- whether a signal has a place up to `most` after those that it reads, of which the greatest is `before`
abbrev pub stands_after : Places → ℕ → List ℕ → ℕ → Bool
stands_after place most name before = nat_lt before (place name) && nat_le (place name) most

-- whether a computed signal does
abbrev pub update_stands : Places → ℕ → Signal → Option Expr → Bool
update_stands place most s update = option_map_or (λ e. stands_after place most s.name (greatest place (parameters_in e))) update true

abbrev pub computed_stands : Places → ℕ → Signal → Bool
computed_stands place most s = update_stands place most s (update_of s)

-- the greatest place of what a transform reads, where lists have that of what their rows read
abbrev pub transform_greatest : Places → Places → Transform → ℕ
transform_greatest place lists (vega.Filter f) = greatest place (parameters_in f.expr)
transform_greatest place lists (vega.Formula f) = greatest place (parameters_in f.expr)
transform_greatest place lists (vega.Extent e) = 0
transform_greatest place lists (vega.Bin b) = greatest place (extent_reads b.extent)
transform_greatest place lists (vega.TimeUnit t) = 0
transform_greatest place lists (vega.Aggregate a) = 0
transform_greatest place lists (vega.JoinAggregate a) = 0
transform_greatest place lists (vega.Stack s) = 0
transform_greatest place lists (vega.Window w) = 0
transform_greatest place lists (vega.Lookup l) = lists l.from
transform_greatest place lists (vega.Fold f) = 0

-- whether the signal of the extent for which a transform asks has a place after what was read before it
abbrev pub extent_stands : Places → ℕ → ℕ → Transform → Bool
extent_stands place most before transform = option_map_or (λ e. stands_after place most e.signal before) (extent_asked transform) true

-- the greatest place of what transforms and those before them read, where the signals of extents among them have places
abbrev pub read_along : Places → ℕ → Places → List Transform → ℕ → Option ℕ
read_along place most lists [] before = Some before
read_along place most lists (transform ∷ others) before =
    if extent_stands place most before transform
    then read_along place most lists others (max before (transform_greatest place lists transform))
    else None

-- the greatest place of what the rows read with which a data set begins
abbrev pub begun_greatest : Places → DataSet → ℕ
begun_greatest lists set = option_map_or lists set.source 0

-- the greatest place of what the rows of a data set read, where the signals of its extents have places
abbrev pub read_by : Places → ℕ → Places → DataSet → Option ℕ
read_by place most lists set = read_along place most lists (transforms_of set) (begun_greatest lists set)

-- whether the signals of the extents of data sets have places
abbrev pub sets_stand : Places → ℕ → Places → List DataSet → Bool
sets_stand place most lists [] = true
sets_stand place most lists (set ∷ others) =
    option_map_or (λ read. sets_stand place most (with_place set.name read lists) others) (read_by place most lists set) false

-- whether all signals of an object that aren't given have places
abbrev pub all_stand : Places → ℕ → List Signal → List DataSet → Bool
all_stand place most signals sets = list_all (computed_stands place most) signals && sets_stand place most (λ name. 0) sets
