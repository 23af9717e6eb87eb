-- Data sets whose names rise by what they are for: each reads lists before it, so in the end its name stands for what it makes of what names stand for then.
use Rattle.std.proofs.Common.{◌≡◌, refl, sym, ap, ◌∙◌, ℕ, suc, ◌+◌, ◌*◌, ◌^◌, ◌<◌, ◌≤◌, ◌≢◌, ◌⊎◌, inl, inr, true, Option, Some, None, List, [], ◌∷◌, ◌++◌}
use Rattle.std.proofs.Common.{All, arith, le_refl}
use Rattle.std.specs.Option.{option_map_or}
use Rattle.std.proofs.lemmas.List.Elements.{All-nil, All-cons, All-head, All-tail}
use Rattle.fixed_num.specs.Ranges.{◌>>=◌}
use Rattle.cell_value.specs.Datum.{Datum}
use Rattle.cell_value.specs.State.{Dataset}
use Rattle.expr_eval.specs.Values.{Values}
use Rattle.plain_rows.specs.Lookups.{data_looked_up}
use Rattle.vega_spec.specs.declared.data.DataSet.{DataSet}
use Rattle.vega_spec.specs.declared.transforms.Transform.{Transform}
use Rattle.vega_spec.specs.declared.transforms.Transform.TheVariants as vega
use Rattle.vega_lists.specs.Lists.{begun_rows, list_of, lists_of}
use Rattle.vega_lists.specs.Scopes.{Scope, with_list, list_named}
use Rattle.vega_lists.specs.Settings.{lookup_settings}
use Rattle.vega_lists.specs.Transforms.{all_transformed, transformed, transforms_of}
use Rattle.compiled_rows.specs.Names.{MadeName, NoneName, UnitName, BegunName, CellsName, RanksName, CodesName, OuterName, OrdersName, KeysName, CellColumn}
use Rattle.compiled_rows.specs.Names.{RankColumn, KeyColumn, MarkName, made_name, HasPlaces}
use Rattle.compiled_rows.proofs.NameLemmas.{made_names_differ}
use Rattle.compiled_rows.proofs.ReadLemmas.{elsewhere, there}
use Rattle.compiled_rows.proofs.StandLemmas.{IsOther, begins_own, kept_through, no_value, other_apart}

-- ---- what a data set reads

abbrev pub looked : Transform → List (List ℕ)
looked (vega.Filter f) = []
looked (vega.Formula f) = []
looked (vega.Extent e) = []
looked (vega.Bin b) = []
looked (vega.TimeUnit t) = []
looked (vega.Aggregate a) = []
looked (vega.JoinAggregate a) = []
looked (vega.Stack s) = []
looked (vega.Window w) = []
looked (vega.Lookup l) = l.from ∷ []
looked (vega.Fold f) = []

abbrev Same : Scope → Scope → List ℕ → Type 0
Same scope other name = scope name ≡ other name

same_made : (values : Values) (scope other : Scope) (t : Transform) (rows : List Datum) → All (Same scope other) (looked t)
    → transformed values scope t rows ≡ transformed values other t rows
same_made values scope other (vega.Filter f) rows same = refl
same_made values scope other (vega.Formula f) rows same = refl
same_made values scope other (vega.Extent e) rows same = refl
same_made values scope other (vega.Bin b) rows same = refl
same_made values scope other (vega.TimeUnit t) rows same = refl
same_made values scope other (vega.Aggregate a) rows same = refl
same_made values scope other (vega.JoinAggregate a) rows same = refl
same_made values scope other (vega.Stack s) rows same = refl
same_made values scope other (vega.Window w) rows same = refl
same_made values scope other (vega.Lookup l) rows same =
    ap (λ found. Some (data_looked_up (lookup_settings l) found rows)) (All-head (Same scope other) l.from [] same)
same_made values scope other (vega.Fold f) rows same = refl

all_same_made : (values : Values) (scope other : Scope) (ts : List Transform) (rows : List Datum) → All (λ t. All (Same scope other) (looked t)) ts
    → all_transformed values scope ts rows ≡ all_transformed values other ts rows
all_same_made values scope other [] rows same = refl
all_same_made values scope other (t ∷ ts) rows same =
    ap (λ o. o >>= all_transformed values scope ts) (same_made values scope other t rows (All-head (λ t. All (Same scope other) (looked t)) t ts same))
    ∙ ap (λ go. transformed values other t rows >>= go)
    (λ i made. all_same_made values scope other ts made (All-tail (λ t. All (Same scope other) (looked t)) t ts same) i)

-- ---- the order of lists

-- what a list is for, as a number that rises along the lists behind those of units: of each scale codes, cells and ranks, of each facet orders and
-- keys, and those for drags
abbrev pub place : MadeName → ℕ
place NoneName = 0
place (UnitName n) = 0
place (BegunName n) = 0
place (CodesName n m) = (n * 4) * 2 ^ 64 + m + 1
place (CellsName n m) = (n * 4 + 1) * 2 ^ 64 + m + 1
place (RanksName n) = (n * 4 + 2) * 2 ^ 64 + 1
place (OrdersName n m) = (2 ^ 64 * 4 + n * 4) * 2 ^ 64 + m + 1
place (KeysName n m) = (2 ^ 64 * 4 + n * 4 + 1) * 2 ^ 64 + m + 1
place (OuterName n m) = (2 ^ 64 * 8 + n * 4) * 2 ^ 64 + m + 1
place CellColumn = 0
place RankColumn = 0
place (KeyColumn n) = 0
place (MarkName n) = 0

-- a name of a list that stands before this place
pub record IsBefore (stem : List ℕ) (at : ℕ) (name : List ℕ) : Type 0 where
  pub named : MadeName
  pub fits : HasPlaces named
  pub is : name ≡ made_name stem named
  pub less : place named < at

-- or that of a unit, or of its rows before the aggregate
pub record IsOfUnit (stem name : List ℕ) : Type 0 where
  pub byte : ℕ
  pub rest : List ℕ
  pub is : name ≡ stem ++ byte ∷ rest
  pub own : begins_own byte ≡ true

abbrev pub MayRead : List ℕ → ℕ → List ℕ → Type 0
MayRead stem at name = IsOfUnit stem name ⊎ IsBefore stem at name

-- a data set in its place
pub record IsPlaced (stem : List ℕ) (set : DataSet) : Type 0 where
  pub named : MadeName
  pub fits : HasPlaces named
  pub is : set.name ≡ made_name stem named
  pub other : IsOther stem set.name
  pub source : List ℕ
  pub begins : set.source ≡ Some source
  pub reads_source : MayRead stem (place named) source
  pub reads : All (λ t. All (MayRead stem (place named)) (looked t)) (transforms_of set)

-- data sets whose places rise between two bounds
abbrev pub Rise : List ℕ → ℕ → ℕ → List DataSet → Type 0
Rise stem low high [] = low ≤ high
Rise stem low high (set ∷ sets) = (at : IsPlaced stem set) × (low ≤ place at.named) × Rise stem (suc (place at.named)) high sets

-- from a lesser bound on, and up to a greater one
pub lower : (stem : List ℕ) (low next high : ℕ) (sets : List DataSet) → low ≤ next → Rise stem next high sets → Rise stem low high sets
lower stem low next high [] less rise = let last : next ≤ high = rise in omega (arith, less, last)
lower stem low next high (set ∷ sets) less rise = (rise.0, omega (arith, less, rise.1), rise.2)

pub join : (stem : List ℕ) (low mid high : ℕ) (first second : List DataSet) → Rise stem low mid first → Rise stem mid high second
    → Rise stem low high (first ++ second)
join stem low mid high [] second a b = lower stem low mid high second a b
join stem low mid high (set ∷ first) second a b = (a.0, a.1, join stem (suc (place a.0.named)) mid high first second a.2 b)

-- ---- later data sets

-- a name before all of some data sets is none of theirs
later_apart : (stem : List ℕ) (low high : ℕ) (sets : List DataSet) (at : ℕ) (name : List ℕ) → MayRead stem at name → at ≤ low → Rise stem low high sets
    → All (λ (set : DataSet). set.name ≢ name) sets
later_apart stem low high [] at name may less rise = All-nil (λ (set : DataSet). set.name ≢ name)
later_apart stem low high (set ∷ sets) at name may less rise =
    All-cons (λ (s : DataSet). s.name ≢ name) set sets (apart may)
    (later_apart stem (suc (place rise.0.named)) high sets at name may (omega (arith, less, rise.1)) rise.2)
  where
    apart : MayRead stem at name → set.name ≢ name
    apart (inl unit) same = other_apart stem set.name unit.byte unit.rest unit.own rise.0.other (same ∙ unit.is)
    apart (inr early) same =
        let one : rise.0.named ≡ early.named
        = made_names_differ stem rise.0.named early.named rise.0.fits early.fits (sym rise.0.is ∙ same ∙ early.is) in
        omega (arith, less, rise.1, early.less, ap place one)

-- what a data set reads is the same behind it and those after it
still : (values : Values) (sources : List Dataset) (stem : List ℕ) (low high : ℕ) (set : DataSet) (sets : List DataSet) (rows : List Datum)
    (before after : Scope) → Rise stem low high (set ∷ sets) → lists_of values sources (with_list set.name rows before) sets ≡ Some after
    → (at : ℕ) (name : List ℕ) → MayRead stem at name → at ≤ low → after name ≡ before name
still values sources stem low high set sets rows before after rise read at name may less =
    let apart = later_apart stem low high (set ∷ sets) at name may less rise in
    kept_through values sources sets (with_list set.name rows before) after name read (All-tail (λ (s : DataSet). s.name ≢ name) set sets apart)
    ∙ elsewhere set.name name rows before (All-head (λ (s : DataSet). s.name ≢ name) set sets apart)

all_same : (P Q : List ℕ → Type 0) → ((name : List ℕ) → P name → Q name) → (names : List (List ℕ)) → All P names → All Q names
all_same P Q each [] all = All-nil Q
all_same P Q each (name ∷ names) all =
    All-cons Q name names (each name (All-head P name names all)) (all_same P Q each names (All-tail P name names all))

all_looked : (P Q : List ℕ → Type 0) → ((name : List ℕ) → P name → Q name) → (ts : List Transform) → All (λ t. All P (looked t)) ts
    → All (λ t. All Q (looked t)) ts
all_looked P Q each [] all = All-nil (λ t. All Q (looked t))
all_looked P Q each (t ∷ ts) all =
    All-cons (λ u. All Q (looked u)) t ts (all_same P Q each (looked t) (All-head (λ u. All P (looked u)) t ts all))
    (all_looked P Q each ts (All-tail (λ u. All P (looked u)) t ts all))

-- a data set that begins with the rows of a name
begun_same : (sources : List Dataset) (set : DataSet) (source : List ℕ) (scope other : Scope) → set.source ≡ Some source → Same scope other source
    → begun_rows sources scope set ≡ begun_rows sources other set
begun_same sources set source scope other begins same =
    ap (λ o. option_map_or scope o (list_named sources set.name)) begins ∙ same
    ∙ sym (ap (λ o. option_map_or other o (list_named sources set.name)) begins)

abbrev Stands : Values → List Dataset → Scope → DataSet → Type 0
Stands values sources scope set = list_of values sources scope set ≡ Some (scope set.name)

-- the first of data sets whose places rise
first_stands : (values : Values) (sources : List Dataset) (stem : List ℕ) (high : ℕ) (set : DataSet) (sets : List DataSet) (rows : List Datum)
    (before after : Scope) (at : IsPlaced stem set) → Rise stem (suc (place at.named)) high sets → list_of values sources before set ≡ Some rows
    → lists_of values sources (with_list set.name rows before) sets ≡ Some after → Stands values sources after set
first_stands values sources stem high set sets rows before after at rise made read =
    let same : (name : List ℕ) → MayRead stem (place at.named) name → after name ≡ before name
    = λ name may. still values sources stem (place at.named) high set sets rows before after (at, (le_refl _), rise) read
    (place at.named) name may (le_refl _) in
    let own : after set.name ≡ rows
    = kept_through values sources sets (with_list set.name rows before) after set.name read
    (later_apart stem (suc (place at.named)) high sets (suc (place at.named)) set.name
    (inr (record { named = at.named; fits = at.fits; is = at.is; less = (le_refl _) })) (le_refl _) rise)
    ∙ there set.name rows before in
    (λ i. all_transformed values after (transforms_of set) (begun_same sources set at.source after before at.begins (same at.source at.reads_source) i))
    ∙ all_same_made values after before (transforms_of set) (begun_rows sources before set)
    (all_looked (MayRead stem (place at.named)) (Same after before) same (transforms_of set) at.reads)
    ∙ made ∙ ap Some (sym own)

pub all_stand : (values : Values) (sources : List Dataset) (stem : List ℕ) (low high : ℕ) (sets : List DataSet) (before after : Scope)
    → Rise stem low high sets → lists_of values sources before sets ≡ Some after → All (Stands values sources after) sets
all_stand values sources stem low high [] before after rise read = All-nil (Stands values sources after)
all_stand values sources stem low high (set ∷ sets) before after rise read =
    by (list_of values sources before set) refl
    (λ next is. all_stand values sources stem (suc (place rise.0.named)) high sets next after rise.2 is)
  where
    by : (o : Option (List Datum)) → list_of values sources before set ≡ o
        → ((next : Scope) → lists_of values sources next sets ≡ Some after → All (Stands values sources after) sets)
        → All (Stands values sources after) (set ∷ sets)
    by None is rest =
        absurd (no_value after (sym (ap (λ o. (o >>= λ rows. Some (with_list set.name rows before)) >>= λ next. lists_of values sources next sets) is) ∙ read))
    by (Some rows) is rest =
        let on : lists_of values sources (with_list set.name rows before) sets ≡ Some after
        = sym (ap (λ o. (o >>= λ rows. Some (with_list set.name rows before)) >>= λ next. lists_of values sources next sets) is) ∙ read in
        All-cons (Stands values sources after) set sets
        (first_stands values sources stem high set sets rows before after rise.0 rise.2 is on) (rest (with_list set.name rows before) on)
