-- How far folds multiply the rows of a data set.
use Rattle.std.specs.Prelude.{◌≡◌, ℕ, ◌*◌, nat_lt, Bool, true, false, ◌&&◌, if◌then◌else◌, Option, Some, None, List, [], ◌∷◌, ◌++◌}
use Rattle.std.specs.Prelude.{filter_map, find, codes, refl}
use Rattle.std.specs.Option.{option_map_or}
use Rattle.spec_schema.specs.declared.spec_error.SpecKind.TheVariants.{Wrong}
use Rattle.vega_parts.specs.declared.part.Part.{Part}
use Rattle.vega_parts.specs.declared.part.Part.TheVariants as part
use Rattle.vega_parts.specs.declared.part.GivenName.{GivenName}
use Rattle.vega_parts.specs.declared.part.Given.TheVariants as given
use Rattle.vega_parts.specs.declared.part.UsedName.{UsedName}
use Rattle.vega_parts.specs.declared.part.Used.{Used}
use Rattle.vega_parts.specs.declared.part.Used.TheVariants as used
use Rattle.vega_rules.specs.declared.fault.PlacedFault.{PlacedFault}
use Rattle.vega_rules.specs.Faults.{fault_at, fault_if}
use Rattle.vega_rules.specs.Places.{same_place, parent}
use Rattle.vega_rules.specs.Resolved.{resolved_use}

-- the name that a part uses
abbrev pub used_by : Part → Option UsedName
used_by (part.Used u) = Some u
used_by other = None

-- it is the name of the data set from which another takes its rows
abbrev pub is_source : Used → Bool
is_source used.Source = true
is_source used.From = false
is_source used.MarkRows = false
is_source used.FacetRows = false
is_source used.Domain = false
is_source used.Signal = false
is_source used.Store = false
is_source used.Scale = false
is_source used.SizedScale = false
is_source used.MarkBelow = false

-- it stands in the data set at this place
abbrev pub is_source_of : List ℕ → UsedName → Bool
is_source_of set u = is_source u.kind && same_place set (parent u.at)

-- the source of a data set
abbrev pub source_of : List Part → List ℕ → Option UsedName
source_of parts set = find (is_source_of set) (filter_map used_by parts)

-- the product of the lengths of the folds so far on the path of a data set, by the places of data sets, the latest first; 1
-- where there is none yet
abbrev pub product_of : List (List ℕ × ℕ) → List ℕ → ℕ
product_of [] set = 1
product_of (known ∷ others) set = if same_place set known.0 then known.1 else product_of others set

-- that of what a source means
abbrev pub product_by : List Part → List (List ℕ × ℕ) → UsedName → ℕ
product_by parts known u = option_map_or (λ (name : GivenName). product_of known name.of) (resolved_use parts u) 1

-- that with which a data set begins: that of its source, which stands before, so that all its folds are known
abbrev pub begun : List Part → List (List ℕ × ℕ) → List ℕ → ℕ
begun parts known set = option_map_or (product_by parts known) (source_of parts set) 1

-- what is known after a part
abbrev pub folded : List Part → List (List ℕ × ℕ) → Part → List (List ℕ × ℕ)
folded parts known (part.Data set) = (set, begun parts known set) ∷ known
folded parts known (part.Fold at set fields) = (set, product_of known set * fields) ∷ known
folded parts known other = known

-- a fold by which the product passes 8
abbrev pub passes : List (List ℕ × ℕ) → Part → List PlacedFault
passes known (part.Fold at set fields) = fault_if (nat_lt 8 (product_of known set * fields)) Wrong at
passes known other = []

-- those of some parts, where what is known before them
abbrev pub folds_after : List Part → List (List ℕ × ℕ) → List Part → List PlacedFault
folds_after parts known [] = []
folds_after parts known (p ∷ ps) = passes known p ++ folds_after parts (folded parts known p) ps

-- the folds by which the product of the lengths of the folds on the path of a data set passes 8: those of what its source
-- means, and then its own. Parts stand in the order of the text
abbrev pub folds : List Part → List PlacedFault
folds parts = folds_after parts [] parts

-- ---- worked examples

-- a data set `a` with a fold of 4, and one with two folds of 2, whose source stands behind them
three_folds : List Part
three_folds =
    part.Data (0 ∷ 0 ∷ [])
    ∷ part.Given record { kind = given.Data; scope = []; of = 0 ∷ 0 ∷ []; at = 0 ∷ 0 ∷ 0 ∷ []; name = codes "a"; scale = None }
    ∷ part.Fold (0 ∷ 0 ∷ 1 ∷ 0 ∷ []) (0 ∷ 0 ∷ []) 4
    ∷ part.Data (0 ∷ 1 ∷ [])
    ∷ part.Fold (0 ∷ 1 ∷ 1 ∷ 0 ∷ []) (0 ∷ 1 ∷ []) 2
    ∷ part.Fold (0 ∷ 1 ∷ 1 ∷ 1 ∷ []) (0 ∷ 1 ∷ []) 2
    ∷ part.Used record { kind = used.Source; scope = []; at = 0 ∷ 1 ∷ 2 ∷ []; name = codes "a" }
    ∷ []

those_of_the_source_count : folds three_folds ≡ fault_at Wrong (0 ∷ 1 ∷ 1 ∷ 1 ∷ []) ∷ []
unfolding three_folds
those_of_the_source_count = refl

an_empty_fold_makes_it_none : folds (part.Data [] ∷ part.Fold (0 ∷ []) [] 0 ∷ part.Fold (1 ∷ []) [] 9 ∷ []) ≡ []
an_empty_fold_makes_it_none = refl
