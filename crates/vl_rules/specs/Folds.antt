-- How far folds multiply the rows of a unit.
use Rattle.std.specs.Prelude.{◌≡◌, refl, ℕ, ◌+◌, ◌-◌, ◌*◌, nat_lt, Option, Some, None, List, [], ◌∷◌, codes, length, unwrap_or, if◌then◌else◌}
use Rattle.std.specs.Option.{option_map_or}
use Rattle.vl_spec.specs.declared.transforms.Transform.{Transform}
use Rattle.vl_spec.specs.declared.transforms.Transform.TheVariants as transform
use Rattle.vl_compose.specs.Views.{transforms_of}
use Rattle.vl_trails.specs.declared.fault.RuleFault.{RuleFault}
use Rattle.vl_trails.specs.Faults.{wrong_at}
use Rattle.vl_trails.specs.Trails.{Trail, to_item, to_member}
use Rattle.vl_rules.specs.declared.folds.TheConstants.{MOST_ROWS}
use Rattle.vl_rules.specs.Leads.{LedAt, led}
use Rattle.vl_rules.specs.Marked.{MarkedAt}

-- how many rows a transform makes of one: a fold as many as it has fields
abbrev pub rows_from : Transform → ℕ
rows_from (transform.Filter of) = 1
rows_from (transform.Calculate of) = 1
rows_from (transform.Bin of) = 1
rows_from (transform.TimeUnit of) = 1
rows_from (transform.Aggregate of) = 1
rows_from (transform.JoinAggregate of) = 1
rows_from (transform.Stack of) = 1
rows_from (transform.Window of) = 1
rows_from (transform.Lookup of) = 1
rows_from (transform.Fold of) = length of.fold

-- the number of the first of some transforms by which there are more than 8 rows for one, where there are so many before them, and the first has this
-- number
abbrev pub passing_from : ℕ → ℕ → List Transform → Option ℕ
passing_from number rows [] = None
passing_from number rows (t ∷ ts) = if nat_lt MOST_ROWS (rows * rows_from t) then Some number else passing_from (number + 1) (rows * rows_from t) ts

abbrev pub passing : List Transform → Option ℕ
passing transforms = passing_from 0 1 transforms

-- the fold of a view's transform of a number
abbrev pub fold_trail : Trail → ℕ → Trail
fold_trail trail number = to_member (to_item (to_member trail (codes "transform")) number) (codes "fold")

-- where the fold stands that has this number among the transforms of some views
abbrev pub fold_among : List LedAt → ℕ → Trail
fold_among [] number = []
fold_among (l ∷ others) number =
    if nat_lt number (length (unwrap_or l.view.transform [])) then fold_trail l.trail number
    else fold_among others (number - length (unwrap_or l.view.transform []))

-- the fault of the fold that has this number among the transforms on the way to a unit
abbrev pub fold_fault : MarkedAt → ℕ → List RuleFault
fold_fault u number = wrong_at (fold_among (led u.round) number) ∷ []

-- The lengths of the folds on the way to a unit, those of the views round it from the top in and then its own, multiply to at most 8. Else the fold is
-- wrong by which they pass 8. One without fields makes no rows.
abbrev pub too_many_rows : MarkedAt → List RuleFault
too_many_rows u = option_map_or (fold_fault u) (passing (transforms_of u.round)) []

-- The rules at work.

-- a fold of some fields
folding : List (List ℕ) → Transform
folding fields = transform.Fold (record { fold = fields; as_ = None })

three_times_three : passing (folding ([] ∷ [] ∷ [] ∷ []) ∷ folding ([] ∷ [] ∷ [] ∷ []) ∷ []) ≡ Some 1
unfolding folding
three_times_three = refl

twice_four : passing (folding ([] ∷ [] ∷ [] ∷ [] ∷ []) ∷ folding ([] ∷ [] ∷ []) ∷ []) ≡ None
unfolding folding
twice_four = refl

no_fields_make_no_rows : passing (folding [] ∷ folding ([] ∷ [] ∷ [] ∷ [] ∷ [] ∷ [] ∷ [] ∷ [] ∷ [] ∷ []) ∷ []) ≡ None
unfolding folding
no_fields_make_no_rows = refl
