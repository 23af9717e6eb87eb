-- The domains of scales, from the values that are present.
use Rattle.std.specs.Prelude.{ℤ, pos, List, [], ◌∷◌, ◌≡◌, refl, codes}
use Rattle.std.specs.Ordering.{nat_cmp}
use Rattle.std.specs.declared.cmp.Ordering.{Ordering}
use Rattle.std.specs.Cmp.Lexicographic.{slice_cmp}
use Rattle.std.specs.declared.cmp.Ordering.TheVariants.{Less, Equal, Greater}
use Rattle.std.specs.Int.{int_min, int_max}
use Rattle.fixed_num.specs.Number.{million}

-- what comes of a comparison
abbrev chosen : {X : Type 0} → Ordering → X → X → X → X
chosen Less before same after = before
chosen Equal before same after = same
chosen Greater before same after = after

-- a cell put into its place in an ascending list, unless it stands there
abbrev pub placed_in : {X : Type 0} → (X → X → Ordering) → X → List X → List X
placed_in order c [] = c ∷ []
placed_in order c (d ∷ ds) = chosen (order c d) (c ∷ d ∷ ds) (d ∷ ds) (d ∷ placed_in order c ds)

-- the distinct cells in ascending order: the domain of a discrete scale
abbrev pub ascending : {X : Type 0} → (X → X → Ordering) → List X → List X
ascending order [] = []
ascending order (c ∷ cs) = placed_in order c (ascending order cs)

-- the least of these numbers
abbrev pub least : ℤ → List ℤ → ℤ
least m [] = m
least m (n ∷ ns) = int_min m (least n ns)

-- the greatest of these numbers
abbrev pub greatest : ℤ → List ℤ → ℤ
greatest m [] = m
greatest m (n ∷ ns) = int_max m (greatest n ns)

-- the least and the greatest of the numbers, and 0 and 1 where there is none
abbrev pub extent_of : List ℤ → ℤ × ℤ
extent_of [] = (pos 0, pos million)
extent_of (m ∷ ms) = (least m ms, greatest m ms)

-- a domain that takes in 0
abbrev pub with_zero : ℤ × ℤ → ℤ × ℤ
with_zero domain = (int_min domain.0 (pos 0), int_max domain.1 (pos 0))

distinct_in_byte_order : ascending (slice_cmp nat_cmp) (codes "b" ∷ codes "ab" ∷ codes "b" ∷ codes "a" ∷ [])
    ≡ codes "a" ∷ codes "ab" ∷ codes "b" ∷ []
distinct_in_byte_order = refl

the_extent_of_three : extent_of (pos 28 ∷ pos 55 ∷ pos 43 ∷ []) ≡ (pos 28, pos 55)
the_extent_of_three = refl

zero_is_taken_in : with_zero (pos 28, pos 55) ≡ (pos 0, pos 55)
zero_is_taken_in = refl
