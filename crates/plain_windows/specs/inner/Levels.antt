-- The least or the greatest number of parts of a list.
use Rattle.std.specs.Prelude.{◌≡◌, refl, ℕ, ◌-◌, ◌≤◌, ℤ, pos, Bool, true, false, Option, Some, None, List, [], ◌∷◌, take, drop, length, map}
use Rattle.std.specs.Prelude.{nat_lt, ◌==◌, ◌%◌, ◌&&◌, if◌then◌else◌}
use Rattle.std.specs.Int.{int_min, int_max}
use Rattle.cell_value.specs.Datum.{Datum}
use Rattle.expr_eval.specs.Numbers.{the_number}
use Rattle.plain_rows.specs.declared.transforms.OpOf.{OpOf}
use Rattle.plain_groups.specs.GroupRows.{read_by}

-- the numbers among the cells that an operation reads of rows, each at its place
abbrev pub numbers_read : OpOf → List Datum → List (Option ℤ)
numbers_read op rows = map (λ (other : Datum). the_number (read_by op other.cell)) rows

-- of two numbers the lesser, or the greater
abbrev pub outer : Bool → ℤ → ℤ → ℤ
outer greatest a b = if greatest then int_max a b else int_min a b

-- the same where one may be missing
abbrev pub joined : Bool → Option ℤ → Option ℤ → Option ℤ
joined greatest None y = y
joined greatest (Some a) None = Some a
joined greatest (Some a) (Some b) = Some (outer greatest a b)

-- the least of some numbers, or the greatest
abbrev pub outermost : Bool → List (Option ℤ) → Option ℤ
outermost greatest [] = None
outermost greatest (x ∷ xs) = joined greatest x (outermost greatest xs)

-- that of each two elements; a last one alone is left out
abbrev pub paired : Bool → List (Option ℤ) → List (Option ℤ)
paired greatest [] = []
paired greatest (x ∷ []) = []
paired greatest (x ∷ y ∷ xs) = joined greatest x y ∷ paired greatest xs

-- Levels of a list: its elements, what each two of them have, each four and so on, until there are no more.
abbrev pub AreLevels : Bool → List (Option ℤ) → List (List (Option ℤ)) → Type 0
AreLevels greatest xs [] = xs ≡ []
AreLevels greatest xs (level ∷ levels) = (level ≡ xs) × AreLevels greatest (paired greatest xs) levels

-- whether there are elements from a place to another, and an edge of them parts two that are a pair
abbrev pub parts_pair : ℕ → ℕ → ℕ → Bool
parts_pair from to edge = nat_lt from to && edge % 2 == 1

-- By the levels of some list the elements from a place to another, beside a number that was found, have a number.
pub record Gives (greatest : Bool) (levels : List (List (Option ℤ))) (from to : ℕ) (found number : Option ℤ) : Type 0 where
  pub level : List (Option ℤ)
  pub are : AreLevels greatest level levels
  pub within : to ≤ length level
  pub gives : joined greatest found (outermost greatest (take (to - from) (drop from level))) ≡ number

-- The rules at work.

abbrev five : List (Option ℤ)
five = Some (pos 3) ∷ None ∷ Some (pos 1) ∷ Some (pos 4) ∷ Some (pos 0) ∷ []

the_least : outermost false five ≡ Some (pos 0)
the_least = refl

the_greatest : outermost true five ≡ Some (pos 4)
the_greatest = refl

pairs_of_five : paired false five ≡ Some (pos 3) ∷ Some (pos 1) ∷ []
pairs_of_five = refl

levels_of_five : AreLevels false five (five ∷ (Some (pos 3) ∷ Some (pos 1) ∷ []) ∷ (Some (pos 1) ∷ []) ∷ [])
levels_of_five = (refl, (refl, (refl, refl)))
