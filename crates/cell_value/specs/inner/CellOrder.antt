-- Why the order of cells is a total one in which only a cell itself ties with it.
use Rattle.std.specs.Prelude.{◌≡◌, ◌↔◌, IsTrue, ℕ, Bool, true, false, T, List, [], ℤ, pos, refl}
use mathlib.Core.Path.{sym, ap, subst}
use Rattle.std.specs.declared.cmp.Ordering.{Ordering}
use Rattle.std.specs.declared.cmp.Ordering.TheVariants.{Less, Equal, Greater}
use Rattle.std.specs.Ordering.{nat_cmp, int_cmp, bool_cmp, ordering_then, then_cmp, on, is_eq}
use Rattle.std.specs.Cmp.{IsTotalOrder, tied_itself, then_total, on_total, nat_cmp_total, int_cmp_total, bool_cmp_total}
use Rattle.std.specs.Cmp.Lexicographic.{slice_cmp, nat_list_cmp_total}
use Rattle.std.specs.FinMap.{IsAntisymmetric, nat_cmp-IsAntisymmetric, int_cmp-IsAntisymmetric, slice_cmp-IsAntisymmetric}
use Rattle.cell_value.specs.declared.cell.Cell.{Cell}
use Rattle.cell_value.specs.declared.cell.Cell.TheVariants.{Null, Flag, Number, Text, Pair}
use Rattle.cell_value.specs.Cell.{kind, cell_cmp, same_cells}

-- the parts of a cell, each with a value that is the same in all cells without the part
abbrev flag_of : Cell → Bool
flag_of (Flag b) = b
flag_of c = false

abbrev first_of : Cell → ℤ
first_of (Number n) = n
first_of (Pair a b) = a
first_of c = pos 0

abbrev second_of : Cell → ℤ
second_of (Pair a b) = b
second_of c = pos 0

abbrev bytes_of : Cell → List ℕ
bytes_of (Text t) = t
bytes_of c = []

abbrev by_parts : Cell → Cell → Ordering
by_parts =
    then_cmp (on kind nat_cmp) (then_cmp (on flag_of bool_cmp) (then_cmp (on first_of int_cmp)
    (then_cmp (on second_of int_cmp) (on bytes_of (slice_cmp nat_cmp)))))

then_equal : (r : Ordering) → r ≡ ordering_then r Equal
then_equal Less = refl
then_equal Equal = refl
then_equal Greater = refl

cell_cmp-by_parts : (a b : Cell) → by_parts a b ≡ cell_cmp a b
cell_cmp-by_parts Null Null = refl
cell_cmp-by_parts Null (Flag b) = refl
cell_cmp-by_parts Null (Number b) = refl
cell_cmp-by_parts Null (Text b) = refl
cell_cmp-by_parts Null (Pair c d) = refl
cell_cmp-by_parts (Flag a) (Flag b) = sym (then_equal (bool_cmp a b))
cell_cmp-by_parts (Number a) (Number b) = sym (then_equal (int_cmp a b))
cell_cmp-by_parts (Text a) (Text b) = refl
cell_cmp-by_parts (Pair a b) (Pair c d) = λ i. ordering_then (int_cmp a c) (sym (then_equal (int_cmp b d)) i)
cell_cmp-by_parts a b = refl

-- the order of cells is total
pub cell_cmp_total : IsTotalOrder cell_cmp
cell_cmp_total = subst IsTotalOrder (λ i a b. cell_cmp-by_parts a b i)
    (then_total (on_total kind nat_cmp_total) (then_total (on_total flag_of bool_cmp_total) (then_total (on_total first_of int_cmp_total)
    (then_total (on_total second_of int_cmp_total) (on_total bytes_of nat_list_cmp_total)))))

-- what no tie can be
no_tie : {A : Type 0} (r : Ordering) → is_eq r ≡ false → r ≡ Equal → A
no_tie r e p = absurd (subst T e (subst (λ o. T (is_eq o)) (sym p) tt))

both_tie : (r s : Ordering) → ordering_then r s ≡ Equal → (r ≡ Equal) × (s ≡ Equal)
both_tie Less s p = no_tie Less refl p
both_tie Equal s p = (refl, p)
both_tie Greater s p = no_tie Greater refl p

same_flag : IsAntisymmetric bool_cmp
same_flag false false p = refl
same_flag false true p = no_tie Less refl p
same_flag true false p = no_tie Greater refl p
same_flag true true p = refl

-- a cell ties with itself alone
pub only_equal_cells_tie : IsAntisymmetric cell_cmp
only_equal_cells_tie Null Null p = refl
only_equal_cells_tie Null (Flag b) p = no_tie Less refl p
only_equal_cells_tie Null (Number b) p = no_tie Less refl p
only_equal_cells_tie Null (Text b) p = no_tie Less refl p
only_equal_cells_tie Null (Pair c d) p = no_tie Less refl p
only_equal_cells_tie (Flag a) (Flag b) p = ap Flag (same_flag a b p)
only_equal_cells_tie (Number a) (Number b) p = ap Number (int_cmp-IsAntisymmetric a b p)
only_equal_cells_tie (Text a) (Text b) p = ap Text (slice_cmp-IsAntisymmetric nat_cmp-IsAntisymmetric a b p)
only_equal_cells_tie (Pair a b) (Pair c d) p =
    let ties = both_tie (int_cmp a c) (int_cmp b d) p in
    λ i. Pair (int_cmp-IsAntisymmetric a c ties.0 i) (int_cmp-IsAntisymmetric b d ties.1 i)
only_equal_cells_tie a b p = no_tie (cell_cmp a b) refl p

tie_from_test : (r : Ordering) → is_eq r ≡ true → r ≡ Equal
tie_from_test Less e = absurd (subst T (sym e) tt)
tie_from_test Equal e = refl
tie_from_test Greater e = absurd (subst T (sym e) tt)

-- two cells are the same exactly where they are equal
pub same_cells_tell : (a b : Cell) → IsTrue (same_cells a b) ↔ (a ≡ b)
same_cells_tell a b = (
  (λ e. only_equal_cells_tie a b (tie_from_test (cell_cmp a b) e)),
  (λ e. subst (λ c. same_cells a c ≡ true) e (ap is_eq (tied_itself cell_cmp_total a))),
)
