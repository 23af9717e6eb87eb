-- That the ends of an extent of instants, also where it is widened, are instants in range.
use Rattle.std.proofs.Common.{◌≡◌, ℤ, pos, ◌≤ℤ◌, ◌&&◌, Bool, true, false, cond, List, [], ◌∷◌, Option, Some, None, IsTrue, IfSome, refl}
use Rattle.std.proofs.Common.{subst, arith}
use Rattle.std.specs.Prelude.{filter_map, int_le, int_lt}
use Rattle.std.specs.Int.{int_min, int_max}
use Rattle.std.specs.Option.{option_map}
use Rattle.std.proofs.lemmas.Int.{ints, clamps}
use Rattle.fixed_num.specs.Ranges.{◌>>=◌, is_within}
use Rattle.time_calc.specs.Instants.{stands_for_instant, instant_number, first_instant, last_instant}
use Rattle.time_calc.specs.Texts.{read_instant}
use Rattle.cell_value.specs.declared.cell.Cell.{Cell}
use Rattle.cell_value.specs.declared.cell.Cell.TheVariants.{Null, Flag, Number, Text, Pair}
use Rattle.tick_kit.specs.Domains.{with_zero}
use Rattle.tick_kit.specs.Steps.{nice_of}
use Rattle.scale_kit.specs.Scale.{AreInstants}
use Rattle.scale_kit.specs.Places.{in_time, the_instant}
use Rattle.domain_kit.specs.declared.counting.Counting.TheVariants.{Instants, ListedInstants}
use Rattle.domain_kit.specs.Counting.{listed_instant, counted, extent_among, pair_in, cut_in_time, widened_as_asked}
use Rattle.domain_kit.specs.inner.Extents.{with_number, extent_behind}
use Rattle.domain_kit.proofs.NumberLemmas.{extent_one_more}

abbrev InTime : ℤ → Type 0
InTime z = IsTrue (stands_for_instant z)

-- of two instants in range each that is picked is one
picked : (b : Bool) (x y : ℤ) → InTime x → InTime y → InTime (cond b x y)
picked true x y h i = h
picked false x y h i = i

lesser_in_time : (x y : ℤ) → InTime x → InTime y → InTime (int_min x y)
lesser_in_time x y h i = picked (int_lt y x) y x i h

greater_in_time : (x y : ℤ) → InTime x → InTime y → InTime (int_max x y)
greater_in_time x y h i = picked (int_lt y x) x y h i

-- the ends of instants so far stay instants with one more
ends_in_time : (ends : Option (ℤ × ℤ)) (n : Option ℤ) → IfSome ends AreInstants → IfSome n InTime → IfSome (with_number ends n) AreInstants
ends_in_time ends None h i = h
ends_in_time None (Some n) h i = (i, i)
ends_in_time (Some ends) (Some n) h i = (lesser_in_time ends.0 n h.0 i, greater_in_time ends.1 n h.1 i)

-- where only instants count, the extent of cells has instants as its ends
behind_in_time : (f : Cell → Option ℤ) → ((cell : Cell) → IfSome (f cell) InTime) → (ends : Option (ℤ × ℤ)) (cells : List Cell)
    → IfSome ends AreInstants → AreInstants (extent_behind ends (filter_map f cells))
behind_in_time f each None [] h = (refl, refl)
behind_in_time f each (Some ends) [] h = h
behind_in_time f each ends (cell ∷ cells) h =
    subst AreInstants (extent_one_more ends (f cell) (filter_map f cells))
    (behind_in_time f each (with_number ends (f cell)) cells (ends_in_time ends (f cell) h (each cell)))

-- what counts as an instant is one
number_in_time : (n : ℤ) → IfSome (in_time n) InTime
number_in_time n = by_test (stands_for_instant n) refl
  where
    by_test : (b : Bool) → stands_for_instant n ≡ b → IfSome (cond b (Some n) None) InTime
    by_test true e = e
    by_test false e = tt

read_in_time : (o : Option ℤ) → IfSome (o >>= in_time) InTime
read_in_time None = tt
read_in_time (Some n) = number_in_time n

instant_in_time : (cell : Cell) → IfSome (the_instant cell) InTime
instant_in_time Null = tt
instant_in_time (Flag b) = tt
instant_in_time (Number n) = number_in_time n
instant_in_time (Text t) = tt
instant_in_time (Pair a b) = tt

listed_in_time : (cell : Cell) → IfSome (listed_instant cell) InTime
listed_in_time Null = tt
listed_in_time (Flag b) = tt
listed_in_time (Number n) = number_in_time n
listed_in_time (Text t) = read_in_time (read_instant t)
listed_in_time (Pair a b) = tt

pub instants_in_time : (cells : List Cell) → AreInstants (extent_among Instants cells)
instants_in_time cells = behind_in_time (counted Instants) instant_in_time None cells tt

pub listed_instants_in_time : (cells : List Cell) → AreInstants (extent_among ListedInstants cells)
listed_instants_in_time cells = behind_in_time (counted ListedInstants) listed_in_time None cells tt

pub pair_in_time : (cell : Cell) → IfSome (pair_in Instants cell) AreInstants
pair_in_time Null = tt
pair_in_time (Flag b) = tt
pair_in_time (Number n) = tt
pair_in_time (Text t) = tt
pair_in_time (Pair a b) = instants_in_time (Number a ∷ Number b ∷ [])

-- what is cut to two ends is within them
both_hold : (a b : Bool) → a ≡ true → b ≡ true → (a && b) ≡ true
both_hold true b e f = f
both_hold false b e f = e

at_most : (a b : ℤ) → a ≤ℤ b → int_le a b ≡ true
at_most a b h = grind (arith, ints)

cut_within : (a b z : ℤ) → a ≤ℤ b → is_within a b (int_max a (int_min z b)) ≡ true
cut_within a b z h =
    both_hold _ _ (at_most a (int_max a (int_min z b)) (omega (arith, ints, clamps)))
    (at_most (int_max a (int_min z b)) b (omega (arith, ints, clamps, h)))

cut_is_in_time : (z : ℤ) → InTime (cut_in_time z)
cut_is_in_time z = cut_within (instant_number first_instant) (instant_number last_instant) z (omega (arith, ints))

-- a domain of instants has them also where it takes in 0 and is widened
cut_in_both : (o : Option (ℤ × ℤ)) → IfSome (option_map (λ (wide : ℤ × ℤ). (cut_in_time wide.0, cut_in_time wide.1)) o) AreInstants
cut_in_both None = tt
cut_in_both (Some wide) = (cut_is_in_time wide.0, cut_is_in_time wide.1)

pub widened_in_time : (takes_zero is_nice : Bool) (ends : ℤ × ℤ) → AreInstants ends
    → IfSome (widened_as_asked true takes_zero is_nice ends) AreInstants
widened_in_time true true ends h = cut_in_both (nice_of 10 (with_zero ends))
widened_in_time false true ends h = cut_in_both (nice_of 10 ends)
widened_in_time true false ends h = (lesser_in_time ends.0 (pos 0) h.0 refl, greater_in_time ends.1 (pos 0) h.1 refl)
widened_in_time false false ends h = h
