-- The boundaries in a domain are all boundaries in it, and those on the way through it are these.
use Rattle.std.proofs.Common.{◌≡◌, ℕ, zero, suc, ◌*◌, ◌%◌, ◌<◌, ◌≤◌, ◌⊎◌, inl, inr, Bool, true, false, eqb, if◌then◌else◌, ℤ, pos, negsuc}
use Rattle.std.proofs.Common.{◌+ℤ◌, ◌-ℤ◌, ◌*ℤ◌, ◌≤ℤ◌, ◌<ℤ◌, unsigned_abs, int_le, Option, Some, None, option_map, List, [], ◌∷◌, ◌++◌}
use Rattle.std.proofs.Common.{filter, IsTrue, refl, sym, ap, ◌∙◌, subst, ⊎_elim, arith}
use Rattle.std.specs.Option.{option_and_then}
use Rattle.std.proofs.lemmas.Bool.{and_parts, and_from, eqb-true, true≢false}
use Rattle.std.proofs.lemmas.Int.{ints, unsigned_abs-mul}
use Rattle.fixed_num.specs.Number.{million}
use Rattle.case_table.specs.declared.unit.Unit.{Unit}
use Rattle.time_calc.specs.Instants.{instant_number, stands_for_instant, first_instant, last_instant}
use Rattle.time_calc.specs.Boundaries.{is_boundary, last_boundary, Follows, NoneFollows, IsFirstBoundary}
use Rattle.time_calc.specs.NextBoundary.{next_boundary}
use Rattle.time_calc.proofs.BoundaryUnits.{IsInstant, next_is_first}
use Rattle.tick_kit.specs.Steps.{span_of}
use Rattle.tick_kit.specs.Ticks.{multiples_in, AreAll, IsMultipleIn}
use Rattle.tick_kit.specs.TimeTicks.{whole_milliseconds, is_whole, is_boundary_number, boundaries_in, IsBoundaryIn, BoundariesAreAll}
use Rattle.tick_kit.specs.inner.Boundaries.{following, up_to_end, up_to, boundaries_after, boundaries_on_the_way}
use Rattle.tick_kit.proofs.AllLemmas.{all_same, all_none, all_after, all_passing, all_are_one}
use Rattle.tick_kit.proofs.MultipleLemmas.{multiples_are_all}
use Rattle.tick_kit.proofs.PartLemmas.{instant_there}
use Rattle.tick_kit.proofs.TickLemmas.{cases_lt_int}

-- the whole milliseconds of a number are less than one below it
record IsWholeOf (number i : ℤ) : Type 0 where
  not_above : (i *ℤ pos million) ≤ℤ number
  near : number <ℤ (i *ℤ pos million +ℤ pos million)

whole_of : (number : ℤ) → IsWholeOf number (whole_milliseconds number)
whole_of (pos n) = record { not_above = omega (arith, ints); near = omega (arith, ints) }
whole_of (negsuc n) = record { not_above = omega (arith, ints); near = omega (arith, ints) }

whole_of_instant : (b : ℤ) → whole_milliseconds (instant_number b) ≡ b
whole_of_instant b =
    let is = whole_of (instant_number b) in let low = is.not_above in let high = is.near in omega (arith, ints, low, high)

-- bounds of a number that stands for an instant
record IsInBounds (number : ℤ) : Type 0 where
  low : instant_number first_instant ≤ℤ number
  high : number ≤ℤ instant_number last_instant

in_bounds : (number : ℤ) → IsTrue (stands_for_instant number) → IsInBounds number
in_bounds number h =
    let parts = and_parts (int_le (instant_number first_instant) number) (int_le number (instant_number last_instant)) h in
    record { low = omega (arith, ints, parts.0); high = omega (arith, ints, parts.1) }

le_test : (a b : ℤ) (w : Bool) → int_le a b ≡ w → a ≤ℤ b → int_le a b ≡ true
le_test a b true e h = e
le_test a b false e h = absurd (omega (arith, ints, e, h))

stands : (number : ℤ) → IsInBounds number → IsTrue (stands_for_instant number)
stands number is =
    and_from (int_le (instant_number first_instant) number) (int_le number (instant_number last_instant))
    (le_test (instant_number first_instant) number _ refl is.low) (le_test number (instant_number last_instant) _ refl is.high)

instant_in : (number : ℤ) → IsInBounds number → IsInstant (whole_milliseconds number)
instant_in number is =
    let whole = whole_of number in let below = whole.not_above in let near = whole.near in let low = is.low in let high = is.high in
    record { low = omega (arith, ints, near, low); high = omega (arith, ints, below, high) }

-- a number is that of a boundary after an instant and up to an end
record IsAfter (unit : Unit) (n : ℕ) (i high z : ℤ) : Type 0 where
  instant : ℤ
  number : z ≡ instant_number instant
  boundary : is_boundary unit n instant ≡ true
  after : i <ℤ instant
  not_above : z ≤ℤ high

-- what follows a number
following_is : (unit : Unit) (n : ℕ) (number : ℤ) → 0 < n → IsInBounds number
    → Follows unit n (Some (whole_milliseconds number)) (following unit n number)
unfolding following
following_is unit n number some is =
    let here = ap (λ o. option_map instant_number (option_and_then (next_boundary unit n) o)) (instant_there number (stands number is)) in
    subst (Follows unit n (Some (whole_milliseconds number))) (sym here) (next_is_first unit n (whole_milliseconds number) some (instant_in number is))

true_or_false : (b : Bool) → b ≡ true → b ≡ false → ⊥
true_or_false b e f = true≢false (sym e ∙ f)

module _ (unit : Unit) (n : ℕ) (some : 0 < n) (high : ℤ) (end : IsInBounds high) where
  -- no boundary comes after the end
  nothing_left : (number : ℤ) → high ≤ℤ number → AreAll (IsAfter unit n (whole_milliseconds number) high) []
  nothing_left number h =
      all_none _ (λ z b.
      let near = (whole_of number).near in let is = b.number in let after = b.after in let upto = b.not_above in
      omega (arith, ints, near, is, after, upto, h))

  -- none follows
  none_left : (number : ℤ) → NoneFollows unit n (whole_milliseconds number) → AreAll (IsAfter unit n (whole_milliseconds number) high) []
  none_left number none =
      all_none _ (λ z b.
      let is = b.number in let upto = b.not_above in let last = end.high in
      let inside : b.instant ≤ℤ last_boundary = omega (arith, ints, is, upto, last) in
      true_or_false (is_boundary unit n b.instant) b.boundary (none b.instant b.after inside))

  -- the first that follows is past the end
  past_end : (number b : ℤ) → IsFirstBoundary unit n (whole_milliseconds number) b → high <ℤ instant_number b
      → AreAll (IsAfter unit n (whole_milliseconds number) high) []
  past_end number b first past =
      all_none _ (λ z a.
      let is = a.number in let upto = a.not_above in
      let before : a.instant <ℤ b = omega (arith, ints, is, upto, past) in
      true_or_false (is_boundary unit n a.instant) a.boundary (first.none_between a.instant a.after before))

  -- the first that follows is in the domain, and then those after it
  first_and_later : (number b : ℤ) (later : List ℤ) → IsFirstBoundary unit n (whole_milliseconds number) b → instant_number b ≤ℤ high
      → AreAll (IsAfter unit n b high) later → AreAll (IsAfter unit n (whole_milliseconds number) high) (instant_number b ∷ later)
  first_and_later number b later first within all =
      all_after (IsAfter unit n (whole_milliseconds number) high) (instant_number b) later
      (record { instant = b; number = refl; boundary = first.boundary; after = first.after; not_above = within })
      least
      (all_same (IsAfter unit n b high) (λ z. IsAfter unit n (whole_milliseconds number) high z × (instant_number b <ℤ z)) later to back all)
    where
      least : (z : ℤ) → IsAfter unit n (whole_milliseconds number) high z → (z ≡ instant_number b) ⊎ (instant_number b <ℤ z)
      least z a =
          let is = a.number in
          ⊎_elim
          (λ (l : a.instant <ℤ b). absurd (true_or_false (is_boundary unit n a.instant) a.boundary (first.none_between a.instant a.after l)))
          (λ (l : b ≤ℤ a.instant).
          ⊎_elim
          (λ (m : b <ℤ a.instant). inr (omega (arith, ints, is, m)))
          (λ (m : a.instant ≤ℤ b). let same : a.instant ≡ b = omega (arith, ints, l, m) in inl (is ∙ ap instant_number same))
          (cases_lt_int b a.instant))
          (cases_lt_int a.instant b)

      to : (z : ℤ) → IsAfter unit n b high z → IsAfter unit n (whole_milliseconds number) high z × (instant_number b <ℤ z)
      to z a =
          let is = a.number in let past = a.after in let from = first.after in (
            record { instant = a.instant; number = is; boundary = a.boundary; after = omega (arith, ints, past, from); not_above = a.not_above },
            omega (arith, ints, is, past),
          )

      back : (z : ℤ) → IsAfter unit n (whole_milliseconds number) high z × (instant_number b <ℤ z) → IsAfter unit n b high z
      back z a =
          let is = a.0.number in let past = a.1 in
          record {
            instant = a.0.instant;
            number = is;
            boundary = a.0.boundary;
            after = omega (arith, ints, is, past);
            not_above = a.0.not_above;
          }

  -- what follows a number, by what the first that follows is
  abbrev Later : ℕ → ℤ → Type 0
  Later most number = (b : ℤ) → IsInBounds (instant_number b) → whole_milliseconds number <ℤ b
      → AreAll (IsAfter unit n b high) (boundaries_after most unit n high (instant_number b))

  after_test : (most : ℕ) (number b : ℤ) (within : Bool) → IsInBounds number → int_le (instant_number b) high ≡ within
      → IsFirstBoundary unit n (whole_milliseconds number) b → Later most number
      → AreAll (IsAfter unit n (whole_milliseconds number) high) (up_to_end within (instant_number b) (boundaries_after most unit n high))
  after_test most number b true is test first later =
      let upto : instant_number b ≤ℤ high = omega (arith, ints, test) in
      let from = first.after in let near = (whole_of number).near in let low = is.low in let last = end.high in
      let inside : IsInBounds (instant_number b) =
      record { low = omega (arith, ints, from, near, low); high = omega (arith, ints, upto, last) } in
      first_and_later number b (boundaries_after most unit n high (instant_number b)) first upto (later b inside from)
  after_test most number b false is test first later = past_end number b first (omega (arith, ints, test))

  after_by : (most : ℕ) (number : ℤ) (o : Option ℤ) → IsInBounds number → Follows unit n (Some (whole_milliseconds number)) o → Later most number
      → AreAll (IsAfter unit n (whole_milliseconds number) high) (up_to high o (boundaries_after most unit n high))
  after_by most number None is none later = none_left number none
  after_by most number (Some z) is (b, e, first) later =
      subst (λ x. AreAll (IsAfter unit n (whole_milliseconds number) high) (up_to high (Some x) (boundaries_after most unit n high))) (sym e)
      (after_test most number b (int_le (instant_number b) high) is refl first later)

  all_boundaries_after : (most : ℕ) (number : ℤ) → IsInBounds number → (high -ℤ number) ≤ℤ pos most
      → AreAll (IsAfter unit n (whole_milliseconds number) high) (boundaries_after most unit n high number)
  unfolding boundaries_after
  all_boundaries_after zero number is room = nothing_left number (omega (arith, ints, room))
  all_boundaries_after (suc most) number is room =
      after_by most number (following unit n number) is (following_is unit n number some is)
      (λ b inside from.
      let near = (whole_of number).near in
      let whole = whole_of_instant b in
      let next = all_boundaries_after most (instant_number b) inside (omega (arith, ints, near, from, room)) in
      subst (λ i. AreAll (IsAfter unit n i high) (boundaries_after most unit n high (instant_number b))) whole next)

-- ---- the first end of the domain

whole_by : (number : ℤ) → is_whole number ≡ true → number ≡ instant_number (whole_milliseconds number)
whole_by (pos n) h = let none = eqb-true (n % million) 0 h in omega (arith, ints, none)
whole_by (negsuc n) h = let none = eqb-true (suc n % million) 0 h in omega (arith, ints, none)

is_whole_instant : (b : ℤ) → is_whole (instant_number b) ≡ true
is_whole_instant b =
    let size : unsigned_abs (instant_number b) ≡ unsigned_abs b * million = unsigned_abs-mul b (pos million) in
    let none : unsigned_abs (instant_number b) % million ≡ 0 = omega (arith, size) in
    ap (λ k. eqb k 0) none

module _ (unit : Unit) (n : ℕ) (domain : ℤ × ℤ) where
  -- it is a boundary
  from_boundary : (later : List ℤ) → domain.0 ≤ℤ domain.1 → is_boundary_number unit n domain.0 ≡ true
      → AreAll (IsAfter unit n (whole_milliseconds domain.0) domain.1) later → AreAll (IsBoundaryIn unit n domain) (domain.0 ∷ later)
  unfolding is_boundary_number
  from_boundary later h e all =
      let parts = and_parts (is_whole domain.0) (is_boundary unit n (whole_milliseconds domain.0)) e in
      let is = whole_by domain.0 parts.0 in
      all_after (IsBoundaryIn unit n domain) domain.0 later
      (record { instant = whole_milliseconds domain.0; number = is; boundary = parts.1; not_below = omega (arith, ints); not_above = h })
      (λ z b.
      let from = b.not_below in
      ⊎_elim (λ (l : domain.0 <ℤ z). inr l) (λ (l : z ≤ℤ domain.0). inl (omega (arith, ints, l, from))) (cases_lt_int domain.0 z))
      (all_same (IsAfter unit n (whole_milliseconds domain.0) domain.1) (λ z. IsBoundaryIn unit n domain z × (domain.0 <ℤ z)) later
      (λ z a.
      let number = a.number in let past = a.after in (
        record { instant = a.instant; number = number; boundary = a.boundary; not_below = omega (arith, ints, number, past, is); not_above = a.not_above },
        omega (arith, ints, number, past, is),
      ))
      (λ z b.
      let number = b.0.number in let past = b.1 in
      record { instant = b.0.instant; number = number; boundary = b.0.boundary; after = omega (arith, ints, number, past, is); not_above = b.0.not_above })
      all)

  -- it is none
  from_none : (later : List ℤ) → is_boundary_number unit n domain.0 ≡ false
      → AreAll (IsAfter unit n (whole_milliseconds domain.0) domain.1) later → AreAll (IsBoundaryIn unit n domain) later
  unfolding is_boundary_number
  from_none later e all =
      all_same (IsAfter unit n (whole_milliseconds domain.0) domain.1) (IsBoundaryIn unit n domain) later
      (λ z a.
      let number = a.number in let past = a.after in let near = (whole_of domain.0).near in
      record { instant = a.instant; number = number; boundary = a.boundary; not_below = omega (arith, ints, number, past, near); not_above = a.not_above })
      (λ z b. record { instant = b.instant; number = b.number; boundary = b.boundary; after = after_end z b; not_above = b.not_above })
      all
    where
      after_end : (z : ℤ) → (b : IsBoundaryIn unit n domain z) → whole_milliseconds domain.0 <ℤ b.instant
      after_end z b =
          let number = b.number in let from = b.not_below in let below = (whole_of domain.0).not_above in
          ⊎_elim
          (λ (l : whole_milliseconds domain.0 <ℤ b.instant). l)
          (λ (l : b.instant ≤ℤ whole_milliseconds domain.0).
          let same : b.instant ≡ whole_milliseconds domain.0 = omega (arith, ints, number, from, below, l) in
          let is : domain.0 ≡ instant_number b.instant = omega (arith, ints, number, from, below, same) in
          let whole = ap is_whole is ∙ is_whole_instant b.instant in
          let boundary = ap (is_boundary unit n) (sym same) ∙ b.boundary in
          absurd (true_or_false _ (and_from (is_whole domain.0) (is_boundary unit n (whole_milliseconds domain.0)) whole boundary) e))
          (cases_lt_int (whole_milliseconds domain.0) b.instant)

  from_end : (later : List ℤ) (first : Bool) → domain.0 ≤ℤ domain.1 → is_boundary_number unit n domain.0 ≡ first
      → AreAll (IsAfter unit n (whole_milliseconds domain.0) domain.1) later
      → AreAll (IsBoundaryIn unit n domain) ((if first then domain.0 ∷ [] else []) ++ later)
  from_end later true h e all = from_boundary later h e all
  from_end later false h e all = from_none later e all

-- those on the way are all boundaries in the domain
all_on_the_way : (unit : Unit) (n : ℕ) (domain : ℤ × ℤ) → 1 ≤ n → domain.0 ≤ℤ domain.1
    → IsTrue (stands_for_instant domain.0) → IsTrue (stands_for_instant domain.1)
    → AreAll (IsBoundaryIn unit n domain) (boundaries_on_the_way unit n domain)
unfolding boundaries_on_the_way
all_on_the_way unit n domain some h first last =
    let room : (domain.1 -ℤ domain.0) ≤ℤ pos (span_of domain) = omega (arith, ints, h) in
    from_end unit n domain (boundaries_after (span_of domain) unit n domain.1 domain.0) (is_boundary_number unit n domain.0) h refl
    (all_boundaries_after unit n some domain.1 (in_bounds domain.1 last) (span_of domain) domain.0 (in_bounds domain.0 first) room)

-- ---- the whole milliseconds that are boundaries

pub boundaries_are_all : BoundariesAreAll
unfolding boundaries_in is_boundary_number
boundaries_are_all unit n domain h =
    all_same (λ z. IsMultipleIn (pos million) domain z × (is_boundary_number unit n z ≡ true)) (IsBoundaryIn unit n domain)
    (filter (is_boundary_number unit n) (multiples_in (pos million) domain)) to back
    (all_passing (IsMultipleIn (pos million) domain) (is_boundary_number unit n) (multiples_in (pos million) domain)
    (multiples_are_all (pos million) domain (omega (arith, ints)) h))
  where
    to : (z : ℤ) → IsMultipleIn (pos million) domain z × (is_boundary_number unit n z ≡ true) → IsBoundaryIn unit n domain z
    to z m =
        let parts = and_parts (is_whole z) (is_boundary unit n (whole_milliseconds z)) m.1 in
        record {
          instant = whole_milliseconds z;
          number = whole_by z parts.0;
          boundary = parts.1;
          not_below = m.0.not_below;
          not_above = m.0.not_above;
        }

    back : (z : ℤ) → IsBoundaryIn unit n domain z → IsMultipleIn (pos million) domain z × (is_boundary_number unit n z ≡ true)
    back z b =
        let whole = ap is_whole b.number ∙ is_whole_instant b.instant in
        let there = ap (is_boundary unit n) (ap whole_milliseconds b.number ∙ whole_of_instant b.instant) ∙ b.boundary in (
          record { times = b.instant; multiple = b.number; not_below = b.not_below; not_above = b.not_above },
          and_from (is_whole z) (is_boundary unit n (whole_milliseconds z)) whole there,
        )

pub on_the_way : (unit : Unit) (n : ℕ) (domain : ℤ × ℤ) → 1 ≤ n → domain.0 ≤ℤ domain.1
    → IsTrue (stands_for_instant domain.0) → IsTrue (stands_for_instant domain.1)
    → boundaries_on_the_way unit n domain ≡ boundaries_in unit n domain
on_the_way unit n domain some h first last =
    all_are_one (IsBoundaryIn unit n domain) (boundaries_on_the_way unit n domain) (boundaries_in unit n domain)
    (all_on_the_way unit n domain some h first last) (boundaries_are_all unit n domain h)
