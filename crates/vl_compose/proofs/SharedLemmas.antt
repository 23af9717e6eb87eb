-- Each unit shares each of its scales once.
use Rattle.std.proofs.Common.{◌≡◌, ℕ, zero, suc, ◌+◌, ◌<◌, Bool, true, false, ◌&&◌, ◌||◌, Some, List, [], ◌∷◌, ◌++◌, map, cond, eqb, refl}
use Rattle.std.proofs.Common.{sym, ap, ◌∙◌, subst, arith}
use Rattle.std.specs.Prelude.{filter, flat_map, slice_get}
use Rattle.std.specs.Option.{option_map_or}
use Rattle.std.specs.List.{enumerate_from, list_any}
use Rattle.std.proofs.lemmas.Bool.{eqb-true, eq-eqb, ne_eqb}
use Rattle.std.proofs.lemmas.List.{append-nil, map-append}
use Rattle.std.proofs.lemmas.List.Elements.{filter-append}
use Rattle.vl_normalize.specs.Channels.{shown}
use Rattle.vl_normalize.specs.declared.codes.TheConstants.{X, Y, COLOR, OPACITY, SIZE, SHAPE}
use Rattle.vl_compose.specs.declared.groups.Homed.{Homed}
use Rattle.vl_compose.specs.Definitions.{has_own_scale, definitions_of}
use Rattle.vl_compose.specs.Rounds.{Round, rounds_of}
use Rattle.vl_compose.specs.Shared.{is_shared_by, EachUnitSharesOnce}
use Rattle.vl_compose.specs.Sharing.{is_filled, has_scale, homed, homed_for, sharing_at, leads, group_at, groups_among, shared_by, scale_channels, resolve_of}
use Rattle.vl_compose.specs.Units.{UnitAt, unit_at, units_of, ends_in_unit}
use Rattle.vl_compose.proofs.FirstsLemmas.{filter_behind_map, or_left, or_right, same_either_way, Apart, apart_kept, Leads, one_leads}

-- ---- the numbers of units

number_of : UnitAt → ℕ
number_of unit = unit.number

one_unit : ℕ × Round → UnitAt
one_unit n = unit_at n.0 n.1

none_lower : (n k : ℕ) (rounds : List Round) → n < k →
    list_any (λ m. eqb m n) (map (λ (u : UnitAt). u.number) (map (λ (m : ℕ × Round). unit_at m.0 m.1) (enumerate_from k rounds))) ≡ false
none_lower n k [] below = refl
none_lower n k (r ∷ rs) below =
    let other : eqb k n ≡ false = ne_eqb k n (λ same. absurd (omega arith)) in
    let rest : n < k + 1 = omega arith in
    λ i. other i || none_lower n (k + 1) rs rest i

apart_numbers : (k : ℕ) (rounds : List Round) →
    Apart (map (λ (u : UnitAt). u.number) (map (λ (m : ℕ × Round). unit_at m.0 m.1) (enumerate_from k rounds)))
apart_numbers k [] = tt
apart_numbers k (r ∷ rs) =
    let next : k < k + 1 = omega arith in
    (none_lower k (k + 1) rs next, apart_numbers (k + 1) rs)

-- the unit at a place has the place as its number
number_at : (k n : ℕ) (rounds : List Round) (unit : UnitAt) →
    slice_get (map (λ (m : ℕ × Round). unit_at m.0 m.1) (enumerate_from k rounds)) n ≡ Some unit → unit.number ≡ k + n
number_at k n [] unit found = absurd (cc)
number_at k zero (r ∷ rs) unit found =
    let same : Some (unit_at k r) ≡ Some unit = found in
    let number : k ≡ unit.number = ap (λ o. option_map_or (λ (u : UnitAt). u.number) o k) same in
    omega arith
number_at k (suc n) (r ∷ rs) unit found =
    let further : unit.number ≡ (k + 1) + n = number_at (k + 1) n rs unit found in
    omega arith

-- what stands at a place, with what stands before and behind it
record Parts {A : Type 0} (xs : List A) (x : A) : Type 0 where
  front : List A
  back : List A
  are : xs ≡ front ++ x ∷ back

parts_at : {A : Type 0} (xs : List A) (n : ℕ) (x : A) → slice_get xs n ≡ Some x → Parts xs x
parts_at [] n x found = absurd (cc)
parts_at {A} (y ∷ ys) zero x found =
    let same : y ≡ x = ap (λ o. option_map_or (λ z. z) o y) found in
    record { front = []; back = ys; are = ap (λ z. z ∷ ys) same }
parts_at (y ∷ ys) (suc n) x found =
    let inside = parts_at ys n x found in
    record { front = y ∷ inside.front; back = inside.back; are = ap (λ zs. y ∷ zs) inside.are }

-- ---- the scales of one channel

homed_parts : (code : ℕ) (front back : List UnitAt) (unit : UnitAt) → has_scale code unit ≡ true →
    homed_for code (front ++ unit ∷ back) ≡ homed_for code front ++ homed code unit ∷ homed_for code back
homed_parts code front back unit has =
    ap (map (homed code)) (filter-append (has_scale code) front (unit ∷ back))
    ∙ map-append (homed code) (filter (has_scale code) front) (filter (has_scale code) (unit ∷ back))
    ∙ (λ i. homed_for code front ++ map (homed code) (cond (has i) (unit ∷ filter (has_scale code) back) (filter (has_scale code) back)))

same_numbers : (code : ℕ) (units : List UnitAt) → map (λ (h : Homed). h.number) (map (homed code) units) ≡ map (λ (u : UnitAt). u.number) units
same_numbers code [] = refl
same_numbers code (u ∷ us) = ap (λ ns. u.number ∷ ns) (same_numbers code us)

apart_homed : (code : ℕ) (units : List UnitAt) → Apart (map (λ (u : UnitAt). u.number) units) → Apart (map (λ (h : Homed). h.number) (homed_for code units))
apart_homed code units apart =
    subst Apart (sym (same_numbers code (filter (has_scale code) units))) (apart_kept (λ (u : UnitAt). u.number) (has_scale code) units apart)

-- of the scales of its channel a unit shares one
shared_once : (code : ℕ) (front back : List Homed) (h : Homed) → Apart (map (λ (h : Homed). h.number) (front ++ h ∷ back)) →
    filter (is_shared_by code h.number) (groups_among code (front ++ h ∷ back)) ≡ group_at code (front ++ h ∷ back) h ∷ []
shared_once code front back h apart =
    let all : List Homed = front ++ h ∷ back in
    let found : Leads (λ (h : Homed). h.number) (λ (h : Homed). h.home) all h =
    one_leads (λ (h : Homed). h.number) (λ (h : Homed). h.home) front back h apart in
    filter_behind_map (group_at code all) (is_shared_by code h.number) (filter (leads all) all)
    ∙ (λ i. map (group_at code all)
    (filter (λ (y : Homed). eq-eqb code code refl i && list_any (λ m. eqb m h.number) (sharing_at all y.home)) (filter (leads all) all)))
    ∙ ap (map (group_at code all)) found.alone
    ∙ (λ i. record { channel = code; units = sharing_at all (found.home_is i) } ∷ [])

-- of those of another channel it shares none
none_of_another : (code other number : ℕ) (all list : List Homed) → eqb other code ≡ false →
    filter (is_shared_by code number) (map (group_at other all) list) ≡ []
none_of_another code other number all [] apart = refl
none_of_another code other number all (h ∷ hs) apart =
    λ i. cond (apart i && list_any (λ m. eqb m number) (sharing_at all h.home)) (group_at other all h ∷ none_of_another code other number all hs apart i)
    (none_of_another code other number all hs apart i)

-- ---- the scales of all channels

none_among : (code number : ℕ) (units : List UnitAt) (channels : List ℕ) → list_any (λ m. eqb m code) channels ≡ false →
    filter (is_shared_by code number) (flat_map (shared_by units) channels) ≡ []
none_among code number units [] none = refl
none_among code number units (c ∷ cs) none =
    filter-append (is_shared_by code number) (shared_by units c) (flat_map (shared_by units) cs)
    ∙ (λ i. none_of_another code c number (homed_for c units) (filter (leads (homed_for c units)) (homed_for c units))
    (or_left (eqb c code) (list_any (λ m. eqb m code) cs) none) i
    ++ none_among code number units cs (or_right (eqb c code) (list_any (λ m. eqb m code) cs) none) i)

one_among : (code number : ℕ) (units : List UnitAt) (channels : List ℕ) → Apart channels → list_any (λ m. eqb m code) channels ≡ true →
    filter (is_shared_by code number) (flat_map (shared_by units) channels) ≡ filter (is_shared_by code number) (shared_by units code)
one_among code number units [] apart among = absurd (cc)
one_among code number units (c ∷ cs) apart among =
    filter-append (is_shared_by code number) (shared_by units c) (flat_map (shared_by units) cs)
    ∙ here (eqb c code) refl (one_among code number units cs apart.1)
  where
    here : (t : Bool) → eqb c code ≡ t →
        (list_any (λ m. eqb m code) cs ≡ true →
        filter (is_shared_by code number) (flat_map (shared_by units) cs) ≡ filter (is_shared_by code number) (shared_by units code)) →
        filter (is_shared_by code number) (shared_by units c) ++ filter (is_shared_by code number) (flat_map (shared_by units) cs)
        ≡ filter (is_shared_by code number) (shared_by units code)
    here true e next =
        let same : c ≡ code = eqb-true c code e in
        (λ i. filter (is_shared_by code number) (shared_by units (same i))
        ++ none_among code number units cs (subst (λ k. list_any (λ m. eqb m k) cs ≡ false) same apart.0) i)
        ∙ append-nil (filter (is_shared_by code number) (shared_by units code))
    here false e next =
        (λ i. none_of_another code c number (homed_for c units) (filter (leads (homed_for c units)) (homed_for c units)) e i
        ++ next ((λ i. sym e i || list_any (λ m. eqb m code) cs) ∙ among) i)

any_of_six : (a b c d e f : Bool) → (a || b || c || d || e || f) ≡ true → (a || (b || (c || (d || (e || (f || false)))))) ≡ true
any_of_six true b c d e f h = refl
any_of_six false true c d e f h = refl
any_of_six false false true d e f h = refl
any_of_six false false false true e f h = refl
any_of_six false false false false true f h = refl
any_of_six false false false false false true h = refl
any_of_six false false false false false false h = h

filled_where : {A : Type 0} (b : Bool) (xs : List A) → is_filled (cond b xs []) ≡ true → b ≡ true
filled_where true xs e = refl
filled_where false xs e = e

-- a channel that bears a scale is one of those
is_among : (code : ℕ) → has_own_scale code ≡ true → list_any (λ m. eqb m code) scale_channels ≡ true
is_among code own =
    (λ i. same_either_way X code i || (same_either_way Y code i || (same_either_way COLOR code i || (same_either_way OPACITY code i
    || (same_either_way SIZE code i || (same_either_way SHAPE code i || false))))))
    ∙ any_of_six (eqb code X) (eqb code Y) (eqb code COLOR) (eqb code OPACITY) (eqb code SIZE) (eqb code SHAPE) own

channels_apart : Apart scale_channels
channels_apart = (refl, (refl, (refl, (refl, (refl, (refl, tt))))))

-- ---- the law

of_its_channel : (code : ℕ) (units : List UnitAt) (unit : UnitAt) → Parts units unit →
    Apart (map (λ (u : UnitAt). u.number) units) → has_scale code unit ≡ true →
    filter (is_shared_by code unit.number) (shared_by units code) ≡ group_at code (homed_for code units) (homed code unit) ∷ []
of_its_channel code units unit parts apart has =
    let are : homed_for code units ≡ homed_for code parts.front ++ homed code unit ∷ homed_for code parts.back =
    ap (homed_for code) parts.are ∙ homed_parts code parts.front parts.back unit has in
    subst (λ hs. filter (is_shared_by code unit.number) (groups_among code hs) ≡ group_at code hs (homed code unit) ∷ []) (sym are)
    (shared_once code (homed_for code parts.front) (homed_for code parts.back) (homed code unit)
    (subst (λ hs. Apart (map (λ (h : Homed). h.number) hs)) are (apart_homed code units apart)))

pub each_unit : EachUnitSharesOnce
each_unit s code number unit found has =
    let rounds : List Round = filter ends_in_unit (rounds_of s) in
    let counted : unit.number ≡ 0 + number = number_at 0 number rounds unit found in
    let same : number ≡ unit.number = omega arith in
    let own : has_own_scale code ≡ true = filled_where (has_own_scale code) (option_map_or definitions_of (shown unit.channels code) []) has in
    ap (λ n. filter (is_shared_by code n) (resolve_of s)) same
    ∙ one_among code unit.number (units_of s) scale_channels channels_apart (is_among code own)
    ∙ of_its_channel code (units_of s) unit (parts_at (units_of s) number unit found) (apart_numbers 0 rounds) has
