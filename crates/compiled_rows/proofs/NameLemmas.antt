-- A name that is made is read back: its word by the bytes before the first digit, its numbers by their digits.
use Rattle.std.proofs.Common.{◌≡◌, refl, sym, ap, ◌∙◌, ℕ, Bool, true, ◌&&◌, nat_le, if◌then◌else◌, List, [], ◌∷◌, ◌++◌, drop}
use Rattle.std.proofs.Common.{arith, codes, decimal, unwrap_or, slice_get, append_assoc}
use Rattle.std.specs.Str.Parse.{AllDigits, digits_value, IsNumeral}
use Rattle.std.proofs.lemmas.Bool.Decides.{nat_tests}
use Rattle.std.proofs.lemmas.Fmt.{decimal_is_IsNumeral}
use Rattle.std.proofs.lemmas.Str.Parse.{digit_from_value}
use Rattle.case_table.specs.Names.{index_of}
use Rattle.vega_assemble.specs.Names.{words}
use Rattle.compiled_rows.specs.Names.{MadeName, NoneName, UnitName, BegunName, CellsName, RanksName, CodesName, OuterName, OrdersName, KeysName, CellColumn}
use Rattle.compiled_rows.specs.Names.{RankColumn, KeyColumn, MarkName, made_name, IsPlace, HasPlaces, MadeNamesDiffer}

-- ---- digits among bytes

abbrev is_digit : ℕ → Bool
is_digit byte = nat_le 48 byte && nat_le byte 57

-- the bytes before the first digit, and those from there on
abbrev pub letters : List ℕ → List ℕ
letters [] = []
letters (c ∷ cs) = if is_digit c then [] else c ∷ letters cs

abbrev pub numbers : List ℕ → List ℕ
numbers [] = []
numbers (c ∷ cs) = if is_digit c then c ∷ cs else numbers cs

-- the digits with which bytes begin, and what stands behind the byte after them
abbrev pub front : List ℕ → List ℕ
front [] = []
front (c ∷ cs) = if is_digit c then c ∷ front cs else []

abbrev pub behind : List ℕ → List ℕ
behind [] = []
behind (c ∷ cs) = if is_digit c then behind cs else cs

digit_is : (c : ℕ) (ds : List ℕ) → AllDigits 10 (c ∷ ds) → is_digit c ≡ true
digit_is c ds d = let k = digit_from_value c d.0 in grind (arith, nat_tests)

front_alone : (ds : List ℕ) → AllDigits 10 ds → front ds ≡ ds
front_alone [] d = refl
front_alone (c ∷ ds) d = ap (λ b. if b then c ∷ front ds else []) (digit_is c ds d) ∙ ap (λ t. c ∷ t) (front_alone ds d.1)

pub front_before : (ds rest : List ℕ) → AllDigits 10 ds → front (ds ++ 95 ∷ rest) ≡ ds
front_before [] rest d = refl
front_before (c ∷ ds) rest d =
    ap (λ b. if b then c ∷ front (ds ++ 95 ∷ rest) else []) (digit_is c ds d) ∙ ap (λ t. c ∷ t) (front_before ds rest d.1)

pub behind_alone : (ds : List ℕ) → AllDigits 10 ds → behind ds ≡ []
behind_alone [] d = refl
behind_alone (c ∷ ds) d = ap (λ b. if b then behind ds else ds) (digit_is c ds d) ∙ behind_alone ds d.1

pub behind_before : (ds rest : List ℕ) → AllDigits 10 ds → behind (ds ++ 95 ∷ rest) ≡ rest
behind_before [] rest d = refl
behind_before (c ∷ ds) rest d =
    ap (λ b. if b then behind (ds ++ 95 ∷ rest) else ds ++ 95 ∷ rest) (digit_is c ds d) ∙ behind_before ds rest d.1

pub letters_begun : (ds rest : List ℕ) → IsNumeral 10 ds → letters (ds ++ rest) ≡ []
letters_begun [] rest d = absurd (omega (arith, d.0))
letters_begun (c ∷ ds) rest d = ap (λ b. if b then [] else c ∷ letters (ds ++ rest)) (digit_is c ds d.1)

pub numbers_begun : (ds rest : List ℕ) → IsNumeral 10 ds → numbers (ds ++ rest) ≡ ds ++ rest
numbers_begun [] rest d = absurd (omega (arith, d.0))
numbers_begun (c ∷ ds) rest d = ap (λ b. if b then c ∷ (ds ++ rest) else numbers (ds ++ rest)) (digit_is c ds d.1)

-- ---- one number, and two

abbrev pub one : ℕ → List ℕ
one n = decimal n

abbrev pub two : ℕ → ℕ → List ℕ
two n m = decimal n ++ codes "_" ++ decimal m

pub numeral : (n : ℕ) → IsPlace n → IsNumeral 10 (decimal n)
numeral n h = (decimal_is_IsNumeral n h).0

pub value_back : (n : ℕ) → IsPlace n → digits_value 10 (decimal n) ≡ n
value_back n h = (decimal_is_IsNumeral n h).1

two_apart : (n m : ℕ) → two n m ≡ decimal n ++ 95 ∷ decimal m
two_apart n m = append_assoc (decimal n) (codes "_") (decimal m)

pub nil_behind : (xs : List ℕ) → xs ++ [] ≡ xs
nil_behind [] = refl
nil_behind (x ∷ xs) = ap (λ t. x ∷ t) (nil_behind xs)

pub letters_one : (n : ℕ) → IsPlace n → letters (one n) ≡ []
letters_one n h = ap letters (sym (nil_behind (decimal n))) ∙ letters_begun (decimal n) [] (numeral n h)

letters_two : (n m : ℕ) → IsPlace n → letters (two n m) ≡ []
letters_two n m h = ap letters (two_apart n m) ∙ letters_begun (decimal n) (95 ∷ decimal m) (numeral n h)

pub numbers_one : (n : ℕ) → IsPlace n → numbers (one n) ≡ one n
numbers_one n h =
    ap numbers (sym (nil_behind (decimal n))) ∙ numbers_begun (decimal n) [] (numeral n h) ∙ nil_behind (decimal n)

numbers_two : (n m : ℕ) → IsPlace n → numbers (two n m) ≡ decimal n ++ 95 ∷ decimal m
numbers_two n m h = ap numbers (two_apart n m) ∙ numbers_begun (decimal n) (95 ∷ decimal m) (numeral n h)

-- ---- what a name says

abbrev kind_in : List ℕ → ℕ
kind_in name = unwrap_or (index_of words (letters name)) 0

abbrev pub first_in : List ℕ → ℕ
first_in name = digits_value 10 (front (numbers name))

abbrev second_in : List ℕ → ℕ
second_in name = digits_value 10 (front (behind (numbers name)))

pub first_of_one : (n : ℕ) → IsPlace n → first_in (one n) ≡ n
first_of_one n h =
    ap (λ t. digits_value 10 (front t)) (numbers_one n h) ∙ ap (digits_value 10) (front_alone (decimal n) (numeral n h).1) ∙ value_back n h

first_of_two : (n m : ℕ) → IsPlace n → first_in (two n m) ≡ n
first_of_two n m h =
    ap (λ t. digits_value 10 (front t)) (numbers_two n m h)
    ∙ ap (digits_value 10) (front_before (decimal n) (decimal m) (numeral n h).1)
    ∙ value_back n h

second_of_one : (n : ℕ) → IsPlace n → second_in (one n) ≡ 0
second_of_one n h =
    ap (λ t. digits_value 10 (front (behind t))) (numbers_one n h)
    ∙ ap (λ t. digits_value 10 (front t)) (behind_alone (decimal n) (numeral n h).1)

second_of_two : (n m : ℕ) → IsPlace n → IsPlace m → second_in (two n m) ≡ m
second_of_two n m h k =
    ap (λ t. digits_value 10 (front (behind t))) (numbers_two n m h)
    ∙ ap (λ t. digits_value 10 (front t)) (behind_before (decimal n) (decimal m) (numeral n h).1)
    ∙ ap (digits_value 10) (front_alone (decimal m) (numeral m k).1)
    ∙ value_back m k

-- ---- names and what they are for

abbrev kind : MadeName → ℕ
kind NoneName = 0
kind (UnitName n) = 1
kind (BegunName n) = 2
kind (CellsName n m) = 3
kind (RanksName n) = 4
kind (CodesName n m) = 5
kind (OuterName n m) = 6
kind (OrdersName n m) = 7
kind (KeysName n m) = 8
kind CellColumn = 9
kind RankColumn = 10
kind (KeyColumn n) = 11
kind (MarkName n) = 12

abbrev pub first : MadeName → ℕ
first NoneName = 0
first (UnitName n) = n
first (BegunName n) = n
first (CellsName n m) = n
first (RanksName n) = n
first (CodesName n m) = n
first (OuterName n m) = n
first (OrdersName n m) = n
first (KeysName n m) = n
first CellColumn = 0
first RankColumn = 0
first (KeyColumn n) = n
first (MarkName n) = n

abbrev second : MadeName → ℕ
second NoneName = 0
second (UnitName n) = 0
second (BegunName n) = 0
second (CellsName n m) = m
second (RanksName n) = 0
second (CodesName n m) = m
second (OuterName n m) = m
second (OrdersName n m) = m
second (KeysName n m) = m
second CellColumn = 0
second RankColumn = 0
second (KeyColumn n) = 0
second (MarkName n) = 0

-- the one of a kind with these numbers
abbrev all_of : ℕ → ℕ → List MadeName
all_of n m =
    NoneName ∷ UnitName n ∷ BegunName n ∷ CellsName n m ∷ RanksName n ∷ CodesName n m ∷ OuterName n m ∷ OrdersName n m ∷ KeysName n m ∷
    CellColumn ∷ RankColumn ∷ KeyColumn n ∷ MarkName n ∷ []

abbrev named_by : ℕ → ℕ → ℕ → MadeName
named_by k n m = unwrap_or (slice_get (all_of n m) k) NoneName

back : (a : MadeName) → named_by (kind a) (first a) (second a) ≡ a
back NoneName = refl
back (UnitName n) = refl
back (BegunName n) = refl
back (CellsName n m) = refl
back (RanksName n) = refl
back (CodesName n m) = refl
back (OuterName n m) = refl
back (OrdersName n m) = refl
back (KeysName n m) = refl
back CellColumn = refl
back RankColumn = refl
back (KeyColumn n) = refl
back (MarkName n) = refl

-- the stem stands before what a name is without one
pub stem_first : (stem : List ℕ) (a : MadeName) → made_name stem a ≡ stem ++ made_name [] a
stem_first stem NoneName = refl
stem_first stem (UnitName n) = refl
stem_first stem (BegunName n) = refl
stem_first stem (CellsName n m) = refl
stem_first stem (RanksName n) = refl
stem_first stem (CodesName n m) = refl
stem_first stem (OuterName n m) = refl
stem_first stem (OrdersName n m) = refl
stem_first stem (KeysName n m) = refl
stem_first stem CellColumn = refl
stem_first stem RankColumn = refl
stem_first stem (KeyColumn n) = refl
stem_first stem (MarkName n) = refl

-- ---- names are read back

-- the kind of a word with nothing but digits behind it
word_kind : (word : List ℕ) (t : List ℕ) → t ≡ [] → unwrap_or (index_of words (word ++ t)) 0 ≡ unwrap_or (index_of words word) 0
word_kind word t e = ap (λ s. unwrap_or (index_of words (word ++ s)) 0) e ∙ ap (λ s. unwrap_or (index_of words s) 0) (nil_behind word)

kind_back : (a : MadeName) → HasPlaces a → kind_in (made_name [] a) ≡ kind a
kind_back NoneName h = refl
kind_back (UnitName n) h = word_kind (codes "unit_") (letters (one n)) (letters_one n h)
kind_back (BegunName n) h = word_kind (codes "begun_") (letters (one n)) (letters_one n h)
kind_back (CellsName n m) h = word_kind (codes "cells_") (letters (two n m)) (letters_two n m h.0)
kind_back (RanksName n) h = word_kind (codes "ranks_") (letters (one n)) (letters_one n h)
kind_back (CodesName n m) h = word_kind (codes "codes_") (letters (two n m)) (letters_two n m h.0)
kind_back (OuterName n m) h = word_kind (codes "outer_") (letters (two n m)) (letters_two n m h.0)
kind_back (OrdersName n m) h = word_kind (codes "orders_") (letters (two n m)) (letters_two n m h.0)
kind_back (KeysName n m) h = word_kind (codes "keys_") (letters (two n m)) (letters_two n m h.0)
kind_back CellColumn h = refl
kind_back RankColumn h = refl
kind_back (KeyColumn n) h = word_kind (codes "key_") (letters (one n)) (letters_one n h)
kind_back (MarkName n) h = word_kind (codes "mark_") (letters (one n)) (letters_one n h)

first_back : (a : MadeName) → HasPlaces a → first_in (made_name [] a) ≡ first a
first_back NoneName h = refl
first_back (UnitName n) h = first_of_one n h
first_back (BegunName n) h = first_of_one n h
first_back (CellsName n m) h = first_of_two n m h.0
first_back (RanksName n) h = first_of_one n h
first_back (CodesName n m) h = first_of_two n m h.0
first_back (OuterName n m) h = first_of_two n m h.0
first_back (OrdersName n m) h = first_of_two n m h.0
first_back (KeysName n m) h = first_of_two n m h.0
first_back CellColumn h = refl
first_back RankColumn h = refl
first_back (KeyColumn n) h = first_of_one n h
first_back (MarkName n) h = first_of_one n h

second_back : (a : MadeName) → HasPlaces a → second_in (made_name [] a) ≡ second a
second_back NoneName h = refl
second_back (UnitName n) h = second_of_one n h
second_back (BegunName n) h = second_of_one n h
second_back (CellsName n m) h = second_of_two n m h.0 h.1
second_back (RanksName n) h = second_of_one n h
second_back (CodesName n m) h = second_of_two n m h.0 h.1
second_back (OuterName n m) h = second_of_two n m h.0 h.1
second_back (OrdersName n m) h = second_of_two n m h.0 h.1
second_back (KeysName n m) h = second_of_two n m h.0 h.1
second_back CellColumn h = refl
second_back RankColumn h = refl
second_back (KeyColumn n) h = second_of_one n h
second_back (MarkName n) h = second_of_one n h

-- ---- the law

pub cancelled : (stem xs ys : List ℕ) → stem ++ xs ≡ stem ++ ys → xs ≡ ys
cancelled [] xs ys e = e
cancelled (c ∷ stem) xs ys e = cancelled stem xs ys (ap (drop 1) e)

without_stem : (a b : MadeName) → HasPlaces a → HasPlaces b → made_name [] a ≡ made_name [] b → a ≡ b
without_stem a b p q e =
    let kinds : kind a ≡ kind b = sym (kind_back a p) ∙ ap kind_in e ∙ kind_back b q in
    let firsts : first a ≡ first b = sym (first_back a p) ∙ ap first_in e ∙ first_back b q in
    let seconds : second a ≡ second b = sym (second_back a p) ∙ ap second_in e ∙ second_back b q in
    sym (back a) ∙ (λ i. named_by (kinds i) (firsts i) (seconds i)) ∙ back b

pub made_names_differ : MadeNamesDiffer
made_names_differ stem a b p q e =
    without_stem a b p q (cancelled stem (made_name [] a) (made_name [] b) (sym (stem_first stem a) ∙ e ∙ stem_first stem b))
