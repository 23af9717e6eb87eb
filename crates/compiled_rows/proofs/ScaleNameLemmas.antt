-- A name of a scale is read back: its word by the bytes before the first digit, its number by its digits, and the direction of a drag by the last byte.
use Rattle.std.proofs.Common.{◌≡◌, refl, sym, ap, ◌∙◌, ℕ, ◌==◌, if◌then◌else◌, List, [], ◌∷◌, ◌++◌, append_assoc, codes, decimal, get_or, slice_get, unwrap_or}
use Rattle.std.specs.Option.{option_map_or}
use Rattle.std.specs.Str.Parse.{digits_value}
use Rattle.case_table.specs.Names.{index_of}
use Rattle.plan_kit.specs.declared.scales.ScalePlan.{ScalePlan}
use Rattle.vega_assemble.specs.Names.{channel_word, numbered}
use Rattle.compiled_rows.specs.Names.{IsPlace}
use Rattle.compiled_rows.specs.ScaleNames.{Bearer, OnX, OnY, OnColor, OnOpacity, OnSize, OnShape, Direction, Across, Down, direction_code, MadeScale, PlanScale}
use Rattle.compiled_rows.specs.ScaleNames.{MiddleScale, FootScale, DragScale, made_scale_name, ScaleHasPlaces, ScaleNamesDiffer, PlanScalesAreNamed}
use Rattle.compiled_rows.proofs.NameLemmas.{behind, behind_alone, behind_before, cancelled, first_in, first_of_one, front, front_before, letters, letters_begun}
use Rattle.compiled_rows.proofs.NameLemmas.{letters_one}
use Rattle.compiled_rows.proofs.NameLemmas.{nil_behind, numbers, numbers_begun, numbers_one, numeral, one, value_back}

-- ---- a number and a letter behind it

abbrev lettered : ℕ → ℕ → List ℕ
lettered n letter = decimal n ++ codes "_" ++ letter ∷ []

lettered_apart : (n letter : ℕ) → lettered n letter ≡ decimal n ++ 95 ∷ letter ∷ []
lettered_apart n letter = append_assoc (decimal n) (codes "_") (letter ∷ [])

letters_lettered : (n letter : ℕ) → IsPlace n → letters (lettered n letter) ≡ []
letters_lettered n letter h = ap letters (lettered_apart n letter) ∙ letters_begun (decimal n) (95 ∷ letter ∷ []) (numeral n h)

numbers_lettered : (n letter : ℕ) → IsPlace n → numbers (lettered n letter) ≡ decimal n ++ 95 ∷ letter ∷ []
numbers_lettered n letter h = ap numbers (lettered_apart n letter) ∙ numbers_begun (decimal n) (95 ∷ letter ∷ []) (numeral n h)

first_of_lettered : (n letter : ℕ) → IsPlace n → first_in (lettered n letter) ≡ n
first_of_lettered n letter h =
    ap (λ t. digits_value 10 (front t)) (numbers_lettered n letter h) ∙ ap (digits_value 10) (front_before (decimal n) (letter ∷ []) (numeral n h).1)
    ∙ value_back n h

-- ---- what a name says

abbrev scale_words : List (List ℕ)
scale_words =
    codes "x_" ∷ codes "y_" ∷ codes "color_" ∷ codes "opacity_" ∷ codes "size_" ∷ codes "shape_" ∷ codes "middle_x" ∷ codes "middle_y" ∷ codes "foot_x" ∷
    codes "foot_y" ∷ codes "drag_" ∷ []

abbrev word_in : List ℕ → ℕ
word_in name = unwrap_or (index_of scale_words (letters name)) 0

-- the byte behind a number
abbrev letter_in : List ℕ → ℕ
letter_in name = get_or (behind (numbers name)) 0 0

letter_of_one : (n : ℕ) → IsPlace n → letter_in (one n) ≡ 0
letter_of_one n h = ap (λ t. get_or (behind t) 0 0) (numbers_one n h) ∙ ap (λ t. get_or t 0 0) (behind_alone (decimal n) (numeral n h).1)

letter_of_lettered : (n letter : ℕ) → IsPlace n → letter_in (lettered n letter) ≡ letter
letter_of_lettered n letter h =
    ap (λ t. get_or (behind t) 0 0) (numbers_lettered n letter h) ∙ ap (λ t. get_or t 0 0) (behind_before (decimal n) (letter ∷ []) (numeral n h).1)

-- ---- names and what they are for

abbrev bearer_kind : Bearer → ℕ
bearer_kind OnX = 0
bearer_kind OnY = 1
bearer_kind OnColor = 2
bearer_kind OnOpacity = 3
bearer_kind OnSize = 4
bearer_kind OnShape = 5

abbrev scale_kind : MadeScale → ℕ
scale_kind (PlanScale b n) = bearer_kind b
scale_kind (MiddleScale Across) = 6
scale_kind (MiddleScale Down) = 7
scale_kind (FootScale Across) = 8
scale_kind (FootScale Down) = 9
scale_kind (DragScale n d) = 10

abbrev scale_number : MadeScale → ℕ
scale_number (PlanScale b n) = n
scale_number (MiddleScale d) = 0
scale_number (FootScale d) = 0
scale_number (DragScale n d) = n

abbrev letter_of : Direction → ℕ
letter_of Across = 120
letter_of Down = 121

abbrev scale_letter : MadeScale → ℕ
scale_letter (PlanScale b n) = 0
scale_letter (MiddleScale d) = 0
scale_letter (FootScale d) = 0
scale_letter (DragScale n d) = letter_of d

abbrev direction_by : ℕ → Direction
direction_by letter = if letter == 120 then Across else Down

abbrev scales_by : ℕ → ℕ → List MadeScale
scales_by n letter =
    PlanScale OnX n ∷ PlanScale OnY n ∷ PlanScale OnColor n ∷ PlanScale OnOpacity n ∷ PlanScale OnSize n ∷ PlanScale OnShape n ∷ MiddleScale Across ∷
    MiddleScale Down ∷ FootScale Across ∷ FootScale Down ∷ DragScale n (direction_by letter) ∷ []

abbrev scale_by : ℕ → ℕ → ℕ → MadeScale
scale_by k n letter = unwrap_or (slice_get (scales_by n letter) k) (MiddleScale Across)

scale_back : (a : MadeScale) → scale_by (scale_kind a) (scale_number a) (scale_letter a) ≡ a
scale_back (PlanScale OnX n) = refl
scale_back (PlanScale OnY n) = refl
scale_back (PlanScale OnColor n) = refl
scale_back (PlanScale OnOpacity n) = refl
scale_back (PlanScale OnSize n) = refl
scale_back (PlanScale OnShape n) = refl
scale_back (MiddleScale Across) = refl
scale_back (MiddleScale Down) = refl
scale_back (FootScale Across) = refl
scale_back (FootScale Down) = refl
scale_back (DragScale n Across) = refl
scale_back (DragScale n Down) = refl

-- ---- names are read back

word_read : (word : List ℕ) (t : List ℕ) → t ≡ [] → unwrap_or (index_of scale_words (word ++ t)) 0 ≡ unwrap_or (index_of scale_words word) 0
word_read word t e =
    ap (λ s. unwrap_or (index_of scale_words (word ++ s)) 0) e ∙ ap (λ s. unwrap_or (index_of scale_words s) 0) (nil_behind word)

word_back : (a : MadeScale) → ScaleHasPlaces a → word_in (made_scale_name [] a) ≡ scale_kind a
word_back (PlanScale OnX n) h = word_read (codes "x_") (letters (one n)) (letters_one n h)
word_back (PlanScale OnY n) h = word_read (codes "y_") (letters (one n)) (letters_one n h)
word_back (PlanScale OnColor n) h = word_read (codes "color_") (letters (one n)) (letters_one n h)
word_back (PlanScale OnOpacity n) h = word_read (codes "opacity_") (letters (one n)) (letters_one n h)
word_back (PlanScale OnSize n) h = word_read (codes "size_") (letters (one n)) (letters_one n h)
word_back (PlanScale OnShape n) h = word_read (codes "shape_") (letters (one n)) (letters_one n h)
word_back (MiddleScale Across) h = refl
word_back (MiddleScale Down) h = refl
word_back (FootScale Across) h = refl
word_back (FootScale Down) h = refl
word_back (DragScale n Across) h = word_read (codes "drag_") (letters (lettered n 120)) (letters_lettered n 120 h)
word_back (DragScale n Down) h = word_read (codes "drag_") (letters (lettered n 121)) (letters_lettered n 121 h)

number_back : (a : MadeScale) → ScaleHasPlaces a → first_in (made_scale_name [] a) ≡ scale_number a
number_back (PlanScale OnX n) h = first_of_one n h
number_back (PlanScale OnY n) h = first_of_one n h
number_back (PlanScale OnColor n) h = first_of_one n h
number_back (PlanScale OnOpacity n) h = first_of_one n h
number_back (PlanScale OnSize n) h = first_of_one n h
number_back (PlanScale OnShape n) h = first_of_one n h
number_back (MiddleScale Across) h = refl
number_back (MiddleScale Down) h = refl
number_back (FootScale Across) h = refl
number_back (FootScale Down) h = refl
number_back (DragScale n Across) h = first_of_lettered n 120 h
number_back (DragScale n Down) h = first_of_lettered n 121 h

letter_back : (a : MadeScale) → ScaleHasPlaces a → letter_in (made_scale_name [] a) ≡ scale_letter a
letter_back (PlanScale OnX n) h = letter_of_one n h
letter_back (PlanScale OnY n) h = letter_of_one n h
letter_back (PlanScale OnColor n) h = letter_of_one n h
letter_back (PlanScale OnOpacity n) h = letter_of_one n h
letter_back (PlanScale OnSize n) h = letter_of_one n h
letter_back (PlanScale OnShape n) h = letter_of_one n h
letter_back (MiddleScale Across) h = refl
letter_back (MiddleScale Down) h = refl
letter_back (FootScale Across) h = refl
letter_back (FootScale Down) h = refl
letter_back (DragScale n Across) h = letter_of_lettered n 120 h
letter_back (DragScale n Down) h = letter_of_lettered n 121 h

scale_stem_first : (stem : List ℕ) (a : MadeScale) → made_scale_name stem a ≡ stem ++ made_scale_name [] a
scale_stem_first stem (PlanScale b n) = refl
scale_stem_first stem (MiddleScale d) = append_assoc stem (codes "middle_") (channel_word (direction_code d))
scale_stem_first stem (FootScale d) = append_assoc stem (codes "foot_") (channel_word (direction_code d))
scale_stem_first stem (DragScale n d) =
    append_assoc (stem ++ numbered (codes "drag") n) (codes "_") (channel_word (direction_code d))
    ∙ append_assoc stem (numbered (codes "drag") n) (codes "_" ++ channel_word (direction_code d))
    ∙ ap (λ t. stem ++ t) (sym (append_assoc (numbered (codes "drag") n) (codes "_") (channel_word (direction_code d))))

same_without_stem : (a b : MadeScale) → ScaleHasPlaces a → ScaleHasPlaces b → made_scale_name [] a ≡ made_scale_name [] b → a ≡ b
same_without_stem a b p q e =
    let kinds : scale_kind a ≡ scale_kind b = sym (word_back a p) ∙ ap word_in e ∙ word_back b q in
    let numbered_alike : scale_number a ≡ scale_number b = sym (number_back a p) ∙ ap first_in e ∙ number_back b q in
    let lettered_alike : scale_letter a ≡ scale_letter b = sym (letter_back a p) ∙ ap letter_in e ∙ letter_back b q in
    sym (scale_back a) ∙ (λ i. scale_by (kinds i) (numbered_alike i) (lettered_alike i)) ∙ scale_back b

pub scale_names_differ : ScaleNamesDiffer
scale_names_differ stem a b p q e =
    same_without_stem a b p q (cancelled stem (made_scale_name [] a) (made_scale_name [] b) (sym (scale_stem_first stem a) ∙ e ∙ scale_stem_first stem b))

pub plan_scales_are_named : PlanScalesAreNamed
plan_scales_are_named stem scales n s b at bears =
    ap (λ o. stem ++ numbered (option_map_or (λ (scale : ScalePlan). channel_word scale.channel) o []) n) at
    ∙ ap (λ code. stem ++ numbered (channel_word code) n) bears
