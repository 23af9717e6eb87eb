-- The forms in which a text gives an instant. In a form some letters stand for digits, and every other byte stands for itself.
use Rattle.std.specs.Prelude.{ℕ, ◌==◌, ◌||◌, Bool, if◌then◌else◌, List, [], ◌∷◌, ◌++◌, map, filter, flat_map, find, length, codes, Option}
use Rattle.std.specs.Prelude.{Some, None, ◌≡◌, refl}
use Rattle.std.specs.List.{list_any, zip}
use Rattle.std.specs.Cmp.Lexicographic.{pointwise}
use Rattle.std.specs.Char.{is_ascii_digit}
use Rattle.fixed_num.specs.JsonNumber.{number_of}

-- the letters that stand for digits: Y of the year, M of the month, D of the day of the month, h of hours, m of minutes, s of seconds,
-- i for tenths, j for hundredths and k for thousandths of a second, g for smaller parts, p and q of the hours and minutes by which a
-- zone is ahead of UTC, u and v of those by which it is behind
abbrev pub digit_letters : List ℕ
digit_letters = codes "YMDhmsijkgpquv"

-- a byte of a form stands for a byte of a text: the letters for digits, and B for any byte of the name of a month
abbrev pub stands_for : ℕ → ℕ → Bool
stands_for f c = if list_any (λ l. l == f) digit_letters then is_ascii_digit c else ((f == 66) || (f == c))

-- a text has a form: as many bytes, each of which one of the form stands for
abbrev pub fits : List ℕ → List ℕ → Bool
fits form text = pointwise stands_for form text

-- the bytes of a text for which a letter of its form stands
unfoldable pub under : ℕ → List ℕ → List ℕ → List ℕ
under letter form text = map (λ p. p.1) (filter (λ p. p.0 == letter) (zip form text))

-- the number that the digits of a letter make
abbrev pub value : ℕ → List ℕ → List ℕ → ℕ
value letter form text = number_of (under letter form text)

-- forms of a date alone
abbrev pub date_forms : List (List ℕ)
date_forms = codes "YYYY" ∷ codes "YYYY-MM" ∷ codes "YYYY-MM-DD" ∷ codes "YYYY/MM/DD" ∷ codes "BBB D YYYY" ∷ codes "BBB DD YYYY" ∷ []

-- forms of a time of day
abbrev pub time_forms : List (List ℕ)
time_forms =
    codes "hh:mm" ∷ codes "hh:mm:ss" ∷ codes "hh:mm:ss.i" ∷ codes "hh:mm:ss.ij" ∷ codes "hh:mm:ss.ijk" ∷ codes "hh:mm:ss.ijkg" ∷
    codes "hh:mm:ss.ijkgg" ∷ codes "hh:mm:ss.ijkggg" ∷ codes "hh:mm:ss.ijkgggg" ∷ codes "hh:mm:ss.ijkggggg" ∷
    codes "hh:mm:ss.ijkgggggg" ∷ []

-- forms of a zone
abbrev pub zone_forms : List (List ℕ)
zone_forms = [] ∷ codes "Z" ∷ codes "+pp:qq" ∷ codes "-uu:vv" ∷ []

-- a date, a `T` or a space, a time and a zone
abbrev pub moment_forms : List (List ℕ)
moment_forms =
    flat_map (λ time. flat_map (λ zone. (codes "YYYY-MM-DDT" ++ time ++ zone) ∷
    (codes "YYYY-MM-DD " ++ time ++ zone) ∷ []) zone_forms) time_forms

abbrev pub forms : List (List ℕ)
forms = date_forms ++ moment_forms

-- the form that a text has
unfoldable pub instant_form : List ℕ → Option (List ℕ)
instant_form text = find (λ form. fits form text) forms

-- ---- worked examples

so_many_forms : length forms ≡ 94
so_many_forms = refl

a_moment : instant_form (codes "2024-02-29 23:59:59.5+05:30") ≡ Some (codes "YYYY-MM-DD hh:mm:ss.i+pp:qq")
unfolding instant_form
a_moment = refl

a_small_t : instant_form (codes "2024-02-29t23:59") ≡ None
unfolding instant_form
a_small_t = refl

ten_digits : instant_form (codes "2024-02-29T23:59:59.1234567890") ≡ None
unfolding instant_form
ten_digits = refl

the_zone_ahead : value 112 (codes "YYYY-MM-DD hh:mm:ss.i+pp:qq") (codes "2024-02-29 23:59:59.5+05:30") ≡ 5
unfolding under
the_zone_ahead = refl
