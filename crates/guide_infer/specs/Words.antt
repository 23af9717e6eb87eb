-- The words of titles: those of operations and of units of time.
use Rattle.std.specs.Prelude.{◌≡◌, refl, ℕ, ◌==◌, if◌then◌else◌, List, [], codes, unwrap_or, slice_get}
use Rattle.case_table.specs.Names.{time_units}

-- the word of an operation by its code
unfoldable pub operation_word : ℕ → List ℕ
operation_word op =
    if op == 1 then codes "Valid"
    else (if op == 2 then codes "Missing"
    else (if op == 3 then codes "Distinct"
    else (if op == 4 then codes "Sum"
    else (if op == 5 then codes "Mean"
    else (if op == 6 then codes "Average"
    else (if op == 7 then codes "Min"
    else (if op == 8 then codes "Max"
    else (if op == 9 then codes "Median"
    else (if op == 10 then codes "Q1"
    else (if op == 11 then codes "Q3"
    else codes "Count"))))))))))

-- the name of a unit of time by its code, empty where there is none
unfoldable pub unit_word : ℕ → List ℕ
unit_word code = unwrap_or (slice_get time_units code) []

-- The rules at work.

the_words_of_operations : (operation_word 0 ≡ codes "Count") × (operation_word 5 ≡ codes "Mean") × (operation_word 11 ≡ codes "Q3")
unfolding operation_word
the_words_of_operations = (refl, refl, refl)

the_words_of_units : (unit_word 3 ≡ codes "yearmonth") × (unit_word 19 ≡ codes "utcyearmonth") × (unit_word 32 ≡ [])
unfolding unit_word
the_words_of_units = (refl, refl, refl)
