-- How many arguments a builtin takes.
use Rattle.std.specs.Prelude.{ℕ, List, [], ◌∷◌, Some, Bool, true, false, ◌&&◌, nat_le, slice_get, option_map, codes, ◌≡◌, refl}
use Rattle.std.specs.Option.{option_map_or}
use Rattle.case_table.specs.Names.{builtins, index_of}

-- the least and the greatest number of arguments of each builtin, by its code
abbrev pub admitted_numbers : List (ℕ × ℕ)
admitted_numbers =
    -- isValid isNumber isString isBoolean toNumber toString toDate abs ceil floor sqrt round
    (1, 1) ∷ (1, 1) ∷ (1, 1) ∷ (1, 1) ∷ (1, 1) ∷ (1, 1) ∷ (1, 1) ∷ (1, 1) ∷ (1, 1) ∷ (1, 1) ∷ (1, 1) ∷ (1, 1) ∷
    -- min max clamp if inrange length bandspace
    (2, 8) ∷ (2, 8) ∷ (3, 3) ∷ (3, 3) ∷ (2, 2) ∷ (1, 1) ∷ (3, 3) ∷
    -- year quarter month date day hours minutes seconds milliseconds
    (1, 1) ∷ (1, 1) ∷ (1, 1) ∷ (1, 1) ∷ (1, 1) ∷ (1, 1) ∷ (1, 1) ∷ (1, 1) ∷ (1, 1) ∷
    -- the same with the prefix utc
    (1, 1) ∷ (1, 1) ∷ (1, 1) ∷ (1, 1) ∷ (1, 1) ∷ (1, 1) ∷ (1, 1) ∷ (1, 1) ∷ (1, 1) ∷
    -- utc datetime
    (2, 7) ∷ (2, 7) ∷ []

-- a number lies between two numbers, both included
abbrev pub lies_between : ℕ → ℕ × ℕ → Bool
lies_between n bounds = nat_le bounds.0 n && nat_le n bounds.1

-- the builtin of this code may be called with so many arguments; no code that stands for none may be
abbrev pub admits : ℕ → ℕ → Bool
admits code count = option_map_or (lies_between count) (slice_get admitted_numbers code) false

two_arguments_of_abs : option_map (λ code. admits code 2) (index_of builtins (codes "abs")) ≡ Some false
two_arguments_of_abs = refl

eight_arguments_of_max : option_map (λ code. admits code 8) (index_of builtins (codes "max")) ≡ Some true
eight_arguments_of_max = refl

nine_arguments_of_max : option_map (λ code. admits code 9) (index_of builtins (codes "max")) ≡ Some false
nine_arguments_of_max = refl

one_argument_of_inrange : option_map (λ code. admits code 1) (index_of builtins (codes "inrange")) ≡ Some false
one_argument_of_inrange = refl

one_argument_of_utcyear : option_map (λ code. admits code 1) (index_of builtins (codes "utcyear")) ≡ Some true
one_argument_of_utcyear = refl

seven_arguments_of_datetime : option_map (λ code. admits code 7) (index_of builtins (codes "datetime")) ≡ Some true
seven_arguments_of_datetime = refl

no_code_of_a_builtin : admits 39 1 ≡ false
no_code_of_a_builtin = refl
