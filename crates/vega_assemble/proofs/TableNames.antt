-- The names of a table, by their places.
use Rattle.std.proofs.Common.{◌≡◌, ℕ, zero, suc, List, [], ◌∷◌, map, option_map, slice_get, ap, ◌∙◌, refl}
use Rattle.std.specs.Option.{unwrap_or}
use Rattle.case_table.specs.declared.case.Case.{Case}

named : (code : ℕ) (table : List Case)
    → option_map (λ (c : Case). c.name.now) (slice_get table code) ≡ slice_get (map (λ (c : Case). c.name.now) table) code
named code [] = refl
named zero (c ∷ table) = refl
named (suc code) (c ∷ table) = named code table

pub name_at_place : (place code : ℕ) (table : List Case) (names : List (List ℕ)) → place ≡ code
    → map (λ (c : Case). c.name.now) table ≡ names
    → unwrap_or (option_map (λ (c : Case). c.name.now) (slice_get table place)) [] ≡ unwrap_or (slice_get names code) []
name_at_place place code table names same e =
    ap (λ (k : ℕ). unwrap_or (option_map (λ (c : Case). c.name.now) (slice_get table k)) []) same
    ∙ ap (λ o. unwrap_or o []) (named code table ∙ ap (λ (ns : List (List ℕ)). slice_get ns code) e)
