-- A table of numbers of arguments, and the same numbers in pairs.
use Rattle.std.proofs.Common.{◌≡◌, ℕ, List, [], ◌∷◌, zero, suc, map, false, ap, ◌∙◌, refl, slice_get}
use Rattle.std.specs.Option.{option_map_or}
use Rattle.case_table.specs.declared.arguments.Arguments.{Arguments}
use Rattle.case_table.specs.Arguments.{lies_between}
use Rattle.case_table.specs.inner.Arguments.{lets_pass}

in_pairs : (count : ℕ) (table : List Arguments) (place : ℕ) → option_map_or (lets_pass count) (slice_get table place) false
    ≡ option_map_or (lies_between count) (slice_get (map (λ (a : Arguments). (a.least, a.most)) table) place) false
in_pairs count [] place = refl
in_pairs count (a ∷ table) zero = refl
in_pairs count (a ∷ table) (suc k) = in_pairs count table k

-- a table lets pass what its numbers in pairs admit
pub passes_as_pairs : (count place : ℕ) (table : List Arguments) (pairs : List (ℕ × ℕ)) → map (λ (a : Arguments). (a.least, a.most)) table ≡ pairs
    → option_map_or (lets_pass count) (slice_get table place) false ≡ option_map_or (lies_between count) (slice_get pairs place) false
passes_as_pairs count place table pairs e = in_pairs count table place ∙ ap (λ ps. option_map_or (lies_between count) (slice_get ps place) false) e
