-- A table whose codes are the indexes of its names finds each name's index.
use Rattle.std.proofs.Common.{◌≡◌, ℕ, ◌+◌, List, [], ◌∷◌, map, find, Option, Some, option_map, true, false, cond, ap, sym, ◌∙◌, refl}
use Rattle.std.specs.Prelude.{bytes_eq}
use Rattle.std.specs.List.{enumerate_from, position_from}
use Rattle.std.proofs.lemmas.Iterator.Adapters.{position_from-zero}
use Rattle.case_table.specs.declared.case.Case.{Case}
use Rattle.case_table.specs.Case.{code_of}
use Rattle.case_table.specs.Names.{index_of}

abbrev numbered : Case → ℕ × List ℕ
numbered c = (c.code, c.name.now)

abbrev found : List ℕ → List (ℕ × List ℕ) → Option ℕ
found name pairs = option_map (λ (p : ℕ × List ℕ). p.0) (find (λ (p : ℕ × List ℕ). bytes_eq p.1 name) pairs)

found_in_table : (name : List ℕ) (table : List Case) → code_of table name ≡ found name (map numbered table)
found_in_table name [] = refl
found_in_table name (c ∷ table) =
    elim (bytes_eq c.name.now name) as (λ b. option_map (λ (c : Case). c.code) (cond b (Some c) (find (λ (c : Case). bytes_eq c.name.now name) table))
    ≡ option_map (λ (p : ℕ × List ℕ). p.0) (cond b (Some (numbered c)) (find (λ (p : ℕ × List ℕ). bytes_eq p.1 name) (map numbered table))))
    [ true ↦ refl | false ↦ found_in_table name table ]

found_in_names : (name : List ℕ) (k : ℕ) (names : List (List ℕ)) → found name (enumerate_from k names) ≡ position_from (λ n. bytes_eq n name) k names
found_in_names name k [] = refl
found_in_names name k (n ∷ names) =
    elim (bytes_eq n name) as
    (λ b. option_map (λ (p : ℕ × List ℕ). p.0) (cond b (Some (k, n)) (find (λ (p : ℕ × List ℕ). bytes_eq p.1 name) (enumerate_from (k + 1) names)))
    ≡ cond b (Some k) (position_from (λ n. bytes_eq n name) (k + 1) names))
    [ true ↦ refl | false ↦ found_in_names name (k + 1) names ]

-- where a table has the names in order, each with its index, the code of a name is its index
pub code_of_index : (name : List ℕ) (table : List Case) (names : List (List ℕ))
    → map (λ (c : Case). (c.code, c.name.now)) table ≡ enumerate_from 0 names → code_of table name ≡ index_of names name
code_of_index name table names e =
    found_in_table name table ∙ ap (found name) e ∙ found_in_names name 0 names ∙ sym (position_from-zero (λ n. bytes_eq n name) names)
