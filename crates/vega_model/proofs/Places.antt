-- The code of the name at a place of a table is the place.
use Rattle.std.proofs.Common.{◌≡◌, ℕ, zero, suc, ◌+◌, ◌<◌, List, [], ◌∷◌, length, cond, refl, ap, ◌∙◌, arith}
use Rattle.std.specs.Prelude.{Bool, true, false, not, ◌&&◌, Some, bytes_eq}
use Rattle.std.specs.List.{list_all, position_from}
use Rattle.std.proofs.lemmas.Slice.Eq.{bytes_eq-Decides}
use Rattle.std.proofs.lemmas.Iterator.Adapters.{position_from-zero}
use Rattle.case_table.specs.Names.{index_of}
use Rattle.vega_writing.specs.Names.{name_at}

-- whether no name of a table stands in it twice
abbrev pub are_unlike : List (List ℕ) → Bool
are_unlike [] = true
are_unlike (name ∷ names) = list_all (λ other. not (bytes_eq name other)) names && are_unlike names

both : (a b : Bool) → (a && b) ≡ true → (a ≡ true) × (b ≡ true)
both true b e = (refl, e)
both false b e = absurd cc

is_false : (b : Bool) → not b ≡ true → b ≡ false
is_false true e = absurd cc
is_false false e = refl

unlike : (name : List ℕ) (names : List (List ℕ)) (place : ℕ) → place < length names →
    list_all (λ other. not (bytes_eq name other)) names ≡ true → bytes_eq name (name_at names place) ≡ false
unlike name [] place within e = absurd (omega arith)
unlike name (other ∷ names) zero within e = is_false (bytes_eq name other) (both (not (bytes_eq name other)) _ e).0
unlike name (other ∷ names) (suc place) within e = unlike name names place (omega arith) (both (not (bytes_eq name other)) _ e).1

place_from : (k : ℕ) (names : List (List ℕ)) (place : ℕ) → place < length names → are_unlike names ≡ true →
    position_from (λ n. bytes_eq n (name_at names place)) k names ≡ Some (k + place)
place_from k [] place within e = absurd (omega arith)
place_from k (name ∷ names) zero within e =
    ap (λ b. cond b (Some k) (position_from (λ n. bytes_eq n name) (k + 1) names)) ((bytes_eq-Decides name name).1 refl)
    ∙ ap Some (omega arith)
place_from k (name ∷ names) (suc place) within e =
    let parts = both (list_all (λ other. not (bytes_eq name other)) names) (are_unlike names) e in
    ap (λ b. cond b (Some k) (position_from (λ n. bytes_eq n (name_at names place)) (k + 1) names))
    (unlike name names place (omega arith) parts.0)
    ∙ place_from (k + 1) names place (omega arith) parts.1 ∙ ap Some (omega arith)

pub code_of_name : (table : List (List ℕ)) (code : ℕ) → code < length table → are_unlike table ≡ true →
    index_of table (name_at table code) ≡ Some code
code_of_name table code within e =
    position_from-zero (λ n. bytes_eq n (name_at table code)) table ∙ place_from 0 table code within e ∙ ap Some (omega arith)
