-- How the entries of a ramp are gathered.
use Rattle.std.proofs.Common.{◌≡◌, ℕ, zero, suc, ◌+◌, ◌++◌, [], ◌∷◌, map, ap, ◌∙◌, add-one, arith}
use Rattle.std.specs.List.{range_with_len}
use Rattle.std.proofs.lemmas.List.{map-append}

range_more : (a n : ℕ) → range_with_len a (suc n) ≡ range_with_len a n ++ (a + n) ∷ []
range_more a zero = ap (λ (k : ℕ). k ∷ []) (omega arith)
range_more a (suc n) =
    ap (λ r. a ∷ r) (range_more (a + 1) n)
    ∙ ap (λ (k : ℕ). a ∷ (range_with_len (a + 1) n ++ k ∷ [])) (omega arith)

-- one more is gathered
pub mapped_more : {Y : Type 0} (f : ℕ → Y) (k : ℕ) → map f (range_with_len 0 (k + 1)) ≡ map f (range_with_len 0 k) ++ f k ∷ []
mapped_more f k =
    ap (λ n. map f (range_with_len 0 n)) (add-one k) ∙ ap (map f) (range_more 0 k)
    ∙ map-append f (range_with_len 0 k) ((0 + k) ∷ [])
    ∙ ap (λ n. map f (range_with_len 0 k) ++ f n ∷ []) (omega arith)
