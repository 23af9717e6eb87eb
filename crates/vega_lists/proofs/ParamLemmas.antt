-- The numbers that operations take, by their places.
use Rattle.std.proofs.Common.{◌≡◌, ℕ, ℤ, ◌+◌, ◌<◌, List, [], ◌∷◌, ◌++◌, drop, map, length, Option, sym, ap, ◌∙◌, append_assoc}
use Rattle.std.specs.List.{enumerate_from}
use Rattle.std.proofs.lemmas.List.{drop_more}
use Rattle.vega_lists.specs.Operations.{param_at, param_for}

-- a number more
pub one_param : (params : Option (List (Option ℤ))) (ops : List ℕ) (place : ℕ) (given new whole : List ℕ) → place < length ops
    → new ≡ given ++ param_at params place ∷ []
    → given ++ map (param_for params) (enumerate_from place (drop place ops)) ≡ whole
    → new ++ map (param_for params) (enumerate_from (place + 1) (drop (place + 1) ops)) ≡ whole
one_param params ops place given new whole lt is h =
    let rest = map (param_for params) (enumerate_from (place + 1) (drop (place + 1) ops)) in
    ap (λ l. l ++ rest) is ∙ append_assoc given (param_at params place ∷ []) rest
    ∙ ap (λ l. given ++ map (param_for params) (enumerate_from place l)) (sym (drop_more ops place 0 lt)) ∙ h
