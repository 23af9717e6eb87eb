-- The numbers of parameters, one by one.
use Rattle.std.proofs.Common.{◌≡◌, ℕ, ◌+◌, ◌<◌, List, [], ◌∷◌, ◌++◌, length, drop, sym, ap, ◌∙◌, append-nil}
use Rattle.std.specs.Prelude.{Option, Some, None}
use Rattle.std.specs.Option.{option_to_list}
use Rattle.std.specs.List.{enumerate_from, filter_map, cons_option}
use Rattle.std.proofs.lemmas.List.{drop_more, append_assoc}
use Rattle.json_exact.specs.declared.json.Json.{Json}
use Rattle.json_exact.specs.declared.json.Json.TheVariants as json
use Rattle.vl_building.specs.Views.{Naming, Place, child, param_number}

one_more : (o : Option ℕ) (out ys : List ℕ) → (out ++ option_to_list o) ++ ys ≡ out ++ cons_option o ys
one_more None out ys = ap (λ t. t ++ ys) (append-nil out)
one_more (Some x) out ys = append_assoc out (x ∷ []) ys

-- the number of one more parameter; which item it is doesn't count
pub one_param : (naming : Naming) (place : Place) (items : List Json) (n : ℕ) (out new whole : List ℕ) → n < length items
    → new ≡ out ++ option_to_list (naming.param_at (child place n))
    → out ++ filter_map (param_number naming place) (enumerate_from n (drop n items)) ≡ whole
    → new ++ filter_map (param_number naming place) (enumerate_from (n + 1) (drop (n + 1) items)) ≡ whole
one_param naming place items n out new whole within added so_far =
    ap (λ t. t ++ filter_map (param_number naming place) (enumerate_from (n + 1) (drop (n + 1) items))) added
    ∙ one_more (naming.param_at (child place n)) out _
    ∙ sym (ap (λ xs. out ++ filter_map (param_number naming place) (enumerate_from n xs)) (drop_more items n json.Null within))
    ∙ so_far
