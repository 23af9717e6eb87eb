-- A loop over parts that keeps the earliest fault.
use Rattle.std.proofs.Common.{◌≡◌, ℕ, ◌+◌, ◌<◌, List, ◌∷◌, length, drop, get_or, flat_map, sym, ap, ◌∙◌, Option}
use Rattle.std.specs.List.{enumerate_from}
use Rattle.std.proofs.lemmas.List.{drop_more}
use Rattle.vega_parts.specs.declared.part.Part.{Part}
use Rattle.vega_rules.specs.declared.fault.PlacedFault.{PlacedFault}
use Rattle.vega_rules.specs.Faults.{sooner, earliest}
use Rattle.vega_rules.proofs.OrderLemmas.{one_more}

-- one more part is looked at
pub one_step : (step : Part → List PlacedFault) (parts : List Part) (i : ℕ) (so_far next whole : Option PlacedFault) (p : Part)
    → i < length parts → p ≡ get_or parts i p
    → next ≡ sooner so_far (earliest (step p)) → sooner so_far (earliest (flat_map step (drop i parts))) ≡ whole
    → sooner next (earliest (flat_map step (drop (i + 1) parts))) ≡ whole
one_step step parts i so_far next whole p l is n h =
    let split : drop i parts ≡ p ∷ drop (i + 1) parts = drop_more parts i p l ∙ ap (λ (x : Part). x ∷ drop (i + 1) parts) (sym is) in
    one_more so_far next whole (step p) (flat_map step (drop (i + 1) parts)) n (ap (λ (ps : List Part). sooner so_far (earliest
    (flat_map step ps))) (sym split) ∙ h)

-- the same where a part's number counts
pub one_row : (step : ℕ × Part → List PlacedFault) (parts : List Part) (i : ℕ) (so_far next whole : Option PlacedFault) (p : Part)
    → i < length parts → p ≡ get_or parts i p
    → next ≡ sooner so_far (earliest (step (i, p))) → sooner so_far (earliest (flat_map step (enumerate_from i (drop i parts)))) ≡ whole
    → sooner next (earliest (flat_map step (enumerate_from (i + 1) (drop (i + 1) parts)))) ≡ whole
one_row step parts i so_far next whole p l is n h =
    let split : drop i parts ≡ p ∷ drop (i + 1) parts = drop_more parts i p l ∙ ap (λ (x : Part). x ∷ drop (i + 1) parts) (sym is) in
    one_more so_far next whole (step (i, p)) (flat_map step (enumerate_from (i + 1) (drop (i + 1) parts))) n
    (ap (λ (ps : List Part). sooner so_far (earliest (flat_map step (enumerate_from i ps)))) (sym split) ∙ h)
