-- Rows to which all needs were added are the graph.
use Rattle.std.proofs.Common.{◌≡◌, ℕ, zero, suc, ◌+◌, ◌==◌, ◌<◌, ◌≤◌, Bool, true, false, List, [], ◌∷◌}
use Rattle.std.proofs.Common.{◌++◌, length, drop, get_or, map, Option, Some, None}
use Rattle.std.proofs.Common.{if◌then◌else◌, refl, sym, ap, ◌∙◌, arith, append_assoc}
use Rattle.std.specs.Prelude.{Vec, flat_map, slice_get, slice_set, unwrap_or, replicate}
use Rattle.std.specs.List.{enumerate_from, cons_option}
use Rattle.std.specs.declared.alloc.Global.{Global}
use Rattle.std.specs.BTreeMap.{BTreeMap}
use Rattle.std.proofs.lemmas.Bool.Decides.{nat_tests}
use Rattle.std.proofs.lemmas.List.{drop_more}
use Rattle.std.proofs.lemmas.List.Sums.{fold-append}
use Rattle.vega_parts.specs.declared.part.Part.{Part}
use Rattle.vega_rules.specs.Edges.{needs_by}
use Rattle.vega_rules.specs.Graph.{all_needs, end_from, ends_from, graph}
use Rattle.vega_rules.specs.inner.Placed.{IsPlaced, place_at}
use Rattle.vega_rules.specs.inner.NeedRows.{with_need, with_needs}

-- a row for each part, by its number
abbrev table : (ℕ → List ℕ) → ℕ → List Part → List (List ℕ)
table f n parts = map (λ (row : ℕ × Part). f row.0) (enumerate_from n parts)

table_same : (f g : ℕ → List ℕ) (n : ℕ) (parts : List Part) → ((k : ℕ) → n ≤ k → f k ≡ g k) → table f n parts ≡ table g n parts
table_same f g n [] h = refl
table_same f g n (p ∷ parts) h = rw (h n (omega arith), table_same f g (n + 1) parts (λ k l. h k (omega arith))) refl

empty_table : (n : ℕ) (parts : List Part) → replicate (length parts) [] ≡ table (λ k. []) n parts
empty_table n [] = refl
empty_table n (p ∷ parts) = ap (λ (rows : List (List ℕ)). [] ∷ rows) (empty_table (n + 1) parts)

equal_test : (a k : ℕ) → a ≡ k → (a == k) ≡ true
equal_test a k h = grind (arith, nat_tests)

other_test : (a k : ℕ) → k < a → (a == k) ≡ false
other_test a k h = grind (arith, nat_tests)

later_test : (a k : ℕ) → a < k → (a == k) ≡ false
later_test a k h = grind (arith, nat_tests)

ends_here : (a b k : ℕ) (t : Bool) → (a == k) ≡ t → ends_from ((a, b) ∷ []) k ≡ cons_option (if t then Some b else None) []
ends_here a b k t h = ap (λ x. cons_option (if x then Some b else None) []) h

nil_append : (xs : List ℕ) → xs ++ [] ≡ xs
nil_append [] = refl
nil_append (x ∷ xs) = ap (λ l. x ∷ l) (nil_append xs)

-- where nothing ends, a row is as it was
unchanged : (f : ℕ → List ℕ) (a b k : ℕ) → (a == k) ≡ false → f k ≡ f k ++ ends_from ((a, b) ∷ []) k
unchanged f a b k h = sym (ap (λ l. f k ++ l) (ends_here a b k false h) ∙ nil_append (f k))

-- one need more
one_end : (f : ℕ → List ℕ) (n i a b : ℕ) (parts : List Part) → a ≡ n + i
    → slice_set (table f n parts) i (unwrap_or (slice_get (table f n parts) i) [] ++ b ∷ [])
    ≡ table (λ k. f k ++ ends_from ((a, b) ∷ []) k) n parts
one_end f n zero a b [] h = refl
one_end f n (suc i) a b [] h = refl
one_end f n zero a b (p ∷ parts) h =
    let head : f n ++ b ∷ [] ≡ f n ++ ends_from ((a, b) ∷ []) n =
    ap (λ l. f n ++ l) (sym (ends_here a b n true (equal_test a n (omega arith)))) in
    let rest : table f (n + 1) parts ≡ table (λ k. f k ++ ends_from ((a, b) ∷ []) k) (n + 1) parts =
    table_same f (λ k. f k ++ ends_from ((a, b) ∷ []) k) (n + 1) parts
    (λ k l. unchanged f a b k (later_test a k (omega arith))) in
    ap (λ x. x ∷ table f (n + 1) parts) head ∙ ap (λ rows. (f n ++ ends_from ((a, b) ∷ []) n) ∷ rows) rest
one_end f n (suc i) a b (p ∷ parts) h =
    let head : f n ≡ f n ++ ends_from ((a, b) ∷ []) n = unchanged f a b n (other_test a n (omega arith)) in
    let rest = one_end f (n + 1) i a b parts (omega arith) in
    ap (λ x. x ∷ slice_set (table f (n + 1) parts) i (unwrap_or (slice_get (table f (n + 1) parts) i) [] ++ b ∷ [])) head
    ∙ ap (λ rows. (f n ++ ends_from ((a, b) ∷ []) n) ∷ rows) rest

first_end : (o : Option ℕ) (rest : List ℕ) → cons_option o rest ≡ cons_option o [] ++ rest
first_end None rest = refl
first_end (Some x) rest = refl

-- all needs
all_ends : (f : ℕ → List ℕ) (parts : List Part) (edges : List (ℕ × ℕ))
    → with_needs (table f 0 parts) edges ≡ table (λ k. f k ++ ends_from edges k) 0 parts
all_ends f parts [] = table_same f (λ k. f k ++ []) 0 parts (λ k l. sym (nil_append (f k)))
all_ends f parts (e ∷ edges) =
    ap (λ rows. with_needs rows edges) (one_end f 0 e.0 e.0 e.1 parts (omega arith))
    ∙ all_ends (λ k. f k ++ ends_from (e ∷ []) k) parts edges
    ∙ table_same (λ k. f k ++ ends_from (e ∷ []) k ++ ends_from edges k) (λ k. f k ++ ends_from (e ∷ edges) k) 0 parts
    (λ k l. append_assoc (f k) (ends_from (e ∷ []) k) (ends_from edges k)
    ∙ ap (λ x. f k ++ x) (sym (first_end (end_from k e) (ends_from edges k))))

none_left : (parts : List Part) (i : ℕ) → length parts ≤ i → drop i parts ≡ []
none_left [] zero l = refl
none_left [] (suc i) l = refl
none_left (p ∷ parts) zero l = absurd (omega arith)
none_left (p ∷ parts) (suc i) l = none_left parts i (omega arith)

-- the rows with all needs, by the places that parts are found by
pub whole_graph : (rows result : List (List ℕ)) (parts : List Part) (places : BTreeMap (Vec ℕ Global) ℕ) (i : ℕ)
    → IsPlaced places parts → length parts ≤ i → result ≡ rows
    → with_needs rows (flat_map (needs_by (place_at places) parts) (drop i parts))
    ≡ with_needs (replicate (length parts) []) (flat_map (needs_by (place_at places) parts) parts)
    → result ≡ graph parts
whole_graph rows result parts places i placed l is h =
    is ∙ ap (λ (ps : List Part). with_needs rows (flat_map (needs_by (place_at places) parts) ps)) (sym (none_left parts i l)) ∙ h
    ∙ ap (λ node. with_needs (replicate (length parts) []) (flat_map (needs_by node parts) parts)) placed.finds
    ∙ ap (λ r. with_needs r (all_needs parts)) (empty_table 0 parts) ∙ all_ends (λ k. []) parts (all_needs parts)

-- one more part
pub one_step : (step : Part → List (ℕ × ℕ)) (parts : List Part) (i : ℕ) (rows next whole : List (List ℕ)) (p : Part)
    → i < length parts → p ≡ get_or parts i p
    → next ≡ with_needs rows (step p) → with_needs rows (flat_map step (drop i parts)) ≡ whole
    → with_needs next (flat_map step (drop (i + 1) parts)) ≡ whole
one_step step parts i rows next whole p l is n h =
    let split : drop i parts ≡ p ∷ drop (i + 1) parts = drop_more parts i p l ∙ ap (λ (x : Part). x ∷ drop (i + 1) parts) (sym is) in
    ap (λ r. with_needs r (flat_map step (drop (i + 1) parts))) n
    ∙ sym (fold-append with_need rows (step p) (flat_map step (drop (i + 1) parts)))
    ∙ ap (λ (ps : List Part). with_needs rows (flat_map step ps)) (sym split) ∙ h
