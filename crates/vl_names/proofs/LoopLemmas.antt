-- Loops that go through lists and keep the earliest fault.
use Rattle.std.proofs.Common.{◌≡◌, ℕ, ◌+◌, ◌<◌, ◌≤◌, List, ◌∷◌, ◌++◌, Option, length, drop, get_or, map, flat_map, sym, ap, ◌∙◌}
use Rattle.std.proofs.lemmas.List.{append_assoc, drop_all, drop_more}
use Rattle.json_exact.specs.declared.json.Json.{Json}
use Rattle.spec_schema.specs.declared.fault.Fault.{Fault}
use Rattle.spec_schema.specs.Order.{earlier}
use Rattle.vl_trails.specs.declared.fault.RuleFault.{RuleFault}
use Rattle.vl_trails.specs.declared.judging.Judging.{Judging}
use Rattle.vl_trails.specs.Faults.{earliest_placed}
use Rattle.vl_trails.specs.Judging.{after}
use Rattle.vl_trails.specs.Trails.{to_item}
use Rattle.vl_trails.proofs.OrderLemmas.{one_more}
use Rattle.vl_trails.proofs.WayLemmas.{after_none, then_after}
use Rattle.vl_names.specs.Filters.{Judged, items_from}

split_at : {X : Type 0} (xs : List X) (i : ℕ) (x : X) → i < length xs → x ≡ get_or xs i x → drop i xs ≡ x ∷ drop (i + 1) xs
split_at xs i x l is = drop_more xs i x l ∙ ap (λ y. y ∷ drop (i + 1) xs) (sym is)

-- ---- numbered items, each judged where it stands

pub one_item : {X : Type 0} (f : X → Judged) (xs : List X) (i : ℕ) (x : X) (j next whole : Judging) → i < length xs → x ≡ get_or xs i x
    → next ≡ after j (f x (to_item j.trail i)) → after j (items_from i (map f (drop i xs)) j.trail) ≡ whole
    → after next (items_from (i + 1) (map f (drop (i + 1) xs)) next.trail) ≡ whole
one_item {X} f xs i x j next whole l is n h =
    ap (λ (k : Judging). after k (items_from (i + 1) (map f (drop (i + 1) xs)) k.trail)) n
    ∙ then_after j (f x (to_item j.trail i)) (items_from (i + 1) (map f (drop (i + 1) xs)) j.trail)
    ∙ ap (λ (ys : List X). after j (items_from i (map f ys) j.trail)) (sym (split_at xs i x l is)) ∙ h

pub no_item_more : {X : Type 0} (f : X → Judged) (xs : List X) (i : ℕ) (j whole : Judging) → length xs ≤ i
    → after j (items_from i (map f (drop i xs)) j.trail) ≡ whole → j ≡ whole
no_item_more {X} f xs i j whole l h =
    sym (after_none j) ∙ ap (λ (ys : List X). after j (items_from i (map f ys) j.trail)) (sym (drop_all i xs l)) ∙ h

-- ---- parts that are judged at one place

pub one_part : {X : Type 0} (f : X → Judged) (xs : List X) (i : ℕ) (x : X) (j next whole : Judging) → i < length xs → x ≡ get_or xs i x
    → next ≡ after j (f x j.trail) → after j (flat_map (λ y. f y j.trail) (drop i xs)) ≡ whole
    → after next (flat_map (λ y. f y next.trail) (drop (i + 1) xs)) ≡ whole
one_part {X} f xs i x j next whole l is n h =
    ap (λ (k : Judging). after k (flat_map (λ y. f y k.trail) (drop (i + 1) xs))) n
    ∙ then_after j (f x j.trail) (flat_map (λ y. f y j.trail) (drop (i + 1) xs))
    ∙ ap (λ (ys : List X). after j (flat_map (λ y. f y j.trail) ys)) (sym (split_at xs i x l is)) ∙ h

pub no_part_more : {X : Type 0} (f : X → Judged) (xs : List X) (i : ℕ) (j whole : Judging) → length xs ≤ i
    → after j (flat_map (λ y. f y j.trail) (drop i xs)) ≡ whole → j ≡ whole
no_part_more {X} f xs i j whole l h =
    sym (after_none j) ∙ ap (λ (ys : List X). after j (flat_map (λ y. f y j.trail) ys)) (sym (drop_all i xs l)) ∙ h

-- ---- the fault so far

pub one_step : {X : Type 0} (tree : Json) (f : X → List RuleFault) (xs : List X) (i : ℕ) (x : X) (so_far next whole : Option Fault)
    → i < length xs → x ≡ get_or xs i x → next ≡ earlier so_far (earliest_placed tree (f x))
    → earlier so_far (earliest_placed tree (flat_map f (drop i xs))) ≡ whole
    → earlier next (earliest_placed tree (flat_map f (drop (i + 1) xs))) ≡ whole
one_step {X} tree f xs i x so_far next whole l is n h =
    one_more tree so_far next whole (f x) (flat_map f (drop (i + 1) xs)) n
    (ap (λ (ys : List X). earlier so_far (earliest_placed tree (flat_map f ys))) (sym (split_at xs i x l is)) ∙ h)

-- the same of what is shown of each
pub one_shown : {X Y : Type 0} (tree : Json) (shown : X → Y) (f : Y → List RuleFault) (xs : List X) (i : ℕ) (x : X)
    (so_far next whole : Option Fault) → i < length xs → x ≡ get_or xs i x → next ≡ earlier so_far (earliest_placed tree (f (shown x)))
    → earlier so_far (earliest_placed tree (flat_map f (map shown (drop i xs)))) ≡ whole
    → earlier next (earliest_placed tree (flat_map f (map shown (drop (i + 1) xs)))) ≡ whole
one_shown {X} {Y} tree shown f xs i x so_far next whole l is n h =
    one_more tree so_far next whole (f (shown x)) (flat_map f (map shown (drop (i + 1) xs))) n
    (ap (λ (ys : List X). earlier so_far (earliest_placed tree (flat_map f (map shown ys)))) (sym (split_at xs i x l is)) ∙ h)

-- ---- parts that are judged one after the other at one place

pub two_parts : (j next : Judging) (f g : Judged) → next ≡ after j (f j.trail) → after next (g next.trail) ≡ after j (f j.trail ++ g j.trail)
two_parts j next f g is = ap (λ (k : Judging). after k (g k.trail)) is ∙ then_after j (f j.trail) (g j.trail)

pub three_parts : (j next last : Judging) (f g h : Judged) → next ≡ after j (f j.trail) → last ≡ after next (g next.trail)
    → after last (h last.trail) ≡ after j (f j.trail ++ g j.trail ++ h j.trail)
three_parts j next last f g h is later =
    two_parts next last g h later
    ∙ ap (λ (k : Judging). after k (g k.trail ++ h k.trail)) is
    ∙ then_after j (f j.trail) (g j.trail ++ h j.trail)
    ∙ ap (after j) (sym (append_assoc (f j.trail) (g j.trail) (h j.trail)))
