-- Loops that go through lists and keep the earliest fault.
use Rattle.std.proofs.Common.{◌≡◌, ℕ, arith, suc, zero, ◌+◌, ◌<◌, ◌≤◌, List, [], ◌∷◌, ◌++◌, Option, length, drop, get_or, map, flat_map, sym, ap, ◌∙◌, refl}
use Rattle.std.proofs.lemmas.List.{append_assoc, drop_all, drop_more}
use Rattle.json_exact.specs.declared.json.Json.{Json}
use Rattle.spec_schema.specs.declared.fault.Fault.{Fault}
use Rattle.spec_schema.specs.Order.{earlier}
use Rattle.vl_trails.specs.declared.fault.RuleFault.{RuleFault}
use Rattle.vl_trails.specs.declared.judging.Judging.{Judging}
use Rattle.vl_trails.specs.Faults.{earliest_placed}
use Rattle.vl_trails.specs.Judging.{after}
use Rattle.vl_trails.specs.Trails.{to_item}
use Rattle.vl_trails.proofs.OrderLemmas.{one_more}
use Rattle.vl_trails.proofs.WayLemmas.{after_none, then_after}
use Rattle.vl_rules.specs.Views.{Faulty, items_from}

split_at : {X : Type 0} (xs : List X) (i : ℕ) (x : X) → i < length xs → x ≡ get_or xs i x → drop i xs ≡ x ∷ drop (i + 1) xs
split_at xs i x l is = drop_more xs i x l ∙ ap (λ y. y ∷ drop (i + 1) xs) (sym is)

-- ---- numbered items, each judged where it stands

pub one_item : {X : Type 0} (f : Json → X → Faulty) (xs : List X) (i : ℕ) (x : X) (j next whole : Judging) → i < length xs → x ≡ get_or xs i x
    → next ≡ after j (f j.tree.now x (to_item j.trail i)) → after j (items_from i (map (f j.tree.now) (drop i xs)) j.trail) ≡ whole
    → after next (items_from (i + 1) (map (f next.tree.now) (drop (i + 1) xs)) next.trail) ≡ whole
one_item {X} f xs i x j next whole l is n h =
    ap (λ (k : Judging). after k (items_from (i + 1) (map (f k.tree.now) (drop (i + 1) xs)) k.trail)) n
    ∙ then_after j (f j.tree.now x (to_item j.trail i)) (items_from (i + 1) (map (f j.tree.now) (drop (i + 1) xs)) j.trail)
    ∙ ap (λ (ys : List X). after j (items_from i (map (f j.tree.now) ys) j.trail)) (sym (split_at xs i x l is)) ∙ h

-- what stands at a place doesn't go by what would stand there else
same_at : {X : Type 0} (xs : List X) (i : ℕ) (d e : X) → i < length xs → get_or xs i d ≡ get_or xs i e
same_at [] i d e h = absurd (omega arith)
same_at (x ∷ xs) zero d e h = refl
same_at (x ∷ xs) (suc i) d e h = same_at xs i d e (omega arith)

pub one_at : {X : Type 0} (f : Json → X → Faulty) (xs : List X) (i : ℕ) (d : X) (j next whole : Judging) → i < length xs
    → next ≡ after j (f j.tree.now (get_or xs i d) (to_item j.trail i)) → after j (items_from i (map (f j.tree.now) (drop i xs)) j.trail) ≡ whole
    → after next (items_from (i + 1) (map (f next.tree.now) (drop (i + 1) xs)) next.trail) ≡ whole
one_at f xs i d j next whole l n h = one_item f xs i (get_or xs i d) j next whole l (same_at xs i d (get_or xs i d) l) n h

pub no_item_more : {X : Type 0} (f : Json → X → Faulty) (xs : List X) (i : ℕ) (j whole : Judging) → length xs ≤ i
    → after j (items_from i (map (f j.tree.now) (drop i xs)) j.trail) ≡ whole → j ≡ whole
no_item_more {X} f xs i j whole l h =
    sym (after_none j) ∙ ap (λ (ys : List X). after j (items_from i (map (f j.tree.now) ys) j.trail)) (sym (drop_all i xs l)) ∙ h

-- ---- parts that are judged at one place

pub one_part : {X : Type 0} (f : Json → X → Faulty) (xs : List X) (i : ℕ) (x : X) (j next whole : Judging) → i < length xs → x ≡ get_or xs i x
    → next ≡ after j (f j.tree.now x j.trail) → after j (flat_map (λ y. f j.tree.now y j.trail) (drop i xs)) ≡ whole
    → after next (flat_map (λ y. f next.tree.now y next.trail) (drop (i + 1) xs)) ≡ whole
one_part {X} f xs i x j next whole l is n h =
    ap (λ (k : Judging). after k (flat_map (λ y. f k.tree.now y k.trail) (drop (i + 1) xs))) n
    ∙ then_after j (f j.tree.now x j.trail) (flat_map (λ y. f j.tree.now y j.trail) (drop (i + 1) xs))
    ∙ ap (λ (ys : List X). after j (flat_map (λ y. f j.tree.now y j.trail) ys)) (sym (split_at xs i x l is)) ∙ h

pub no_part_more : {X : Type 0} (f : Json → X → Faulty) (xs : List X) (i : ℕ) (j whole : Judging) → length xs ≤ i
    → after j (flat_map (λ y. f j.tree.now y j.trail) (drop i xs)) ≡ whole → j ≡ whole
no_part_more {X} f xs i j whole l h =
    sym (after_none j) ∙ ap (λ (ys : List X). after j (flat_map (λ y. f j.tree.now y j.trail) ys)) (sym (drop_all i xs l)) ∙ h

-- ---- the fault so far

pub one_step : {X : Type 0} (tree : Json) (f : X → List RuleFault) (xs : List X) (i : ℕ) (x : X) (so_far next whole : Option Fault)
    → i < length xs → x ≡ get_or xs i x → next ≡ earlier so_far (earliest_placed tree (f x))
    → earlier so_far (earliest_placed tree (flat_map f (drop i xs))) ≡ whole
    → earlier next (earliest_placed tree (flat_map f (drop (i + 1) xs))) ≡ whole
one_step {X} tree f xs i x so_far next whole l is n h =
    one_more tree so_far next whole (f x) (flat_map f (drop (i + 1) xs)) n
    (ap (λ (ys : List X). earlier so_far (earliest_placed tree (flat_map f ys))) (sym (split_at xs i x l is)) ∙ h)

-- the same of what is shown of each
pub one_shown : {X Y : Type 0} (tree : Json) (shown : X → Y) (f : Y → List RuleFault) (xs : List X) (i : ℕ) (x : X)
    (so_far next whole : Option Fault) → i < length xs → x ≡ get_or xs i x → next ≡ earlier so_far (earliest_placed tree (f (shown x)))
    → earlier so_far (earliest_placed tree (flat_map f (map shown (drop i xs)))) ≡ whole
    → earlier next (earliest_placed tree (flat_map f (map shown (drop (i + 1) xs)))) ≡ whole
one_shown {X} {Y} tree shown f xs i x so_far next whole l is n h =
    one_more tree so_far next whole (f (shown x)) (flat_map f (map shown (drop (i + 1) xs))) n
    (ap (λ (ys : List X). earlier so_far (earliest_placed tree (flat_map f (map shown ys)))) (sym (split_at xs i x l is)) ∙ h)

-- ---- parts that are judged one after the other at one place

pub two_parts : (j next : Judging) (f g : Json → Faulty) → next ≡ after j (f j.tree.now j.trail)
    → after next (g next.tree.now next.trail) ≡ after j (f j.tree.now j.trail ++ g j.tree.now j.trail)
two_parts j next f g is =
    ap (λ (k : Judging). after k (g k.tree.now k.trail)) is ∙ then_after j (f j.tree.now j.trail) (g j.tree.now j.trail)

pub three_parts : (j next last : Judging) (f g h : Json → Faulty) → next ≡ after j (f j.tree.now j.trail)
    → last ≡ after next (g next.tree.now next.trail)
    → after last (h last.tree.now last.trail) ≡ after j (f j.tree.now j.trail ++ g j.tree.now j.trail ++ h j.tree.now j.trail)
three_parts j next last f g h is later =
    two_parts next last g h later
    ∙ ap (λ (k : Judging). after k (g k.tree.now k.trail ++ h k.tree.now k.trail)) is
    ∙ then_after j (f j.tree.now j.trail) (g j.tree.now j.trail ++ h j.tree.now j.trail)
    ∙ ap (after j) (sym (append_assoc (f j.tree.now j.trail) (g j.tree.now j.trail) (h j.tree.now j.trail)))
