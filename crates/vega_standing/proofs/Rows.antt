-- Where values stand, and the members of an object in which rows are named.
use Rattle.std.proofs.Common.{◌≡◌, ℕ, ◌+◌, ◌-◌, List, [], ◌∷◌, ◌++◌, map, drop, take, length, cond, refl, sym, ap, subst, ◌∙◌, arith, find}
use Rattle.std.specs.Prelude.{Option, Some, None, Bool, true, false, ◌||◌, IfSome, bytes_eq, reverse}
use Rattle.std.specs.Option.{option_map, option_map_or}
use Rattle.std.proofs.lemmas.List.{append_assoc, reverse-append, length-append}
use Rattle.std.proofs.Math.Seq.{take-append_seam}
use Rattle.std.proofs.lemmas.Slice.Eq.{bytes_eq-Decides}
use Rattle.json_exact.specs.declared.json.Json.{Json}
use Rattle.json_exact.specs.declared.json.Member.{Member}
use Rattle.json_exact.specs.Path.{member_value}
use Rattle.spec_schema.specs.declared.layout.Layout.{Layout}
use Rattle.spec_schema.specs.Layouts.{shape_in, has_name}
use Rattle.spec_walk.specs.Walk.{seen_in, member_parts}
use Rattle.vega_schema.specs.Schema.{vega_schema}
use Rattle.vega_parts.specs.declared.part.Part.{Part}
use Rattle.vega_parts.specs.declared.around.Around.{Around}
use Rattle.vega_parts.specs.Trails.{Trail, noted, place_of}
use Rattle.vega_parts.specs.Parts.{parts_at}
use Rattle.vega_rules.specs.Places.{parent}
use Rattle.vega_standing.specs.OwnNames.{AreOwn}
use Rattle.vega_standing.proofs.Trees.{Each}
use Rattle.vega_standing.proofs.Stands.{EachFrom, Stands, StandsMember, parts_in, parts_of_members}
use Rattle.vega_standing.proofs.Quiet.{AreQuiet, both_quiet}
use Rattle.vega_standing.proofs.Dull.{is_dull, dull_parts}

-- ---- places

abbrev numbers : Trail → List ℕ
numbers trail = map (λ (a : Around). a.number) (reverse trail)

map_end : (xs : List Around) (a : Around) → map (λ (a : Around). a.number) (xs ++ a ∷ []) ≡ map (λ (a : Around). a.number) xs ++ a.number ∷ []
map_end [] a = refl
map_end (x ∷ xs) a = ap (λ l. x.number ∷ l) (map_end xs a)

numbers_more : (here : Around) (round : Trail) → numbers (here ∷ round) ≡ numbers round ++ here.number ∷ []
numbers_more here round = ap (λ (l : List Around). map (λ (a : Around). a.number) l) (reverse-append (here ∷ []) round) ∙ map_end (reverse round) here

seam : (xs : List ℕ) (j k : ℕ) → drop 1 ((xs ++ j ∷ []) ++ k ∷ []) ≡ drop 1 (xs ++ j ∷ []) ++ k ∷ []
seam [] j k = refl
seam (x ∷ xs) j k = refl

-- a child stands under its parent by its number
pub place_child : (here next : Around) (round : Trail) → place_of (here ∷ next ∷ round) ≡ place_of (next ∷ round) ++ here.number ∷ []
place_child here next round =
    ap (drop 1) (numbers_more here (next ∷ round) ∙ ap (λ x. x ++ here.number ∷ []) (numbers_more next round))
    ∙ seam (numbers round) next.number here.number
    ∙ ap (λ x. drop 1 x ++ here.number ∷ []) (sym (numbers_more next round))

pub parent_child : (x : List ℕ) (k : ℕ) → parent (x ++ k ∷ []) ≡ x
parent_child x k = ap (λ n. take n (x ++ k ∷ [])) (less (length (x ++ k ∷ [])) (length x) (length-append x (k ∷ []))) ∙ take-append_seam x (k ∷ [])
  where
    less : (n m : ℕ) → n ≡ m + 1 → n - 1 ≡ m
    less n m e = omega arith

-- ---- one member

-- a member of another name is dull
abbrev pub DullBut : Layout → List ℕ → Member → Type 0
DullBut l name m = bytes_eq m.name name ≡ false → (inner : ℕ) → shape_in l m.name ≡ Some inner → is_dull inner ≡ true

pub dull_member : (trail : Trail) (l : Layout) (n : ℕ) (m : Member) → ((inner : ℕ) → shape_in l m.name ≡ Some inner → is_dull inner ≡ true) →
    AreQuiet (member_parts l trail (n, (m.name, seen_in vega_schema noted parts_at m.value)))
dull_member trail l n m dull = by_shape (shape_in l m.name) refl
  where
    by_shape : (o : Option ℕ) → shape_in l m.name ≡ o → AreQuiet (option_map_or (λ shape. parts_in trail n shape m.value) o [])
    by_shape None e = tt
    by_shape (Some shape) e = dull_parts trail n shape m.value (dull shape e)

pub none_named : (m : Member) (ms : List Member) (name : List ℕ) → has_name (m ∷ ms) name ≡ false → (bytes_eq m.name name ≡ false) × (has_name ms name ≡ false)
none_named m ms name e = by_test (bytes_eq m.name name) (has_name ms name) e
  where
    by_test : (a b : Bool) → (a || b) ≡ false → (a ≡ false) × (b ≡ false)
    by_test true b e = absurd cc
    by_test false b e = (refl, e)

-- without a member of the name, all are dull
pub free_row : (trail : Trail) (l : Layout) (name : List ℕ) (n : ℕ) (ms : List Member) → has_name ms name ≡ false → Each (DullBut l name) ms →
    AreQuiet (parts_of_members trail l n ms)
free_row trail l name n [] e dull = tt
free_row trail l name n (m ∷ ms) e dull =
    let none : (bytes_eq m.name name ≡ false) × (has_name ms name ≡ false) = none_named m ms name e in
    both_quiet (member_parts l trail (n, (m.name, seen_in vega_schema noted parts_at m.value))) (parts_of_members trail l (n + 1) ms)
    (dull_member trail l n m (dull.0 none.0)) (free_row trail l name (n + 1) ms none.1 dull.1)

abbrev pub of_member : Trail → ℕ → Option (ℕ × Json) → List Part
of_member trail shape o = option_map_or (λ (m : ℕ × Json). parts_in trail m.0 shape m.1) o []

-- the parts of some members: those of one name, and quiet ones round them
pub record OneLoud (trail : Trail) (l : Layout) (name : List ℕ) (shape n : ℕ) (ms : List Member) : Type 0 where
  pub front : List Part
  pub back : List Part
  pub here : Option (ℕ × Json)
  pub quiet_front : AreQuiet front
  pub quiet_back : AreQuiet back
  pub parts : parts_of_members trail l n ms ≡ front ++ (of_member trail shape here ++ back)
  pub value : member_value ms name ≡ option_map (λ (m : ℕ × Json). m.1) here
  pub stands : IfSome here (λ (m : ℕ × Json). Stands trail m.0 shape m.1)
  pub behind : IfSome here (λ (m : ℕ × Json). (k : ℕ) × (m.0 ≡ n + k))

grown : (n k : ℕ) → n + 1 + k ≡ n + (k + 1)
grown n k = omega arith

itself : (n : ℕ) → n ≡ n + 0
itself n = omega arith

later : (n : ℕ) (o : Option (ℕ × Json)) → IfSome o (λ (m : ℕ × Json). (k : ℕ) × (m.0 ≡ n + 1 + k)) → IfSome o (λ (m : ℕ × Json). (k : ℕ) × (m.0 ≡ n + k))
later n None e = tt
later n (Some m) e = (e.0 + 1, e.1 ∙ grown n e.0)

pub one_loud : (trail : Trail) (l : Layout) (name : List ℕ) (shape n : ℕ) (ms : List Member) → shape_in l name ≡ Some shape → AreOwn ms →
    EachFrom (StandsMember trail l) n ms → Each (DullBut l name) ms → OneLoud trail l name shape n ms
one_loud trail l name shape n [] ruled own each dull =
    record { front = []; back = []; here = None; quiet_front = tt; quiet_back = tt; parts = refl; value = refl; stands = tt; behind = tt }
one_loud trail l name shape n (m ∷ ms) ruled own each dull =
    by_name (bytes_eq m.name name) refl (one_loud trail l name shape (n + 1) ms ruled own.1 each.1 dull.1)
  where
    by_name : (b : Bool) → bytes_eq m.name name ≡ b → OneLoud trail l name shape (n + 1) ms → OneLoud trail l name shape n (m ∷ ms)
    by_name true same rest =
        let named : m.name ≡ name = (bytes_eq-Decides m.name name).0 same in
        let rule : shape_in l m.name ≡ Some shape = ap (shape_in l) named ∙ ruled in
        let shaped : each.0.0 ≡ shape = let a = each.0.1 in cc in
        record {
          front = [];
          back = parts_of_members trail l (n + 1) ms;
          here = Some (n, m.value);
          quiet_front = tt;
          quiet_back = free_row trail l name (n + 1) ms (subst (λ x. has_name ms x ≡ false) named own.0) dull.1;
          parts = ap (λ o. option_map_or (λ shape. parts_in trail n shape m.value) o [] ++ parts_of_members trail l (n + 1) ms) rule;
          value = ap (λ b. option_map (λ (m : Member). m.value) (cond b (Some m) (find (λ (m : Member). bytes_eq m.name name) ms))) same;
          stands = subst (λ c. Stands trail n c m.value) shaped each.0.2;
          behind = (0, itself n);
        }
    by_name false other rest =
        let here : List Part = member_parts l trail (n, (m.name, seen_in vega_schema noted parts_at m.value)) in
        record {
          front = here ++ rest.front;
          back = rest.back;
          here = rest.here;
          quiet_front = both_quiet here rest.front (dull_member trail l n m (dull.0 other)) rest.quiet_front;
          quiet_back = rest.quiet_back;
          parts = ap (λ ps. here ++ ps) rest.parts ∙ sym (append_assoc here rest.front (of_member trail shape rest.here ++ rest.back));
          value = ap (λ b. option_map (λ (m : Member). m.value) (cond b (Some m) (find (λ (m : Member). bytes_eq m.name name) ms))) other ∙ rest.value;
          stands = rest.stands;
          behind = later n rest.here rest.behind;
        }
