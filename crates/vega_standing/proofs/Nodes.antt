-- The parts that need something or are needed, among all parts of a specification.
use Rattle.std.proofs.Common.{◌≡◌, ℕ, zero, suc, ◌+◌, List, [], ◌∷◌, ◌++◌, map, flat_map, find, cond, length, refl, sym, ap, subst, ◌∙◌, inl, inr, arith}
use Rattle.std.specs.Prelude.{Option, Some, None, Bool, true, false, ◌==◌, ◌&&◌, ◌||◌, IfSome, is_some, slice_get, filter_map, bytes_eq}
use Rattle.std.specs.Prelude.{unwrap_or, take, if◌then◌else◌}
use Rattle.std.specs.Option.{option_map, option_map_or, option_and_then, option_or}
use Rattle.std.specs.List.{enumerate_from, cons_option, list_any}
use Rattle.std.proofs.lemmas.Bool.Decides.{nat_tests}
use Rattle.std.proofs.lemmas.List.{append_assoc, length-append}
use Rattle.std.proofs.Math.Seq.{take-append_seam}
use Rattle.std.proofs.lemmas.Slice.Eq.{bytes_eq-Decides}
use Rattle.json_exact.specs.declared.json.Json.{Json}
use Rattle.spec_schema.specs.declared.spec_error.SpecKind.TheVariants.{Wrong}
use Rattle.need_graph.specs.Needs.{Needs, needs_of, has, needs_itself, by_itself}
use Rattle.vega_schema.specs.declared.codes.TheConstants.{TOP}
use Rattle.vega_parts.specs.declared.part.Part.{Part}
use Rattle.vega_parts.specs.declared.part.Part.TheVariants as part
use Rattle.vega_parts.specs.declared.part.GivenName.{GivenName}
use Rattle.vega_parts.specs.Parts.{parts_of}
use Rattle.vega_rules.specs.declared.fault.PlacedFault.{PlacedFault}
use Rattle.vega_rules.specs.Faults.{fault_at, fault_if}
use Rattle.vega_rules.specs.Places.{same_place, parent}
use Rattle.vega_rules.specs.Names.{given_by, number_of as kind_number, is_given, first_given}
use Rattle.vega_rules.specs.Twice.{is_single, is_repeated, repeated, twice}
use Rattle.vega_rules.specs.Folds.{is_source}
use Rattle.vega_rules.specs.declared.nodes.Thing.{Thing}
use Rattle.vega_rules.specs.declared.nodes.Thing.TheVariants as thing
use Rattle.vega_rules.specs.Nodes.{number_of, key, key_of, is_key, is_signal, node_at}
use Rattle.vega_rules.specs.Edges.{needs_by}
use Rattle.vega_rules.specs.Graph.{graph, all_needs, ends_from, end_from}
use Rattle.vega_rules.specs.Cycles.{is_signal_part, signal_number, signals, fault_place, fault_of, first_cycle}
use Rattle.vega_standing.proofs.Trees.{Each}
use Rattle.vega_standing.proofs.Known.{name_append}
use Rattle.vega_standing.proofs.Among.{In, in_flat, in_filter, position_there, position_none, position_is}
use Rattle.vega_standing.proofs.Keys.{suits}
use Rattle.vega_standing.proofs.Seats.{value_at, Stood, all_stood}

-- ---- numbers in a list

from_none : (k : ℕ) → k ≡ 0 + k
from_none k = omega arith

grown : (n k : ℕ) → n + 1 + k ≡ n + suc k
grown n k = omega arith

no_more : (n : ℕ) → n ≡ n + 0
no_more n = omega arith

numbered : {X : Type 0} (x : X) (n k : ℕ) (xs : List X) → slice_get xs k ≡ Some x → In (n + k, x) (enumerate_from n xs)
numbered x n k [] e = absurd cc
numbered x n zero (y ∷ xs) e = let same : y ≡ x = cc in inl (λ i. (sym (no_more n) i, sym same i))
numbered x n (suc k) (y ∷ xs) e = inr (subst (λ m. In (m, x) (enumerate_from (n + 1) xs)) (grown n k) (numbered x (n + 1) k xs e))

-- ---- nodes

keyed : (k : List ℕ) (o : Option (List ℕ)) → is_key k o ≡ true → o ≡ Some k
keyed k None e = absurd cc
keyed k (Some q) e = ap Some (sym ((bytes_eq-Decides k q).0 e))

itself : (k : List ℕ) → bytes_eq k k ≡ true
itself k = (bytes_eq-Decides k k).1 refl

-- a thing that a part is has a number
pub node_there : (parts : List Part) (t : Thing) (x : List ℕ) (p : Part) → In p parts → key_of p ≡ Some (key t x) → (k : ℕ) × (node_at parts t x ≡ Some k)
node_there parts t x p i e = position_there (λ p. is_key (key t x) (key_of p)) p 0 parts i (ap (is_key (key t x)) e ∙ itself (key t x))

-- the part of that number is the thing
pub node_is : (parts : List Part) (t : Thing) (x : List ℕ) (k : ℕ) → node_at parts t x ≡ Some k →
    (p : Part) × (slice_get parts k ≡ Some p) × (key_of p ≡ Some (key t x))
node_is parts t x k e =
    let (p, j, is, at, passes) = position_is (λ p. is_key (key t x) (key_of p)) 0 k parts e in
    (p, ap (slice_get parts) (is ∙ sym (from_none j)) ∙ at, keyed (key t x) (key_of p) passes)

heads : (a b : ℕ) (xs ys : List ℕ) → a ∷ xs ≡ b ∷ ys → (a ≡ b) × (xs ≡ ys)
heads a b xs ys e = (cc, cc)

same_thing : (t u : Thing) → number_of t ≡ number_of u → t ≡ u
same_thing thing.Signal thing.Signal e = refl
same_thing thing.Signal thing.Step e = absurd cc
same_thing thing.Signal thing.Source e = absurd cc
same_thing thing.Signal thing.Set e = absurd cc
same_thing thing.Step thing.Signal e = absurd cc
same_thing thing.Step thing.Step e = refl
same_thing thing.Step thing.Source e = absurd cc
same_thing thing.Step thing.Set e = absurd cc
same_thing thing.Source thing.Signal e = absurd cc
same_thing thing.Source thing.Step e = absurd cc
same_thing thing.Source thing.Source e = refl
same_thing thing.Source thing.Set e = absurd cc
same_thing thing.Set thing.Signal e = absurd cc
same_thing thing.Set thing.Step e = absurd cc
same_thing thing.Set thing.Source e = absurd cc
same_thing thing.Set thing.Set e = refl

same_shape : (a b : ℕ) (v w : Json) (o : Option (ℕ × Json)) → o ≡ Some (a, v) → o ≡ Some (b, w) → a ≡ b
same_shape a b v w o e f = ap (λ o. option_map_or (λ (c : ℕ × Json). c.0) o 0) (sym e ∙ f)

-- where a value stands, there is nothing that doesn't suit its shape
pub no_node : (tree : Json) (t : Thing) (x : List ℕ) (shape : ℕ) (v : Json) →
    value_at TOP tree x ≡ Some (shape, v) → suits t shape ≡ false → node_at (parts_of tree) t x ≡ None
no_node tree t x shape v at unlike = position_none (λ p. is_key (key t x) (key_of p)) 0 (parts_of tree) (each (parts_of tree) (all_stood tree))
  where
    never : (k : List ℕ) (b : Bool) → bytes_eq (key t x) k ≡ b → Stood TOP tree [] k → b ≡ false
    never k false e s = refl
    never k true e s =
        let (u, rest, inner, w, is, there, fits) = s in
        let same = heads (number_of t) (number_of u) x rest ((bytes_eq-Decides (key t x) k).0 e ∙ is) in
        let shapes : shape ≡ inner = same_shape shape inner v w (value_at TOP tree x) at (ap (value_at TOP tree) same.1 ∙ there) in
        let f : suits t shape ≡ true = (λ i. suits (same_thing t u same.0 i) (shapes i)) ∙ fits in
        absurd cc

    one : (o : Option (List ℕ)) → IfSome o (Stood TOP tree []) → is_key (key t x) o ≡ false
    one None s = refl
    one (Some k) s = never k (bytes_eq (key t x) k) refl s

    each : (parts : List Part) → Each (λ p. IfSome (key_of p) (Stood TOP tree [])) parts → Each (λ p. is_key (key t x) (key_of p) ≡ false) parts
    each [] a = tt
    each (p ∷ parts) a = (one (key_of p) a.0, each parts a.1)

-- ---- signals

signal_key : (p : Part) (x : List ℕ) → key_of p ≡ Some (key thing.Signal x) → is_signal_part p ≡ true
signal_key (part.Given name) x e = by_test (is_signal name.kind) e
  where
    by_test : (b : Bool) → (if b then Some (key thing.Signal name.of) else None) ≡ Some (key thing.Signal x) → b ≡ true
    by_test true f = refl
    by_test false f = absurd cc
signal_key (part.Used name) x e = by_test (is_source name.kind) e
  where
    other : (xs ys : List ℕ) → 2 ∷ xs ≡ 0 ∷ ys → ⊥
    other xs ys e = let f : 2 ≡ 0 = (heads 2 0 xs ys e).0 in cc

    by_test : (b : Bool) → (if b then Some (key thing.Source (parent name.at)) else None) ≡ Some (key thing.Signal x) → false ≡ true
    by_test true f = let g : key thing.Source (parent name.at) ≡ key thing.Signal x = cc in absurd (other (parent name.at) x g)
    by_test false f = absurd cc
signal_key (part.Step at set) x e = let f : 1 ∷ at ≡ 0 ∷ x = cc in let g : 1 ≡ 0 = (heads 1 0 at x f).0 in absurd cc
signal_key (part.Data at) x e = let f : 3 ∷ at ≡ 0 ∷ x = cc in let g : 3 ≡ 0 = (heads 3 0 at x f).0 in absurd cc
signal_key (part.Fault at kind) x e = absurd cc
signal_key (part.Mark at scope name group) x e = absurd cc
signal_key (part.Plot at) x e = absurd cc
signal_key (part.Fold at set fields) x e = absurd cc
signal_key (part.Interval at scope scale marks) x e = absurd cc

-- a node that is a signal is one of the numbers of signals
pub signal_node : (parts : List Part) (x : List ℕ) (k : ℕ) → node_at parts thing.Signal x ≡ Some k → In k (signals parts)
signal_node parts x k e =
    let (p, at, is) = node_is parts thing.Signal x k e in
    in_filter signal_number (k, p) k (enumerate_from 0 parts) (subst (λ m. In (m, p) (enumerate_from 0 parts)) (sym (from_none k)) (numbered p 0 k parts at))
    (ap (λ b. if b then Some k else None) (signal_key p x is))

faulty : (parts : List Part) (n : ℕ) (p : Part) → slice_get parts n ≡ Some p → is_signal_part p ≡ true → is_some (fault_of parts n) ≡ true
faulty parts n (part.Given name) at e =
    ap (λ o. is_some (option_map (λ (name : GivenName). fault_at Wrong (fault_place parts name)) (option_and_then given_by o))) at
faulty parts n (part.Used name) at e = absurd cc
faulty parts n (part.Step x set) at e = absurd cc
faulty parts n (part.Data x) at e = absurd cc
faulty parts n (part.Fault x kind) at e = absurd cc
faulty parts n (part.Mark x scope name group) at e = absurd cc
faulty parts n (part.Plot x) at e = absurd cc
faulty parts n (part.Fold x set fields) at e = absurd cc
faulty parts n (part.Interval x scope scale marks) at e = absurd cc

all_faulty : (parts : List Part) (n : ℕ) (rest : List Part) → ((k : ℕ) (p : Part) → slice_get rest k ≡ Some p → slice_get parts (n + k) ≡ Some p) →
    Each (λ u. is_some (fault_of parts u) ≡ true) (filter_map signal_number (enumerate_from n rest))
all_faulty parts n [] at = tt
all_faulty parts n (p ∷ rest) at =
    by_test (is_signal_part p) refl (all_faulty parts (n + 1) rest (λ k q e. ap (slice_get parts) (grown n k) ∙ at (suc k) q e))
  where
    Fine : List ℕ → Type 0
    Fine ks = Each (λ u. is_some (fault_of parts u) ≡ true) ks

    by_test : (b : Bool) → is_signal_part p ≡ b → Fine (filter_map signal_number (enumerate_from (n + 1) rest)) →
        Fine (cons_option (if b then Some n else None) (filter_map signal_number (enumerate_from (n + 1) rest)))
    by_test true e others = (faulty parts n p (ap (slice_get parts) (no_more n) ∙ at zero p refl) e, others)
    by_test false e others = others

none_found : (parts : List Part) (t : ℕ → Bool) (xs : List ℕ) → Each (λ u. is_some (fault_of parts u) ≡ true) xs →
    option_and_then (fault_of parts) (find t xs) ≡ None → Each (λ u. t u ≡ false) xs
none_found parts t [] each e = tt
none_found parts t (x ∷ xs) each e = by_test (t x) refl e (none_found parts t xs each.1)
  where
    there : (o : Option PlacedFault) → is_some o ≡ true → o ≡ None → ⊥
    there None a b = cc
    there (Some f) a b = cc

    by_test : (b : Bool) → t x ≡ b → option_and_then (fault_of parts) (cond b (Some x) (find t xs)) ≡ None →
        (option_and_then (fault_of parts) (find t xs) ≡ None → Each (λ u. t u ≡ false) xs) →
        Each (λ u. t u ≡ false) (x ∷ xs)
    by_test true f g rest = absurd (there (fault_of parts x) each.0 g)
    by_test false f g rest = (f, rest g)

-- where no signal is found that needs itself, none does
pub free_signals : (parts : List Part) → first_cycle parts ≡ None → Each (λ v. needs_itself (graph parts) v ≡ false) (signals parts)
free_signals parts e = none_found parts (needs_itself (graph parts)) (signals parts)
    (all_faulty parts 0 parts (λ k p at. ap (slice_get parts) (sym (from_none k)) ∙ at)) e

-- ---- the graph

end_there : (v w : ℕ) (edges : List (ℕ × ℕ)) → In (v, w) edges → In w (ends_from edges v)
end_there v w edges i = in_filter (end_from v) (v, w) w edges i (ap (λ b. if b then Some w else None) (same v))
  where
    same : (v : ℕ) → (v == v) ≡ true
    same v = grind (arith, nat_tests)

any_there : (w : ℕ) (ws : List ℕ) → In w ws → has ws w ≡ true
any_there w [] i = absurd i
any_there w (u ∷ ws) (inl same) = subst (λ x. list_any (λ y. y == w) (x ∷ ws) ≡ true) same (ap (λ b. b || list_any (λ y. y == w) ws) (alike w))
  where
    alike : (v : ℕ) → (v == v) ≡ true
    alike v = grind (arith, nat_tests)
any_there w (u ∷ ws) (inr i) = either (u == w) (list_any (λ y. y == w) ws) (any_there w ws i)
  where
    either : (a b : Bool) → b ≡ true → (a || b) ≡ true
    either true b e = refl
    either false b e = e

row_at : (edges : List (ℕ × ℕ)) (n k : ℕ) (parts : List Part) (p : Part) → slice_get parts k ≡ Some p →
    slice_get (map (λ (row : ℕ × Part). ends_from edges row.0) (enumerate_from n parts)) k ≡ Some (ends_from edges (n + k))
row_at edges n k [] p e = absurd cc
row_at edges n zero (q ∷ parts) p e = ap (λ m. Some (ends_from edges m)) (no_more n)
row_at edges n (suc k) (q ∷ parts) p e = row_at edges (n + 1) k parts p e ∙ ap (λ m. Some (ends_from edges m)) (grown n k)

-- the graph has each need that a part shows
pub shows : (parts : List Part) (p : Part) (t : Thing) (x : List ℕ) (v w : ℕ) → In p parts →
    In (v, w) (needs_by (node_at parts) parts p) → node_at parts t x ≡ Some v → Needs (graph parts) v w
shows parts p t x v w i j at =
    let (q, there, is) = node_is parts t x v at in
    let row : needs_of (graph parts) v ≡ ends_from (all_needs parts) v =
    ap (λ o. unwrap_or o []) (row_at (all_needs parts) 0 v parts q there) ∙ ap (ends_from (all_needs parts)) (sym (from_none v)) in
    by_itself v w (ap (λ ws. has ws w) row
    ∙ any_there w (ends_from (all_needs parts) v) (end_there v w (all_needs parts) (in_flat (needs_by (node_at parts) parts) p (v, w) parts i j)))

-- ---- names

none_if : (b : Bool) (at : List ℕ) → fault_if b Wrong at ≡ [] → b ≡ false
none_if true at e = absurd cc
none_if false at e = refl

not_there : (single : Bool) (o : Option GivenName) → single ≡ true → (single && is_some o) ≡ false → o ≡ None
not_there true None a b = refl
not_there true (Some g) a b = absurd cc
not_there false o a b = absurd cc

none_of : {X : Type 0} (xs ys : List X) → xs ++ ys ≡ [] → (xs ≡ []) × (ys ≡ [])
none_of [] ys e = (refl, e)
none_of (x ∷ xs) ys e = absurd cc

all_three : (a b c : Bool) → a ≡ true → b ≡ true → c ≡ true → (a && b && c) ≡ true
all_three true true true x y z = refl
all_three true true false x y z = z
all_three true false c x y z = y
all_three false b c x y z = x

gives_itself : (g : GivenName) → is_given g.kind g.scope g.name g ≡ true
gives_itself g = all_three (kind_number g.kind == kind_number g.kind) (same_place g.scope g.scope)
    (bytes_eq g.name g.name) (same (kind_number g.kind)) (itself g.scope) (itself g.name)
  where
    same : (v : ℕ) → (v == v) ≡ true
    same v = grind (arith, nat_tests)

only_from : (before rest : List Part) (n : ℕ) (g : GivenName) → length before ≡ n → is_single g.kind ≡ true → In (part.Given g) rest →
    flat_map (λ (row : ℕ × Part). repeated (take row.0 (before ++ rest)) row.1) (enumerate_from n rest) ≡ [] →
    first_given (before ++ rest) g.kind g.scope g.name ≡ Some g
only_from before [] n g len single i e = absurd i
only_from before (p ∷ rest) n g len single (inl same) e =
    let here : repeated (take n (before ++ p ∷ rest)) p ≡ [] = (none_of (repeated (take n (before ++ p ∷ rest)) p) _ e).0 in
    let front : take n (before ++ p ∷ rest) ≡ before = ap (λ k. take k (before ++ p ∷ rest)) (sym len) ∙ take-append_seam before (p ∷ rest) in
    let none : fault_if (is_repeated before g) Wrong g.at ≡ [] =
    ap (λ ps. repeated ps (part.Given g)) (sym front) ∙ ap (repeated (take n (before ++ p ∷ rest))) same ∙ here in
    let not_before : first_given before g.kind g.scope g.name ≡ None =
    not_there (is_single g.kind) (first_given before g.kind g.scope g.name) single (none_if (is_repeated before g) g.at none) in
    name_append g.kind g.scope g.name before (p ∷ rest)
    ∙ ap (λ o. option_or o (first_given (p ∷ rest) g.kind g.scope g.name)) not_before
    ∙ ap (λ q. first_given (q ∷ rest) g.kind g.scope g.name) (sym same)
    ∙ ap (λ b. cond b (Some g) (first_given rest g.kind g.scope g.name)) (gives_itself g)
only_from before (p ∷ rest) n g len single (inr i) e =
    let later = (none_of (repeated (take n (before ++ p ∷ rest)) p) _ e).1 in
    let again : before ++ p ∷ rest ≡ (before ++ p ∷ []) ++ rest = sym (append_assoc before (p ∷ []) rest) in
    ap (λ ps. first_given ps g.kind g.scope g.name) again
    ∙ only_from (before ++ p ∷ []) rest (n + 1) g (length-append before (p ∷ []) ∙ ap (λ k. k + 1) len) single i
    (ap (λ ps. flat_map (λ (row : ℕ × Part). repeated (take row.0 ps) row.1) (enumerate_from (n + 1) rest)) (sym again) ∙ later)

-- a name that may be given once only is what its name leads to
pub the_only : (parts : List Part) (g : GivenName) → twice parts ≡ [] → is_single g.kind ≡ true →
    In (part.Given g) parts → first_given parts g.kind g.scope g.name ≡ Some g
the_only parts g none single i = only_from [] parts 0 g refl single i none
