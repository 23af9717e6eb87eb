-- Which marks are met.
use Rattle.std.proofs.Common.{◌≡◌, ℕ, zero, suc, ◌+◌, ◌<◌, Bool, true, false, ◌&&◌, ◌||◌, List, [], ◌∷◌, ◌++◌, length, take, drop, get_or}
use Rattle.std.proofs.Common.{map, Option, Some, None, cond, refl, sym, ap, ◌∙◌, arith}
use Rattle.std.specs.Prelude.{◌==◌, Vec, bytes_eq, is_some, slice_get}
use Rattle.std.specs.List.{list_any, position_from}
use Rattle.std.specs.declared.alloc.Global.{Global}
use Rattle.std.specs.BTreeMap.{BTreeMap}
use Rattle.std.proofs.lemmas.Bool.Decides.{nat_tests}
use Rattle.std.proofs.lemmas.List.{drop_more}
use Rattle.vega_parts.specs.declared.part.Part.{Part}
use Rattle.vega_parts.specs.declared.part.Part.TheVariants as part
use Rattle.vega_parts.specs.declared.part.UsedName.{UsedName}
use Rattle.vega_rules.specs.Places.{is_inside}
use Rattle.vega_rules.specs.Below.{is_of_mark, is_named_below, is_mark_below}
use Rattle.vega_rules.specs.declared.keys.By.TheVariants as by
use Rattle.vega_rules.specs.inner.Keyed.{number_at}
use Rattle.vega_rules.specs.inner.Index.{mark_key, is_key, key_by, own_mark, key_if, IsIndex}
use Rattle.vega_rules.specs.inner.Met.{outer, reaches_at, reaches_by, reaches, IsMet}
use Rattle.vega_rules.proofs.KeyLemmas.{names_apart, take_name}

-- ---- tests

same_lists : (xs ys : List ℕ) → bytes_eq xs ys ≡ true → xs ≡ ys
same_lists [] [] h = refl
same_lists [] (y ∷ ys) h = absurd (cc)
same_lists (x ∷ xs) [] h = absurd (cc)
same_lists (x ∷ xs) (y ∷ ys) h =
    let first : x ≡ y = same_number x y (left_of (x == y) _ h) in
    let others : xs ≡ ys = same_lists xs ys (right_of (x == y) _ h) in cc
  where
    left_of : (a b : Bool) → (a && b) ≡ true → a ≡ true
    left_of true b h = refl
    left_of false b h = h

    right_of : (a b : Bool) → (a && b) ≡ true → b ≡ true
    right_of true b h = h
    right_of false b h = absurd (cc)

    same_number : (x y : ℕ) → (x == y) ≡ true → x ≡ y
    same_number x y h = grind (arith, nat_tests)

same_itself : (xs : List ℕ) → bytes_eq xs xs ≡ true
same_itself [] = refl
same_itself (x ∷ xs) = rw (own x, same_itself xs) refl
  where
    own : (x : ℕ) → (x == x) ≡ true
    own x = grind (arith, nat_tests)

or_false : (a : Bool) → (a || false) ≡ a
or_false true = refl
or_false false = refl

or_true : (a : Bool) → true ≡ (a || true)
or_true true = refl
or_true false = refl

joined : (o f r a : Bool) → ((o || (f && a)) || (r && a)) ≡ (o || ((f || r) && a))
joined true f r a = refl
joined false true r true = refl
joined false true r false = and_none r
  where
    and_none : (r : Bool) → (r && false) ≡ false
    and_none true = refl
    and_none false = refl
joined false false r a = refl

-- ---- one key

abbrev has : BTreeMap (Vec ℕ Global) ℕ → List ℕ → Bool
has m q = is_some (number_at m q)

by_equal : (asked old : BTreeMap (Vec ℕ Global) ℕ) (key q : List ℕ) (b : Bool) → bytes_eq q key ≡ b → is_some (number_at asked key) ≡ true
    → is_some (cond b (Some 0) (number_at old q)) ≡ (is_some (number_at old q) || (b && is_some (number_at asked q)))
by_equal asked old key q true e there =
    let here : is_some (number_at asked q) ≡ true = ap (has asked) (same_lists q key e) ∙ there in
    or_true (has old q) ∙ ap (λ x. has old q || x) (sym here)
by_equal asked old key q false e there = sym (or_false (has old q))

pub met_one : (asked old new : BTreeMap (Vec ℕ Global) ℕ) (key : List ℕ) → is_some (number_at asked key) ≡ true → ((q : List ℕ)
    → number_at new q ≡ cond (bytes_eq q key) (Some 0) (number_at old q))
    → (q : List ℕ) → is_some (number_at new q) ≡ (is_some (number_at old q) || (bytes_eq q key && is_some (number_at asked q)))
met_one asked old new key there put q = ap is_some (put q) ∙ by_equal asked old key q (bytes_eq q key) refl there

by_none : (asked old : BTreeMap (Vec ℕ Global) ℕ) (key q : List ℕ) (b : Bool) → bytes_eq q key ≡ b → is_some (number_at asked key) ≡ false
    → is_some (number_at old q) ≡ (is_some (number_at old q) || (b && is_some (number_at asked q)))
by_none asked old key q true e there =
    let here : is_some (number_at asked q) ≡ false = ap (has asked) (same_lists q key e) ∙ there in
    sym (or_false (has old q)) ∙ ap (λ x. has old q || x) (sym here)
by_none asked old key q false e there = sym (or_false (has old q))

pub met_none : (asked old : BTreeMap (Vec ℕ Global) ℕ) (key : List ℕ) → is_some (number_at asked key) ≡ false
    → (q : List ℕ) → is_some (number_at old q) ≡ (is_some (number_at old q) || (bytes_eq q key && is_some (number_at asked q)))
met_none asked old key there q = by_none asked old key q (bytes_eq q key) refl there

-- ---- the fronts of a key

outer_step : (s : List ℕ) (n : ℕ) → n < length s → outer (take (suc n) s) ≡ take n s ∷ outer (take n s)
outer_step [] n h = absurd (omega arith)
outer_step (x ∷ xs) zero h = refl
outer_step (x ∷ xs) (suc n) h = ap (λ fs. map (λ front. x ∷ front) fs ++ ([] ∷ [])) (outer_step xs n (omega arith))

take_mark_key : (name at : List ℕ) (n : ℕ) → take (1 + length name + n) (mark_key name at) ≡ mark_key name (take n at)
take_mark_key name at n =
    let e : 1 + length name + n ≡ suc (length name + n) = omega arith in
    ap (λ k. take k (mark_key name at)) e ∙ ap (λ l. length name ∷ l) (take_name n name at)

module _ (asked : BTreeMap (Vec ℕ Global) ℕ) where
  -- one front fewer is left
  pub fronts_more : (old new : BTreeMap (Vec ℕ Global) ℕ) (name at key : List ℕ) (n m : ℕ) (whole : List ℕ → Bool) → n < length at
      → m ≡ suc n → key ≡ mark_key name at
      → ((q : List ℕ) → is_some (number_at new q)
      ≡ (is_some (number_at old q) || (bytes_eq q (take (1 + length name + n) key) && is_some (number_at asked q))))
      → ((q : List ℕ) → (is_some (number_at old q) || (reaches_at q name (take m at) && is_some (number_at asked q))) ≡ whole q)
      → (q : List ℕ) → (is_some (number_at new q) || (reaches_at q name (take n at) && is_some (number_at asked q))) ≡ whole q
  fronts_more old new name at key n m whole l is k put h q =
      let rest : Bool = reaches_at q name (take n at) in
      let a : Bool = has asked q in
      let now : has new q ≡ (has old q || (bytes_eq q (mark_key name (take n at)) && a)) =
      put q ∙ ap (λ x. has old q || (bytes_eq q x && a)) (ap (take (1 + length name + n)) k ∙ take_mark_key name at n) in
      let split : reaches_at q name (take m at) ≡ (bytes_eq q (mark_key name (take n at)) || rest) =
      ap (λ x. reaches_at q name (take x at)) is ∙ ap (list_any (λ scope. bytes_eq q (mark_key name scope))) (outer_step at n l) in
      ap (λ x. x || (rest && a)) now
      ∙ joined (has old q) (bytes_eq q (mark_key name (take n at))) rest a
      ∙ ap (λ x. has old q || (x && a)) (sym split)
      ∙ h q

  -- none is left
  pub fronts_done : (met : BTreeMap (Vec ℕ Global) ℕ) (name at : List ℕ) (n : ℕ) (whole : List ℕ → Bool) → n ≡ 0
      → ((q : List ℕ) → (is_some (number_at met q) || (reaches_at q name (take n at) && is_some (number_at asked q))) ≡ whole q)
      → (q : List ℕ) → is_some (number_at met q) ≡ whole q
  fronts_done met name at n whole z h q =
      sym (or_false (has met q)) ∙ ap (λ k. has met q || (reaches_at q name (take k at) && has asked q)) (sym z) ∙ h q

  -- ---- the parts

  pub parts_more : (old new : BTreeMap (Vec ℕ Global) ℕ) (parts : List Part) (i : ℕ) (p : Part) (whole : List ℕ → Bool)
      → i < length parts → p ≡ get_or parts i p
      → ((q : List ℕ) → is_some (number_at new q) ≡ (is_some (number_at old q) || (reaches q p && is_some (number_at asked q))))
      → ((q : List ℕ) → (is_some (number_at old q) || (list_any (reaches q) (drop i parts) && is_some (number_at asked q))) ≡ whole q)
      → (q : List ℕ) → (is_some (number_at new q) || (list_any (reaches q) (drop (i + 1) parts) && is_some (number_at asked q))) ≡ whole q
  parts_more old new parts i p whole l is put h q =
      let rest : Bool = list_any (reaches q) (drop (i + 1) parts) in
      let a : Bool = has asked q in
      let split : list_any (reaches q) (drop i parts) ≡ (reaches q p || rest) =
      ap (list_any (reaches q)) (drop_more parts i p l ∙ ap (λ (x : Part). x ∷ drop (i + 1) parts) (sym is)) in
      ap (λ x. x || (rest && a)) (put q) ∙ joined (has old q) (reaches q p) rest a ∙ ap (λ x. has old q || (x && a)) (sym split) ∙ h q

-- ---- a mark is met under a key where it has the name and stands below

and_none : (a : Bool) → (a && false) ≡ false
and_none true = refl
and_none false = refl

any_and : (f : List ℕ → Bool) (b : Bool) (ss : List (List ℕ)) → list_any (λ s. f s && b) ss ≡ (list_any f ss && b)
any_and f b [] = refl
any_and f b (s ∷ ss) = ap (λ x. (f s && b) || x) (any_and f b ss) ∙ spread (f s) (list_any f ss) b
  where
    spread : (x y b : Bool) → ((x && b) || (y && b)) ≡ ((x || y) && b)
    spread true y true = refl
    spread true y false = and_none y
    spread false y b = refl

any_same : {X : Type 0} (f g : X → Bool) (xs : List X) → ((x : X) → f x ≡ g x) → list_any f xs ≡ list_any g xs
any_same f g [] h = refl
any_same f g (x ∷ xs) h = rw (h x, any_same f g xs h) refl

any_last : (f : List ℕ → Bool) (ss : List (List ℕ)) → f [] ≡ true → list_any f (ss ++ ([] ∷ [])) ≡ true
any_last f [] h = rw h refl
any_last f (s ∷ ss) h = ap (λ x. f s || x) (any_last f ss h) ∙ sym (or_true (f s))

any_under : (m n : ℕ) (ms : List ℕ) (ss : List (List ℕ))
    → list_any (bytes_eq (m ∷ ms)) (map (λ front. n ∷ front) ss ++ ([] ∷ [])) ≡ ((m == n) && list_any (bytes_eq ms) ss)
any_under m n ms [] = sym (and_none (m == n))
any_under m n ms (s ∷ ss) = ap (λ x. ((m == n) && bytes_eq ms s) || x) (any_under m n ms ss)
    ∙ gather (m == n) (bytes_eq ms s) (list_any (bytes_eq ms) ss)
  where
    gather : (a x y : Bool) → ((a && x) || (a && y)) ≡ (a && (x || y))
    gather true x y = refl
    gather false x y = refl

inside : (scope at : List ℕ) → list_any (bytes_eq scope) (outer at) ≡ is_inside scope at
inside scope [] = refl
inside [] (n ∷ ns) = any_last (bytes_eq []) (map (λ front. n ∷ front) (outer ns)) refl
inside (m ∷ ms) (n ∷ ns) = any_under m n ms (outer ns) ∙ ap (λ x. (m == n) && x) (inside ms ns)

flipped : (a b : Bool) → (a && b) ≡ (b && a)
flipped true true = refl
flipped true false = refl
flipped false true = refl
flipped false false = refl

met_at : (name scope own at : List ℕ) → reaches_at (mark_key name scope) own at ≡ (bytes_eq name own && is_inside scope at)
met_at name scope own at =
    any_same (λ s. bytes_eq (mark_key name scope) (mark_key own s)) (λ s. bytes_eq scope s && bytes_eq name own) (outer at)
    (λ s. names_apart name own scope s)
    ∙ any_and (bytes_eq scope) (bytes_eq name own) (outer at)
    ∙ ap (λ x. x && bytes_eq name own) (inside scope at)
    ∙ flipped (is_inside scope at) (bytes_eq name own)

met_by : (name scope at : List ℕ) (own : Option (List ℕ)) → reaches_by (mark_key name scope) at own ≡ is_named_below name scope at own
met_by name scope at None = refl
met_by name scope at (Some own) = met_at name scope own at

met_part : (name scope : List ℕ) (p : Part) → reaches (mark_key name scope) p ≡ is_mark_below name scope p
met_part name scope (part.Mark at object own group) = met_by name scope at own
met_part name scope (part.Fault at kind) = refl
met_part name scope (part.Given g) = refl
met_part name scope (part.Used u) = refl
met_part name scope (part.Plot at) = refl
met_part name scope (part.Data set) = refl
met_part name scope (part.Step at set) = refl
met_part name scope (part.Fold at set fields) = refl
met_part name scope (part.Interval at object scale names) = refl

-- ---- what a part asks for is asked for

present : (key : Part → Bool) (ps : List Part) (n i : ℕ) (p : Part) → slice_get ps i ≡ Some p → key p ≡ true
    → is_some (position_from key n ps) ≡ true
present key [] n i p item h = absurd (cc)
present key (x ∷ ps) n zero p item h = let e : x ≡ p = cc in rw (ap key e ∙ h) refl
present key (x ∷ ps) n (suc i) p item h = by_test (key x) (present key ps (n + 1) i p item h)
  where
    by_test : (b : Bool) → is_some (position_from key (n + 1) ps) ≡ true → is_some (cond b (Some n) (position_from key (n + 1) ps)) ≡ true
    by_test true later = refl
    by_test false later = later

own_key : (u : UsedName) → is_of_mark u.kind ≡ true → is_key (mark_key u.name u.scope) (own_mark u) ≡ true
own_key u h = ap (λ b. is_key (mark_key u.name u.scope) (key_if b (mark_key u.name u.scope))) h ∙ same_itself (mark_key u.name u.scope)

pub is_met : (asked met : BTreeMap (Vec ℕ Global) ℕ) (parts : List Part) → IsIndex by.Mark asked parts
    → ((q : List ℕ) → is_some (number_at met q) ≡ (list_any (reaches q) parts && is_some (number_at asked q))) → IsMet met parts
is_met asked met parts index h = record {
  tells = λ u i item of.
      let q : List ℕ = mark_key u.name u.scope in
      let there : has asked q ≡ true =
      ap is_some (index.finds q) ∙ present (λ p. is_key q (key_by by.Mark p)) parts 0 i (part.Used u) item (own_key u of) in
      h q ∙ ap (λ x. list_any (reaches q) parts && x) there ∙ and_one (list_any (reaches q) parts)
      ∙ any_same (reaches q) (is_mark_below u.name u.scope) parts (met_part u.name u.scope);
}
  where
    and_one : (a : Bool) → (a && true) ≡ a
    and_one true = refl
    and_one false = refl
