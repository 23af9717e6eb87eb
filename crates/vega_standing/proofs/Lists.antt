-- The folds of the data sets of an object.
use Rattle.std.proofs.Common.{◌≡◌, ℕ, ◌+◌, ◌≤◌, ◌<◌, List, [], ◌∷◌, ◌++◌, length, cond, refl, sym, ap, subst, ◌∙◌, arith}
use Rattle.std.specs.Prelude.{Option, Some, None, Bool, true, false, ◌==◌, ◌&&◌, ◌||◌, nat_lt, bytes_eq, IfSome, is_some, is_none, flat_map}
use Rattle.std.specs.Prelude.{take, if◌then◌else◌}
use Rattle.std.specs.List.{enumerate_from}
use Rattle.std.proofs.lemmas.Bool.Decides.{nat_tests}
use Rattle.std.proofs.lemmas.List.{append_assoc, append-nil, length-append}
use Rattle.std.proofs.Math.Seq.{take-append_seam}
use Rattle.spec_schema.specs.declared.spec_error.SpecKind.TheVariants.{Wrong}
use Rattle.vega_parts.specs.declared.part.Part.{Part}
use Rattle.vega_parts.specs.declared.part.Part.TheVariants as part
use Rattle.vega_parts.specs.declared.part.Given.TheVariants as given_as
use Rattle.vega_parts.specs.declared.part.GivenName.{GivenName}
use Rattle.vega_parts.specs.declared.part.Used.TheVariants as for_
use Rattle.vega_parts.specs.declared.part.UsedName.{UsedName}
use Rattle.vega_rules.specs.Faults.{fault_if}
use Rattle.vega_rules.specs.Places.{same_place, ends_before}
use Rattle.vega_rules.specs.Names.{number_of, is_given, first_given}
use Rattle.vega_rules.specs.Twice.{repeated, twice}
use Rattle.vega_rules.specs.Unknown.{unknown, unknown_by}
use Rattle.vega_rules.specs.Resolved.{giver, given_in, first_found, resolved_use}
use Rattle.vega_rules.specs.Folds.{product_of}
use Rattle.vega_lists.specs.Products.{Products}
use Rattle.vega_standing.proofs.Trees.{Each}
use Rattle.vega_standing.proofs.Quiet.{is_quiet_name, each_of}
use Rattle.vega_standing.proofs.Known.{Under, unlike, concern, Apart, known_after, apart_product, loud_data}

-- ---- what ends before

not_less : (p : ℕ) → nat_lt p p ≡ false
not_less p = grind (arith, nat_tests)

equal_self : (p : ℕ) → (p == p) ≡ true
equal_self p = grind (arith, nat_tests)

pub ends_front : (place a b : List ℕ) → ends_before (place ++ a) (place ++ b) ≡ ends_before a b
ends_front [] a b = refl
ends_front (p ∷ place) a b = (λ i. not_less p i || (equal_self p i && ends_before (place ++ a) (place ++ b))) ∙ ends_front place a b

less_than : (i j : ℕ) → i < j → nat_lt i j ≡ true
less_than i j e = grind (arith, nat_tests)

not_less_than : (i j : ℕ) → j < i → nat_lt i j ≡ false
not_less_than i j e = grind (arith, nat_tests)

not_equal : (i j : ℕ) → j < i → (i == j) ≡ false
not_equal i j e = grind (arith, nat_tests)

first_ends : (i j : ℕ) (rest : List ℕ) → i < j → ends_before (i ∷ []) (j ∷ rest) ≡ true
first_ends i j rest e = ap (λ b. b || (i == j && ends_before [] rest)) (less_than i j e)

pub later_not : (i j : ℕ) (xs ys : List ℕ) → j < i → ends_before (i ∷ xs) (j ∷ ys) ≡ false
later_not i j xs ys e = λ k. not_less_than i j e k || (not_equal i j e k && ends_before xs ys)

pub earlier_ends : (place : List ℕ) (i j : ℕ) (rest : List ℕ) → i < j → ends_before (place ++ i ∷ []) ((place ++ j ∷ []) ++ rest) ≡ true
earlier_ends place i j rest e =
    ap (ends_before (place ++ i ∷ [])) (append_assoc place (j ∷ []) rest) ∙ ends_front place (i ∷ []) (j ∷ rest) ∙ first_ends i j rest e

pub later_ends_not : (place : List ℕ) (i j : ℕ) (xs ys : List ℕ) → j < i → ends_before ((place ++ i ∷ []) ++ xs) ((place ++ j ∷ []) ++ ys) ≡ false
later_ends_not place i j xs ys e =
    (λ k. ends_before (append_assoc place (i ∷ []) xs k) (append_assoc place (j ∷ []) ys k)) ∙ ends_front place (i ∷ xs) (j ∷ ys) ∙ later_not i j xs ys e

pub itself_not : (x : List ℕ) (k : ℕ) → ends_before x (x ++ k ∷ []) ≡ false
itself_not x k = ap (λ y. ends_before y (x ++ k ∷ [])) (sym (append-nil x)) ∙ ends_front x [] (k ∷ [])

-- ---- names that don't end before a use

-- a part gives no name of rows in an object that ends before a place
abbrev pub Behind : List ℕ → List ℕ → Part → Type 0
Behind scope at (part.Given g) = same_place scope g.scope ≡ true → is_quiet_name g.kind ≡ false → ends_before g.of at ≡ false
Behind scope at (part.Used u) = Unit {0}
Behind scope at (part.Data place) = Unit {0}
Behind scope at (part.Fold place set fields) = Unit {0}
Behind scope at (part.Fault place kind) = Unit {0}
Behind scope at (part.Mark place outer name group) = Unit {0}
Behind scope at (part.Plot place) = Unit {0}
Behind scope at (part.Step place set) = Unit {0}
Behind scope at (part.Interval place outer scale marks) = Unit {0}

apart_given : (scope : List ℕ) (g : GivenName) (b : Bool) → is_quiet_name g.kind ≡ b →
    IfSome (if b then None else Some g.scope) (λ t. same_place scope t ≡ false) →
    same_place scope g.scope ≡ true → is_quiet_name g.kind ≡ false → ⊥
apart_given scope g true e a same loud = cc
apart_given scope g false e a same loud = cc

pub apart_behind : (scope at : List ℕ) (p : Part) → Apart scope p → Behind scope at p
apart_behind scope at (part.Given g) a = λ same loud. absurd (apart_given scope g (is_quiet_name g.kind) refl a same loud)
apart_behind scope at (part.Used u) a = tt
apart_behind scope at (part.Data place) a = tt
apart_behind scope at (part.Fold place set fields) a = tt
apart_behind scope at (part.Fault place kind) a = tt
apart_behind scope at (part.Mark place outer name group) a = tt
apart_behind scope at (part.Plot place) a = tt
apart_behind scope at (part.Step place set) a = tt
apart_behind scope at (part.Interval place outer scale marks) a = tt

three : (a b c : Bool) → (a && b && c) ≡ true → (a ≡ true) × (b ≡ true)
three true true c e = (refl, refl)
three true false c e = absurd cc
three false b c e = absurd cc

loud_kind : (g : GivenName) (b : Bool) → is_quiet_name g.kind ≡ b → (0 == number_of g.kind) ≡ true → b ≡ false
loud_kind g false e f = refl
loud_kind g true e f = let none : (0 == number_of g.kind) ≡ false = loud_data.unlike_quiet g.kind e in absurd cc

pub first_later : (scope at name : List ℕ) (parts : List Part) (g : GivenName) → Each (Behind scope at) parts →
    first_given parts given_as.Data scope name ≡ Some g → ends_before g.of at ≡ false
first_later scope at name [] g each e = absurd cc
first_later scope at name (part.Given h ∷ parts) g each e = by_test (is_given given_as.Data scope name h) refl e (first_later scope at name parts g each.1)
  where
    by_test : (b : Bool) → is_given given_as.Data scope name h ≡ b → cond b (Some h) (first_given parts given_as.Data scope name) ≡ Some g →
        (first_given parts given_as.Data scope name ≡ Some g → ends_before g.of at ≡ false) → ends_before g.of at ≡ false
    by_test true is f rest =
        let same : h ≡ g = cc in
        let both = three (0 == number_of h.kind) (same_place scope h.scope) (bytes_eq name h.name) is in
        subst (λ (x : GivenName). ends_before x.of at ≡ false) same (each.0 both.1 (loud_kind h (is_quiet_name h.kind) refl both.0))
    by_test false is f rest = rest f
first_later scope at name (part.Used u ∷ parts) g each e = first_later scope at name parts g each.1 e
first_later scope at name (part.Data place ∷ parts) g each e = first_later scope at name parts g each.1 e
first_later scope at name (part.Fold place set fields ∷ parts) g each e = first_later scope at name parts g each.1 e
first_later scope at name (part.Fault place kind ∷ parts) g each e = first_later scope at name parts g each.1 e
first_later scope at name (part.Mark place outer nm group ∷ parts) g each e = first_later scope at name parts g each.1 e
first_later scope at name (part.Plot place ∷ parts) g each e = first_later scope at name parts g each.1 e
first_later scope at name (part.Step place set ∷ parts) g each e = first_later scope at name parts g each.1 e
first_later scope at name (part.Interval place outer scale marks ∷ parts) g each e = first_later scope at name parts g each.1 e

-- ---- what is known of the names of the objects round an object

-- what a name means outside of an object: where it ends before what stands in the object, its product is known
abbrev pub Meets : List (List ℕ × ℕ) → List ℕ → ℕ → Option GivenName → Type 0
Meets known place product None = Unit {0}
Meets known place product (Some g) =
    ((q : List ℕ) → Under place q → ends_before g.of q ≡ true → product_of known g.of ≡ product) × (Under place g.of → ⊥)

-- those of all names, in some objects; none passes 8
pub record Outer (whole : List Part) (known : List (List ℕ × ℕ)) (place : List ℕ) (scopes : List (List ℕ)) (products : Products) : Type 0 where
  pub meets : (name : List ℕ) → Meets known place (products name) (first_found (given_in whole for_.Source name) scopes)
  pub few : (name : List ℕ) → products name ≤ 8

never_under : (place x : List ℕ) (p : Part) → (Under place x → ⊥) → IfSome (concern p) (Under place) → Apart x p
never_under place x p never u = by_concern (concern p) u
  where
    by_concern : (o : Option (List ℕ)) → IfSome o (Under place) → IfSome o (λ t. same_place x t ≡ false)
    by_concern None u = tt
    by_concern (Some t) u = unlike x t (λ same. never (subst (Under place) (sym same) u))

-- parts in the object change nothing of it
pub outer_kept : (whole : List Part) (known : List (List ℕ × ℕ)) (place : List ℕ) (scopes : List (List ℕ)) (products : Products) (parts : List Part) →
    Each (λ p. IfSome (concern p) (Under place)) parts → Outer whole known place scopes products →
    Outer whole (known_after whole known parts) place scopes products
outer_kept whole known place scopes products parts each o = record {
  meets = λ name. kept (first_found (given_in whole for_.Source name) scopes) (products name) (o.meets name);
  few = o.few;
}
  where
    kept : (g : Option GivenName) (product : ℕ) → Meets known place product g → Meets (known_after whole known parts) place product g
    kept None product m = tt
    kept (Some g) product m = (
      λ q u ends. apart_product whole known parts g.of
          (each_of (λ p. IfSome (concern p) (Under place)) (Apart g.of) (λ p u. never_under place g.of p m.1 u) parts each)
          ∙ m.0 q u ends,
      m.1,
    )

-- ---- rules at a place among the parts

none_of : {X : Type 0} (xs ys : List X) → xs ++ ys ≡ [] → (xs ≡ []) × (ys ≡ [])
none_of [] ys e = (refl, e)
none_of (x ∷ xs) ys e = absurd cc

repeated_from : (all before rest : List Part) (p : Part) (others : List Part) → all ≡ before ++ (rest ++ p ∷ others) →
    flat_map (λ (row : ℕ × Part). repeated (take row.0 all) row.1) (enumerate_from (length before) (rest ++ p ∷ others)) ≡ [] → repeated (before ++ rest) p ≡ []
repeated_from all before [] p others is none =
    let front : take (length before) all ≡ before ++ [] = ap (take (length before)) is ∙ take-append_seam before (p ∷ others) ∙ sym (append-nil before) in
    ap (λ ps. repeated ps p) (sym front) ∙ (none_of (repeated (take (length before) all) p) _ none).0
repeated_from all before (r ∷ rest) p others is none =
    let on : length before + 1 ≡ length (before ++ r ∷ []) = sym (length-append before (r ∷ [])) in
    ap (λ ps. repeated ps p) (sym (append_assoc before (r ∷ []) rest))
    ∙ repeated_from all (before ++ r ∷ []) rest p others (is ∙ sym (append_assoc before (r ∷ []) (rest ++ p ∷ others)))
    (ap (λ n. flat_map (λ (row : ℕ × Part). repeated (take row.0 all) row.1) (enumerate_from n (rest ++ p ∷ others))) (sym on)
    ∙ (none_of (repeated (take (length before) all) r) _ none).1)

-- a part repeats no name of those before it
pub not_repeated : (all before : List Part) (p : Part) (others : List Part) → all ≡ before ++ p ∷ others → twice all ≡ [] → repeated before p ≡ []
not_repeated all before p others is none =
    repeated_from all [] before p others is (ap (λ ps. flat_map (λ (row : ℕ × Part). repeated (take row.0 all) row.1) (enumerate_from 0 ps)) (sym is) ∙ none)

unknown_at : (all before : List Part) (p : Part) (others : List Part) → flat_map (unknown_by all) (before ++ p ∷ others) ≡ [] → unknown_by all p ≡ []
unknown_at all [] p others none = (none_of (unknown_by all p) _ none).0
unknown_at all (b ∷ before) p others none = unknown_at all before p others (none_of (unknown_by all b) _ none).1

-- a used name means something
pub is_known : (all before : List Part) (u : UsedName) (others : List Part) → u.kind ≡ for_.Source →
    all ≡ before ++ part.Used u ∷ others → unknown all ≡ [] → is_none (resolved_use all u) ≡ false
is_known all before u others source is none =
    by_test (is_none (resolved_use all u)) refl (ap (λ k. fault_if (is_some (giver k) && is_none (resolved_use all u)) Wrong u.at) (sym source)
    ∙ unknown_at all before (part.Used u) others (ap (flat_map (unknown_by all)) (sym is) ∙ none))
  where
    by_test : (b : Bool) → is_none (resolved_use all u) ≡ b → fault_if (is_some (giver for_.Source) && is_none (resolved_use all u)) Wrong u.at ≡ [] → b ≡ false
    by_test true e f = absurd (let h : fault_if true Wrong u.at ≡ [] = ap (λ b. fault_if b Wrong u.at) (sym e) ∙ f in cc)
    by_test false e f = refl
