-- The fronts of a place, one after the other.
use Rattle.std.proofs.Common.{◌≡◌, ℕ, zero, suc, ◌+◌, ◌<◌, List, [], ◌∷◌, ◌++◌, length, take, drop, map, Option, Some, None, refl, sym, ap, ◌∙◌, subst, arith}
use Rattle.std.specs.Option.{option_or, option_and_then, option_map}
use Rattle.vega_parts.specs.declared.part.Part.{Part}
use Rattle.vega_parts.specs.declared.part.GivenName.{GivenName}
use Rattle.vega_parts.specs.declared.part.Given.{Given}
use Rattle.vega_parts.specs.declared.part.Used.{Used}
use Rattle.vega_rules.specs.Places.{fronts}
use Rattle.vega_rules.specs.Resolved.{giver, other_giver, served, served_by, given_as, given_in, first_found, fronts_round}
use Rattle.vega_rules.specs.inner.Index.{name_key}
use Rattle.vega_rules.specs.inner.Met.{outer}
use Rattle.vega_rules.specs.inner.Looked.{given_at, given_front, given_fronts}
use Rattle.vega_rules.proofs.KeyLemmas.{found_given, take_key}

itself : (s : List ℕ) → fronts s ≡ s ∷ outer s
itself [] = refl
itself (n ∷ ns) = ap (λ fs. map (λ front. n ∷ front) fs ++ ([] ∷ [])) (itself ns)

outer_more : (s : List ℕ) (n : ℕ) → n < length s → outer (take (suc n) s) ≡ fronts (take n s)
outer_more [] n h = absurd (omega arith)
outer_more (x ∷ xs) zero h = refl
outer_more (x ∷ xs) (suc n) h = ap (λ fs. map (λ front. x ∷ front) fs ++ ([] ∷ [])) (outer_more xs n (omega arith))

module _ (look : List ℕ → Option GivenName) where
  -- what is found at the front is found
  pub found_first : (s : List ℕ) (g : GivenName) → look s ≡ Some g → first_found look (fronts s) ≡ Some g
  found_first s g h = ap (first_found look) (itself s) ∙ ap (λ o. option_or o (first_found look (outer s))) h

  -- and where nothing is, it is looked for in the rest
  pub found_later : (s : List ℕ) (n m : ℕ) (whole : Option GivenName) → n < length s → m ≡ suc n → look (take m s) ≡ None
      → first_found look (fronts (take m s)) ≡ whole → first_found look (fronts (take n s)) ≡ whole
  found_later s n m whole l is none h =
      let none_there : look (take (suc n) s) ≡ None = subst (λ k. look (take k s) ≡ None) is none in
      let split : first_found look (fronts (take (suc n) s)) ≡ first_found look (fronts (take n s)) =
      ap (first_found look) (itself (take (suc n) s))
      ∙ ap (λ o. option_or o (first_found look (outer (take (suc n) s)))) none_there
      ∙ ap (first_found look) (outer_more s n l) in
      sym split ∙ subst (λ k. first_found look (fronts (take k s)) ≡ whole) is h

-- a front of a key finds what the object there gives
by_kind : (parts : List Part) (name scope : List ℕ) (n : ℕ) (kind : Option Given)
    → given_front parts (2 + length name + n) (option_map (λ k. name_key k name scope) kind) ≡ given_as parts name (take n scope) kind
by_kind parts name scope n None = refl
by_kind parts name scope n (Some kind) =
    ap (given_at parts) (take_key kind name scope n) ∙ found_given parts kind name (take n scope)

pub by_front : (parts : List Part) (how : Used) (name scope : List ℕ) (n : ℕ) (key other : Option (List ℕ))
    → key ≡ option_map (λ k. name_key k name scope) (giver how) → other ≡ option_map (λ k. name_key k name scope) (other_giver how)
    → given_fronts parts (2 + length name + n) key other ≡ given_in parts how name (take n scope)
by_front parts how name scope n key other k o =
    ap (λ x. option_or (given_front parts (2 + length name + n) x) (given_front parts (2 + length name + n) other)) k
    ∙ ap (λ x. option_or (given_front parts (2 + length name + n) (option_map (λ k. name_key k name scope) (giver how)))
    (given_front parts (2 + length name + n) x)) o
    ∙ ap (λ x. option_or x (given_front parts (2 + length name + n) (option_map (λ k. name_key k name scope) (other_giver how))))
    (by_kind parts name scope n (giver how))
    ∙ ap (λ x. option_or (given_as parts name (take n scope) (giver how)) x) (by_kind parts name scope n (other_giver how))

pub take_all : (s : List ℕ) → take (length s) s ≡ s
take_all [] = refl
take_all (x ∷ xs) = ap (λ l. x ∷ l) (take_all xs)

-- and the whole key what the object itself gives
pub by_whole : (parts : List Part) (name scope : List ℕ) (kind : Option Given) (key : Option (List ℕ))
    → key ≡ option_map (λ k. name_key k name scope) kind
    → given_front parts (2 + length name + length scope) key ≡ given_as parts name scope kind
by_whole parts name scope kind key k =
    ap (given_front parts (2 + length name + length scope)) k ∙ by_kind parts name scope (length scope) kind
    ∙ ap (λ s. given_as parts name s kind) (take_all scope)

-- where it serves
pub served_as : (parts : List Part) (how : Used) (at name scope : List ℕ) (kind : Option Given)
    → option_and_then (served how at) (given_as parts name scope kind) ≡ served_by parts how at name scope kind
served_as parts how at name scope None = refl
served_as parts how at name scope (Some kind) = refl

-- the objects round an object are its fronts from the next one on
pub none_round : (s : List ℕ) → length s ≡ 0 → fronts_round s ≡ []
none_round [] z = refl
none_round (x ∷ xs) z = absurd (omega arith)

pub one_less : (s : List ℕ) (n : ℕ) → suc n ≡ length s → fronts (take n s) ≡ fronts_round s
one_less s n is =
    sym (outer_more s n (omega arith)) ∙ ap outer (ap (λ k. take k s) is ∙ take_all s) ∙ ap (drop 1) (sym (itself s))

or_none : (o : Option GivenName) → option_or o None ≡ o
or_none None = refl
or_none (Some g) = refl

-- at last the top is left
pub found_top : (look : List ℕ → Option GivenName) (s : List ℕ) (n : ℕ) (whole : Option GivenName) → n ≡ 0
    → first_found look (fronts (take n s)) ≡ whole → look [] ≡ whole
found_top look s n whole z h = sym (or_none (look [])) ∙ subst (λ k. first_found look (fronts (take k s)) ≡ whole) z h
