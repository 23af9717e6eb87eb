-- What an index finds.
use Rattle.std.proofs.Common.{◌≡◌, ℕ, zero, suc, ◌+◌, ◌<◌, ◌≤◌, take, Bool, true, false, List, [], ◌∷◌, length, drop, get_or, Option, Some}
use Rattle.std.proofs.Common.{None, cond, refl, sym, ap, ◌∙◌, subst, arith}
use Rattle.std.specs.Prelude.{Vec, bytes_eq, find, option_map, is_some, nat_lt}
use Rattle.std.proofs.lemmas.Bool.Decides.{nat_tests}
use Rattle.vega_parts.specs.declared.part.Given.{Given}
use Rattle.std.specs.Option.{option_map_or}
use Rattle.vega_rules.proofs.KeyLemmas.{found_given}
use Rattle.vega_rules.proofs.SearchLemmas.{first_held}
use Rattle.std.specs.List.{cons_option}
use Rattle.std.specs.declared.alloc.Global.{Global}
use Rattle.std.specs.BTreeMap.{BTreeMap}
use Rattle.std.proofs.lemmas.List.{drop_more}
use Rattle.vega_parts.specs.declared.part.Part.{Part}
use Rattle.vega_parts.specs.declared.part.GivenName.{GivenName}
use Rattle.vega_rules.specs.declared.keys.By.{By}
use Rattle.vega_rules.specs.declared.keys.By.TheVariants as by
use Rattle.vega_rules.specs.Names.{given_by, given_names, has_given}
use Rattle.vega_rules.specs.inner.Keyed.{number_at}
use Rattle.vega_rules.specs.inner.Index.{key_by, key_of_given, is_key, first_from, IsIndexFrom, IsIndex, name_at, name_key}

-- one more part is put, before those that were
pub one_before : (how : By) (old new : BTreeMap (Vec ℕ Global) ℕ) (parts : List Part) (n m : ℕ) (d p : Part) → n < length parts
    → get_or parts n d ≡ p → m ≡ n + 1
    → ((q : List ℕ) → number_at new q ≡ cond (is_key q (key_by how p)) (Some n) (number_at old q))
    → IsIndexFrom how old m (drop m parts) → IsIndexFrom how new n (drop n parts)
one_before how old new parts n m d p l is next put finds q =
    let later : number_at old q ≡ first_from how q (n + 1) (drop (n + 1) parts) = subst (λ (k : ℕ). number_at old q
    ≡ first_from how q k (drop k parts)) next (finds q) in
    put q ∙ ap (λ o. cond (is_key q (key_by how p)) (Some n) o) later
    ∙ ap (λ x. cond (is_key q (key_by how x)) (Some n) (first_from how q (n + 1) (drop (n + 1) parts))) (sym is)
    ∙ sym (ap (first_from how q n) (drop_more parts n d l))

abbrev test : List ℕ → GivenName → Bool
test q g = bytes_eq q (key_of_given g)

same_test : (q : List ℕ) (o : Option GivenName) → is_key q (option_map key_of_given o) ≡ option_map_or (test q) o false
same_test q None = refl
same_test q (Some g) = refl

-- the part under the number that the index has is the first that gives the name
pub found : (q : List ℕ) (index : BTreeMap (Vec ℕ Global) ℕ) (parts : List Part) → IsIndexFrom by.Name index 0 parts
    → name_at parts (number_at index q) ≡ find (λ g. bytes_eq q (key_of_given g)) (given_names parts)
found q index parts h =
    first_held given_by (test q) (λ (p : Part). is_key q (key_by by.Name p)) (λ p. same_test q (given_by p)) parts (number_at index q) (h q)

-- ---- whether the first parts have a key

before : ℕ → Option ℕ → Bool
before i None = false
before i (Some n) = nat_lt n i

none_before : (q : List ℕ) (ps : List Part) (i n : ℕ) → i ≤ n → before i (first_from by.Name q n ps) ≡ false
unfolding before
none_before q [] i n l = refl
none_before q (p ∷ ps) i n l = by_test (is_key q (key_by by.Name p)) (none_before q ps i (n + 1) (omega arith))
  where
    by_test : (b : Bool) → before i (first_from by.Name q (n + 1) ps) ≡ false
        → before i (cond b (Some n) (first_from by.Name q (n + 1) ps)) ≡ false
    by_test true h = grind (arith, nat_tests)
    by_test false h = h

-- at one part, of which those behind it are known
some_part : (q : List ℕ) (i n : ℕ) (o : Option GivenName) (later : Option ℕ) (rest : List GivenName)
    → is_some (find (test q) rest) ≡ before (suc i + n) later
    → is_some (find (test q) (cons_option o rest)) ≡ before (suc i + n) (cond (is_key q (option_map key_of_given o)) (Some n) later)
unfolding before
some_part q i n None later rest h = h
some_part q i n (Some g) later rest h = by_test (test q g)
  where
    by_test : (b : Bool) → is_some (cond b (Some g) (find (test q) rest)) ≡ before (suc i + n) (cond b (Some n) later)
    by_test true = grind (arith, nat_tests)
    by_test false = h

earlier_from : (q : List ℕ) (ps : List Part) (i n : ℕ)
    → is_some (find (test q) (given_names (take i ps))) ≡ before (i + n) (first_from by.Name q n ps)
unfolding before
earlier_from q [] zero n = refl
earlier_from q [] (suc i) n = refl
earlier_from q (p ∷ ps) zero n = sym (none_before q (p ∷ ps) (0 + n) n (omega arith))
earlier_from q (p ∷ ps) (suc i) n =
    let e : i + (n + 1) ≡ suc i + n = omega arith in
    some_part q i n (given_by p) (first_from by.Name q (n + 1) ps) (given_names (take i ps))
    (subst (λ k. is_some (find (test q) (given_names (take i ps)))
    ≡ before k (first_from by.Name q (n + 1) ps)) e (earlier_from q ps i (n + 1)))

is_earlier : (kind : Given) (name scope : List ℕ) (index : BTreeMap (Vec ℕ Global) ℕ) (parts : List Part) (i : ℕ)
    → IsIndexFrom by.Name index 0 parts
    → before i (number_at index (name_key kind name scope)) ≡ has_given (take i parts) kind scope name
is_earlier kind name scope index parts i h =
    let q = name_key kind name scope in
    let e : i + 0 ≡ i = omega arith in
    ap (before i) (h q) ∙ sym (subst (λ k. is_some (find (test q) (given_names (take i parts)))
    ≡ before k (first_from by.Name q 0 parts)) e (earlier_from q parts i 0))
    ∙ ap is_some (found_given (take i parts) kind name scope)

-- the first parts give a name where the index has a lesser number for it
pub given_earlier : (kind : Given) (name scope key : List ℕ) (index : BTreeMap (Vec ℕ Global) ℕ) (parts : List Part) (i first : ℕ)
    → IsIndex by.Name index parts
    → key ≡ name_key kind name scope → Some first ≡ number_at index key → nat_lt first i ≡ has_given (take i parts) kind scope name
unfolding before
given_earlier kind name scope key index parts i first h k n =
    ap (before i) (n ∙ ap (number_at index) k) ∙ is_earlier kind name scope index parts i h.finds

pub not_earlier : (kind : Given) (name scope key : List ℕ) (index : BTreeMap (Vec ℕ Global) ℕ) (parts : List Part) (i : ℕ)
    → IsIndex by.Name index parts
    → key ≡ name_key kind name scope → None ≡ number_at index key → false ≡ has_given (take i parts) kind scope name
unfolding before
not_earlier kind name scope key index parts i h k n =
    ap (before i) (n ∙ ap (number_at index) k) ∙ is_earlier kind name scope index parts i h.finds
