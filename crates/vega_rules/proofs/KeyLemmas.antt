-- Two names have one key exactly where they are the same name of one kind and object.
use Rattle.std.proofs.Common.{◌≡◌, ℕ, suc, ◌+◌, Bool, true, false, ◌&&◌, List, [], ◌∷◌, ◌++◌, length, take, refl, ap, ◌∙◌, arith}
use Rattle.std.proofs.lemmas.Bool.Decides.{nat_tests}
use Rattle.std.specs.Prelude.{◌==◌, bytes_eq, find}
use Rattle.std.proofs.Common.{zero-add}
use native.Mathlib.Nat.{suc-add}
use Rattle.vega_parts.specs.declared.part.Given.{Given}
use Rattle.vega_parts.specs.declared.part.GivenName.{GivenName}
use Rattle.vega_parts.specs.declared.part.Part.{Part}
use Rattle.vega_rules.specs.Names.{number_of, is_given, given_names, first_given}
use Rattle.vega_rules.specs.inner.Index.{name_key, key_of_given, is_key, key_if}

and_true : (a : Bool) → a ≡ (a && true)
and_true true = refl
and_true false = refl

and_false : (a : Bool) → false ≡ (a && false)
and_false true = refl
and_false false = refl

swapped : (a b c : Bool) → (a && (b && c)) ≡ (b && (a && c))
swapped true true c = refl
swapped true false c = refl
swapped false true c = refl
swapped false false c = refl

regroup : (a b c : Bool) → (a && (b && c)) ≡ ((a && b) && c)
regroup true b c = refl
regroup false b c = refl

zero_apart : (n : ℕ) → (0 == suc n) ≡ false
zero_apart n = grind (arith, nat_tests)

apart_zero : (n : ℕ) → (suc n == 0) ≡ false
apart_zero n = grind (arith, nat_tests)

both_more : (n m : ℕ) → (suc n == suc m) ≡ (n == m)
both_more n m = grind (arith, nat_tests)

pub names_apart : (n m s t : List ℕ) → ((length n == length m) && bytes_eq (n ++ s) (m ++ t)) ≡ (bytes_eq s t && bytes_eq n m)
names_apart [] [] s t = and_true _
names_apart [] (y ∷ m) s t = rw (zero_apart (length m)) (and_false (bytes_eq s t))
names_apart (x ∷ n) [] s t = rw (apart_zero (length n)) (and_false (bytes_eq s t))
names_apart (x ∷ n) (y ∷ m) s t =
    ap (λ b. b && ((x == y) && bytes_eq (n ++ s) (m ++ t))) (both_more (length n) (length m))
    ∙ swapped (length n == length m) (x == y) (bytes_eq (n ++ s) (m ++ t))
    ∙ ap (λ b. (x == y) && b) (names_apart n m s t)
    ∙ swapped (x == y) (bytes_eq s t) (bytes_eq n m)

same_key : (kind : Given) (name scope : List ℕ) (g : GivenName)
    → bytes_eq (name_key kind name scope) (key_of_given g) ≡ is_given kind scope name g
same_key kind name scope g =
    ap (λ b. (number_of kind == number_of g.kind) && b) (names_apart name g.name scope g.scope)
    ∙ regroup (number_of kind == number_of g.kind) (bytes_eq scope g.scope) (bytes_eq name g.name)

find_same : (f h : GivenName → Bool) (gs : List GivenName) → ((g : GivenName) → f g ≡ h g) → find f gs ≡ find h gs
find_same f h [] e = refl
find_same f h (g ∷ gs) e = rw (e g, find_same f h gs e) refl

pub found_given : (parts : List Part) (kind : Given) (name scope : List ℕ)
    → find (λ g. bytes_eq (name_key kind name scope) (key_of_given g)) (given_names parts) ≡ first_given parts kind scope name
found_given parts kind name scope = find_same (λ g. bytes_eq (name_key kind name scope) (key_of_given g)) (is_given kind scope name)
    (given_names parts) (same_key kind name scope)

pub take_name : (n : ℕ) (name scope : List ℕ) → take (length name + n) (name ++ scope) ≡ name ++ take n scope
take_name n [] scope = rw zero-add refl
take_name n (x ∷ name) scope = rw suc-add (ap (λ l. x ∷ l) (take_name n name scope))

-- the fronts of a key that are longer than the name are the keys of the objects round it
pub take_key : (kind : Given) (name scope : List ℕ) (n : ℕ)
    → take (2 + length name + n) (name_key kind name scope) ≡ name_key kind name (take n scope)
take_key kind name scope n =
    let e : 2 + length name + n ≡ suc (suc (length name + n)) = omega arith in
    ap (λ k. take k (name_key kind name scope)) e ∙ (ap (λ l. number_of kind ∷ length name ∷ l) (take_name n name scope))

-- a key that a test allows
pub key_test : (q : List ℕ) (b : Bool) (k : List ℕ) → is_key q (key_if b k) ≡ (b && bytes_eq q k)
key_test q true k = refl
key_test q false k = refl
