-- An object that has some members and no others has them in some order.
use Rattle.std.proofs.Common.{◌≡◌, ℕ, ◌==◌, Bool, true, false, ◌&&◌, List, [], ◌∷◌, length, Option, Some, None, if◌then◌else◌, refl, sym, ap, subst, ◌∙◌, arith}
use Rattle.std.specs.Prelude.{find}
use Rattle.std.specs.Option.{is_some, option_map}
use Rattle.std.specs.Str.{bytes_eq}
use Rattle.std.proofs.lemmas.Bool.{false≢true}
use Rattle.std.proofs.lemmas.Bool.Decides.{nat_tests}
use Rattle.std.proofs.lemmas.Slice.Eq.{bytes_eq-Decides}
use Rattle.fixed_num.specs.Ranges.{◌>>=◌}
use Rattle.json_exact.specs.declared.json.Json.{Json, Json-F, out-Json}
use Rattle.json_exact.specs.declared.json.Json.TheOpen as level
use Rattle.json_exact.specs.declared.json.Member.{Member}
use Rattle.json_exact.specs.Path.{member_value}
use Rattle.json_exact.specs.Inside.{members_in}
use Rattle.first_form.specs.FirstForm.{has_each, object_of, found_at}

-- ---- options

-- what is there comes of what is there
pub bind_some : {A B : Type 0} (o : Option A) (f : A → Option B) (y : B) → (o >>= f) ≡ Some y → (x : A) × (o ≡ Some x) × (f x ≡ Some y)
bind_some None f y h = cc
bind_some (Some x) f y h = (x, refl, h)

-- what is kept passes the test
pub kept : {A : Type 0} (b : Bool) (x y : A) → (if b then Some x else None) ≡ Some y → (b ≡ true) × (x ≡ y)
kept true x y h = (refl, cc)
kept false x y h = cc

pub both : (b c : Bool) → (b && c) ≡ true → (b ≡ true) × (c ≡ true)
both true c h = (refl, h)
both false c h = absurd (false≢true h)

-- ---- members by their names

-- a member of a name
abbrev pub member : List ℕ → Json → Member
member name value = record { name = name; value = value }

-- there is a member of a name
abbrev pub Has : List Member → List ℕ → Type 0
Has members name = is_some (member_value members name) ≡ true

called : (m : Member) (name : List ℕ) → bytes_eq m.name name ≡ true → member name m.value ≡ m
called m name h = ap (λ n. member n m.value) (sym ((bytes_eq-Decides m.name name).0 h))

-- a member of another name is passed by
passed : (b : Bool) (m : Member) (found : Option Member) → b ≡ false → is_some (option_map (λ (n : Member). n.value) (if b then Some m else found)) ≡ true
    → is_some (option_map (λ (n : Member). n.value) found) ≡ true
passed true m found apart h = absurd (false≢true (sym apart))
passed false m found apart h = h

behind : (m : Member) (members : List Member) (name : List ℕ) → bytes_eq m.name name ≡ false → Has (m ∷ members) name → Has members name
behind m members name apart h = passed (bytes_eq m.name name) m (find (λ (n : Member). bytes_eq n.name name) members) apart h

-- a member of one name hasn't the other
other : (m : Member) (a b : List ℕ) → bytes_eq m.name a ≡ true → bytes_eq a b ≡ false → bytes_eq m.name b ≡ false
other m a b is apart = ap (λ n. bytes_eq n b) ((bytes_eq-Decides m.name a).0 is) ∙ apart

-- ---- one, two and three members

one : (P : List Member → Type 0) (a : List ℕ) → ((x : Json) → P (member a x ∷ [])) → (m : Member) → Has (m ∷ []) a → P (m ∷ [])
one P a here m has = by_test (bytes_eq m.name a) refl
  where
    by_test : (b : Bool) → bytes_eq m.name a ≡ b → P (m ∷ [])
    by_test true e = subst (λ (n : Member). P (n ∷ [])) (called m a e) (here m.value)
    by_test false e = absurd (false≢true (behind m [] a e has))

two : (P : List Member → Type 0) (a b : List ℕ) → bytes_eq a b ≡ false → bytes_eq b a ≡ false
    → ((x y : Json) → P (member a x ∷ member b y ∷ [])) → ((x y : Json) → P (member b y ∷ member a x ∷ []))
    → (m n : Member) → Has (m ∷ n ∷ []) a → Has (m ∷ n ∷ []) b → P (m ∷ n ∷ [])
two P a b ab ba in_order turned m n has_a has_b = by_tests (bytes_eq m.name a) (bytes_eq m.name b) refl refl
  where
    by_tests : (s t : Bool) → bytes_eq m.name a ≡ s → bytes_eq m.name b ≡ t → P (m ∷ n ∷ [])
    by_tests true t e f = subst (λ (first : Member). P (first ∷ n ∷ [])) (called m a e)
        (one (λ members. P (member a m.value ∷ members)) b (in_order m.value) n (behind m (n ∷ []) b (other m a b e ab) has_b))
    by_tests false true e f = subst (λ (first : Member). P (first ∷ n ∷ [])) (called m b f)
        (one (λ members. P (member b m.value ∷ members)) a (λ x. turned x m.value) n (behind m (n ∷ []) a e has_a))
    by_tests false false e f = absurd (one (λ members. Has members b → ⊥) a (λ x has. false≢true (behind (member a x) [] b ab has)) n
        (behind m (n ∷ []) a e has_a) (behind m (n ∷ []) b f has_b))

-- three names that differ
pub record Apart (a b c : List ℕ) : Type 0 where
  pub ab : bytes_eq a b ≡ false
  pub ac : bytes_eq a c ≡ false
  pub ba : bytes_eq b a ≡ false
  pub bc : bytes_eq b c ≡ false
  pub ca : bytes_eq c a ≡ false
  pub cb : bytes_eq c b ≡ false

-- a property of all orders of three members
pub record Orders (P : List Member → Type 0) (a b c : List ℕ) : Type 0 where
  pub abc : (x y z : Json) → P (member a x ∷ member b y ∷ member c z ∷ [])
  pub acb : (x y z : Json) → P (member a x ∷ member c z ∷ member b y ∷ [])
  pub bac : (x y z : Json) → P (member b y ∷ member a x ∷ member c z ∷ [])
  pub bca : (x y z : Json) → P (member b y ∷ member c z ∷ member a x ∷ [])
  pub cab : (x y z : Json) → P (member c z ∷ member a x ∷ member b y ∷ [])
  pub cba : (x y z : Json) → P (member c z ∷ member b y ∷ member a x ∷ [])

three : (P : List Member → Type 0) (a b c : List ℕ) → Apart a b c → Orders P a b c → (m n o : Member) → Has (m ∷ n ∷ o ∷ []) a
    → Has (m ∷ n ∷ o ∷ []) b → Has (m ∷ n ∷ o ∷ []) c → P (m ∷ n ∷ o ∷ [])
three P a b c apart orders m n o has_a has_b has_c = by_tests (bytes_eq m.name a) (bytes_eq m.name b) (bytes_eq m.name c) refl refl refl
  where
    by_tests : (s t u : Bool) → bytes_eq m.name a ≡ s → bytes_eq m.name b ≡ t → bytes_eq m.name c ≡ u → P (m ∷ n ∷ o ∷ [])
    by_tests true t u e f g = subst (λ (first : Member). P (first ∷ n ∷ o ∷ [])) (called m a e)
        (two (λ members. P (member a m.value ∷ members)) b c apart.bc apart.cb (orders.abc m.value) (orders.acb m.value) n o
        (behind m (n ∷ o ∷ []) b (other m a b e apart.ab) has_b) (behind m (n ∷ o ∷ []) c (other m a c e apart.ac) has_c))
    by_tests false true u e f g = subst (λ (first : Member). P (first ∷ n ∷ o ∷ [])) (called m b f)
        (two (λ members. P (member b m.value ∷ members)) a c apart.ac apart.ca (λ x z. orders.bac x m.value z) (λ x z. orders.bca x m.value z) n o
        (behind m (n ∷ o ∷ []) a e has_a) (behind m (n ∷ o ∷ []) c (other m b c f apart.bc) has_c))
    by_tests false false true e f g = subst (λ (first : Member). P (first ∷ n ∷ o ∷ [])) (called m c g)
        (two (λ members. P (member c m.value ∷ members)) a b apart.ab apart.ba (λ x y. orders.cab x y m.value) (λ x y. orders.cba x y m.value) n o
        (behind m (n ∷ o ∷ []) a e has_a) (behind m (n ∷ o ∷ []) b f has_b))
    by_tests false false false e f g = absurd (two (λ members. Has members c → ⊥) a b apart.ab apart.ba
        (λ x y has. false≢true (behind (member b y) [] c apart.bc (behind (member a x) (member b y ∷ []) c apart.ac has)))
        (λ x y has. false≢true (behind (member a x) [] c apart.ac (behind (member b y) (member a x ∷ []) c apart.bc has))) n o
        (behind m (n ∷ o ∷ []) a e has_a) (behind m (n ∷ o ∷ []) b f has_b) (behind m (n ∷ o ∷ []) c g has_c))

-- ---- what is one of each

-- the test of an object's members
abbrev pub Passes : List Member → List (List ℕ) → Type 0
Passes members names = (length members == length names && has_each members names) ≡ true

pub two_of : (P : List Member → Type 0) (a b : List ℕ) → bytes_eq a b ≡ false → bytes_eq b a ≡ false
    → ((x y : Json) → P (member a x ∷ member b y ∷ [])) → ((x y : Json) → P (member b y ∷ member a x ∷ []))
    → (members : List Member) → Passes members (a ∷ b ∷ []) → P members
two_of P a b ab ba in_order turned [] h = absurd (false≢true h)
two_of P a b ab ba in_order turned (m ∷ []) h = absurd (false≢true h)
two_of P a b ab ba in_order turned (m ∷ n ∷ []) h =
    let has_a = both (is_some (member_value (m ∷ n ∷ []) a)) (is_some (member_value (m ∷ n ∷ []) b) && true) h in
    let has_b = both (is_some (member_value (m ∷ n ∷ []) b)) true has_a.1 in
    two P a b ab ba in_order turned m n has_a.0 has_b.0
two_of P a b ab ba in_order turned (m ∷ n ∷ o ∷ more) h =
    let many : (length (m ∷ n ∷ o ∷ more) == 2) ≡ true = (both (length (m ∷ n ∷ o ∷ more) == 2) _ h).0 in
    let count : length (m ∷ n ∷ o ∷ more) ≡ 2 = grind (arith, nat_tests) in
    absurd (omega (arith, count))

pub three_of : (P : List Member → Type 0) (a b c : List ℕ) → Apart a b c → Orders P a b c → (members : List Member)
    → Passes members (a ∷ b ∷ c ∷ []) → P members
three_of P a b c apart orders [] h = absurd (false≢true h)
three_of P a b c apart orders (m ∷ []) h = absurd (false≢true h)
three_of P a b c apart orders (m ∷ n ∷ []) h = absurd (false≢true h)
three_of P a b c apart orders (m ∷ n ∷ o ∷ []) h =
    let has_a = both (is_some (member_value (m ∷ n ∷ o ∷ []) a)) (has_each (m ∷ n ∷ o ∷ []) (b ∷ c ∷ [])) h in
    let has_b = both (is_some (member_value (m ∷ n ∷ o ∷ []) b)) (has_each (m ∷ n ∷ o ∷ []) (c ∷ [])) has_a.1 in
    let has_c = both (is_some (member_value (m ∷ n ∷ o ∷ []) c)) true has_b.1 in
    three P a b c apart orders m n o has_a.0 has_b.0 has_c.0
three_of P a b c apart orders (m ∷ n ∷ o ∷ p ∷ more) h =
    let many : (length (m ∷ n ∷ o ∷ p ∷ more) == 3) ≡ true = (both (length (m ∷ n ∷ o ∷ p ∷ more) == 3) _ h).0 in
    let count : length (m ∷ n ∷ o ∷ p ∷ more) ≡ 3 = grind (arith, nat_tests) in
    absurd (omega (arith, count))

-- ---- objects

opened : (o : Json-F Json Member) (members : List Member) → members_in o ≡ Some members → o ≡ level.Object members
opened level.Null members h = absurd (cc)
opened (level.Flag b) members h = absurd (cc)
opened (level.Number n) members h = absurd (cc)
opened level.Huge members h = absurd (cc)
opened (level.Text t) members h = absurd (cc)
opened (level.List items) members h = absurd (cc)
opened (level.Object ms) members h = let same : ms ≡ members = cc in ap level.Object same

-- an object of one of each: what it is, and that its members are these
pub object_known : (names : List (List ℕ)) (o : Json-F Json Member) (members : List Member) → object_of names o ≡ Some members
    → (o ≡ level.Object members) × Passes members names
object_known names o members h =
    let (found, is, rest) = bind_some (members_in o) _ members h in
    let (test, same) = kept (length found == length names && has_each found names) found members rest in
    (opened o found is ∙ ap level.Object same, subst (λ ms. Passes ms names) same test)

-- what is found at a name is in the value there
pub found_known : {X : Type 0} (reading : Json-F Json Member → Option X) (members : List Member) (name : List ℕ) (value : Json) (x : X)
    → found_at reading members name ≡ Some x → member_value members name ≡ Some value → reading (out-Json value) ≡ Some x
found_known reading members name value x h is = ap (λ o. o >>= λ tree. reading (out-Json tree)) (sym is) ∙ h
