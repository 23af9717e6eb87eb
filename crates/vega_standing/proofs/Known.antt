-- What parts tell of a place: those that don't concern it change nothing there.
use Rattle.std.proofs.Common.{◌≡◌, ℕ, suc, ◌+◌, ◌*◌, List, [], ◌∷◌, ◌++◌, find, cond, length, refl, sym, ap, subst, ◌∙◌, arith}
use Rattle.std.specs.Prelude.{Option, Some, None, Bool, true, false, not, ◌&&◌, ◌==◌, IfSome, bytes_eq, filter_map, if◌then◌else◌}
use Rattle.std.specs.Option.{option_or}
use Rattle.std.specs.List.{cons_option}
use Rattle.std.proofs.lemmas.List.{append_assoc, append_cancel_left, length-append}
use Rattle.std.proofs.lemmas.Slice.Eq.{bytes_eq-Decides}
use Rattle.vega_parts.specs.declared.part.Part.{Part}
use Rattle.vega_parts.specs.declared.part.Part.TheVariants as part
use Rattle.vega_parts.specs.declared.part.Given.{Given}
use Rattle.vega_parts.specs.declared.part.Given.TheVariants as given_as
use Rattle.vega_parts.specs.declared.part.GivenName.{GivenName}
use Rattle.vega_parts.specs.declared.part.UsedName.{UsedName}
use Rattle.vega_rules.specs.Places.{same_place, parent}
use Rattle.vega_rules.specs.Names.{given_by, given_names, number_of, is_given, first_given}
use Rattle.vega_rules.specs.Folds.{used_by, is_source, is_source_of, source_of, product_of, begun, folded, passes, folds_after}
use Rattle.vega_standing.proofs.Trees.{Each}
use Rattle.vega_standing.proofs.Quiet.{is_quiet_name, IsQuiet, AreQuiet}

-- ---- places

-- a place is under another one
abbrev pub Under : List ℕ → List ℕ → Type 0
Under place x = (rest : List ℕ) × (x ≡ place ++ rest)

pub under_itself : (place x : List ℕ) → Under place (place ++ x)
under_itself place x = (x, refl)

pub under_further : (place next x : List ℕ) → Under (place ++ next) x → Under place x
under_further place next x u = (next ++ u.0, u.1 ∙ append_assoc place next u.0)

unlike_false : (x t : List ℕ) (b : Bool) → bytes_eq x t ≡ b → (x ≡ t → ⊥) → b ≡ false
unlike_false x t true e never = absurd (never ((bytes_eq-Decides x t).0 e))
unlike_false x t false e never = refl

pub unlike : (x t : List ℕ) → (x ≡ t → ⊥) → same_place x t ≡ false
unlike x t never = unlike_false x t (bytes_eq x t) refl never

first_numbers : (k j : ℕ) (xs ys : List ℕ) → k ∷ xs ≡ j ∷ ys → k ≡ j
first_numbers k j xs ys e = cc

-- what is under one child isn't what is under another
pub under_others : (place : List ℕ) (k j : ℕ) (x t : List ℕ) → (k ≡ j → ⊥) → Under (place ++ k ∷ []) x → Under (place ++ j ∷ []) t → same_place x t ≡ false
under_others place k j x t never a b =
    unlike x t (λ same. never (first_numbers k j a.0 b.0 (append_cancel_left place (k ∷ a.0) (j ∷ b.0)
    (sym (append_assoc place (k ∷ []) a.0) ∙ sym a.1 ∙ same ∙ b.1 ∙ append_assoc place (j ∷ []) b.0))))

no_longer : (place : List ℕ) (k : ℕ) (rest : List ℕ) → place ≡ place ++ k ∷ rest → ⊥
no_longer place k rest e =
    let f : length place ≡ length place + (length rest + 1) =
    ap length e ∙ length-append place (k ∷ rest) ∙ ap (λ n. length place + n) (one_more (length rest)) in
    never (length place) (length rest) f
  where
    one_more : (n : ℕ) → suc n ≡ n + 1
    one_more n = omega arith

    never : (a b : ℕ) → a ≡ a + (b + 1) → ⊥
    never a b e = omega (arith, e)

-- nor the place itself
pub under_itself_not : (place : List ℕ) (j : ℕ) (t : List ℕ) → Under (place ++ j ∷ []) t → same_place place t ≡ false
under_itself_not place j t b =
    unlike place t (λ same. no_longer place j b.0 (same ∙ b.1 ∙ append_assoc place (j ∷ []) b.0))

-- ---- what a part concerns

-- the data set of which it says a name, a source or a fold, or the object in which it gives a name of rows
abbrev pub concern : Part → Option (List ℕ)
concern (part.Data at) = Some at
concern (part.Fold at set fields) = Some set
concern (part.Used u) = if is_source u.kind then Some (parent u.at) else None
concern (part.Given g) = if is_quiet_name g.kind then None else Some g.scope
concern (part.Fault at kind) = None
concern (part.Mark at scope name group) = None
concern (part.Plot at) = None
concern (part.Step at set) = None
concern (part.Interval at scope scale marks) = None

-- it concerns another place, or none
abbrev pub Apart : List ℕ → Part → Type 0
Apart x p = IfSome (concern p) (λ t. same_place x t ≡ false)

not_true : (b : Bool) → not b ≡ true → b ≡ false
not_true true e = absurd cc
not_true false e = refl

pub quiet_concern : (p : Part) → IsQuiet p → concern p ≡ None
quiet_concern (part.Data at) e = absurd cc
quiet_concern (part.Fold at set fields) e = absurd cc
quiet_concern (part.Used u) e = ap (λ b. if b then Some (parent u.at) else None) (not_true (is_source u.kind) e)
quiet_concern (part.Given g) e = ap (λ b. if b then None else Some g.scope) e
quiet_concern (part.Fault at kind) e = refl
quiet_concern (part.Mark at scope name group) e = refl
quiet_concern (part.Plot at) e = refl
quiet_concern (part.Step at set) e = refl
quiet_concern (part.Interval at scope scale marks) e = refl

-- what holds of what quiet parts concern
pub quiet_holds : (P : List ℕ → Type 0) (parts : List Part) → AreQuiet parts → Each (λ p. IfSome (concern p) P) parts
quiet_holds P [] q = tt
quiet_holds P (p ∷ parts) q = (subst (λ o. IfSome o P) (sym (quiet_concern p q.0)) tt, quiet_holds P parts q.1)

-- ---- products

-- what is known after some parts
abbrev pub known_after : List Part → List (List ℕ × ℕ) → List Part → List (List ℕ × ℕ)
known_after whole known [] = known
known_after whole known (p ∷ ps) = known_after whole (folded whole known p) ps

pub known_append : (whole : List Part) (known : List (List ℕ × ℕ)) (xs ys : List Part) →
    known_after whole known (xs ++ ys) ≡ known_after whole (known_after whole known xs) ys
known_append whole known [] ys = refl
known_append whole known (x ∷ xs) ys = known_append whole (folded whole known x) xs ys

pub folds_append : (whole : List Part) (known : List (List ℕ × ℕ)) (xs ys : List Part) →
    folds_after whole known (xs ++ ys) ≡ folds_after whole known xs ++ folds_after whole (known_after whole known xs) ys
folds_append whole known [] ys = refl
folds_append whole known (x ∷ xs) ys =
    ap (λ r. passes known x ++ r) (folds_append whole (folded whole known x) xs ys)
    ∙ sym (append_assoc (passes known x) (folds_after whole (folded whole known x) xs) (folds_after whole (known_after whole (folded whole known x) xs) ys))

apart_folded : (whole : List Part) (known : List (List ℕ × ℕ)) (p : Part) (x : List ℕ) → Apart x p → product_of (folded whole known p) x ≡ product_of known x
apart_folded whole known (part.Data at) x a = ap (λ b. if b then begun whole known at else product_of known x) a
apart_folded whole known (part.Fold at set fields) x a = ap (λ b. if b then product_of known set * fields else product_of known x) a
apart_folded whole known (part.Used u) x a = refl
apart_folded whole known (part.Given g) x a = refl
apart_folded whole known (part.Fault at kind) x a = refl
apart_folded whole known (part.Mark at scope name group) x a = refl
apart_folded whole known (part.Plot at) x a = refl
apart_folded whole known (part.Step at set) x a = refl
apart_folded whole known (part.Interval at scope scale marks) x a = refl

-- parts that don't concern a data set leave its product
pub apart_product : (whole : List Part) (known : List (List ℕ × ℕ)) (parts : List Part) (x : List ℕ) → Each (Apart x) parts →
    product_of (known_after whole known parts) x ≡ product_of known x
apart_product whole known [] x a = refl
apart_product whole known (p ∷ parts) x a = apart_product whole (folded whole known p) parts x a.1 ∙ apart_folded whole known p x a.0

quiet_folded : (whole : List Part) (known : List (List ℕ × ℕ)) (p : Part) → IsQuiet p → folded whole known p ≡ known
quiet_folded whole known (part.Data at) e = absurd cc
quiet_folded whole known (part.Fold at set fields) e = absurd cc
quiet_folded whole known (part.Used u) e = refl
quiet_folded whole known (part.Given g) e = refl
quiet_folded whole known (part.Fault at kind) e = refl
quiet_folded whole known (part.Mark at scope name group) e = refl
quiet_folded whole known (part.Plot at) e = refl
quiet_folded whole known (part.Step at set) e = refl
quiet_folded whole known (part.Interval at scope scale marks) e = refl

-- quiet parts change nothing that is known
pub quiet_known : (whole : List Part) (known : List (List ℕ × ℕ)) (parts : List Part) → AreQuiet parts → known_after whole known parts ≡ known
quiet_known whole known [] q = refl
quiet_known whole known (p ∷ parts) q = ap (λ k. known_after whole k parts) (quiet_folded whole known p q.0) ∙ quiet_known whole known parts q.1

-- ---- sources

no_source : (x : List ℕ) (u : UsedName) (b : Bool) →
    IfSome (if b then Some (parent u.at) else None) (λ t. same_place x t ≡ false) → (b && same_place x (parent u.at)) ≡ false
no_source x u true a = a
no_source x u false a = refl

source_passed : (x : List ℕ) (p : Part) (us : List UsedName) → Apart x p → find (is_source_of x) (cons_option (used_by p) us) ≡ find (is_source_of x) us
source_passed x (part.Used u) us a = ap (λ b. cond b (Some u) (find (is_source_of x) us)) (no_source x u (is_source u.kind) a)
source_passed x (part.Data at) us a = refl
source_passed x (part.Fold at set fields) us a = refl
source_passed x (part.Given g) us a = refl
source_passed x (part.Fault at kind) us a = refl
source_passed x (part.Mark at scope name group) us a = refl
source_passed x (part.Plot at) us a = refl
source_passed x (part.Step at set) us a = refl
source_passed x (part.Interval at scope scale marks) us a = refl

-- the source of a data set isn't among parts that don't concern it
pub source_behind : (x : List ℕ) (parts others : List Part) → Each (Apart x) parts → source_of (parts ++ others) x ≡ source_of others x
source_behind x [] others a = refl
source_behind x (p ∷ parts) others a = source_passed x p (filter_map used_by (parts ++ others)) a.0 ∙ source_behind x parts others a.1

-- ---- names

-- names of this kind stand for rows
pub record IsLoud (kind : Given) : Type 0 where
  pub unlike_quiet : (g : Given) → is_quiet_name g ≡ true → (number_of kind == number_of g) ≡ false

pub loud_data : IsLoud given_as.Data
loud_data = record { unlike_quiet = by }
  where
    by : (g : Given) → is_quiet_name g ≡ true → (0 == number_of g) ≡ false
    by given_as.Data e = absurd cc
    by given_as.Source e = refl
    by given_as.Facet e = absurd cc
    by given_as.Signal e = refl
    by given_as.Store e = refl
    by given_as.Scale e = refl
    by given_as.FacetName e = refl
    by given_as.Selector e = refl
    by given_as.Header e = refl

pub loud_facet : IsLoud given_as.Facet
loud_facet = record { unlike_quiet = by }
  where
    by : (g : Given) → is_quiet_name g ≡ true → (2 == number_of g) ≡ false
    by given_as.Data e = absurd cc
    by given_as.Source e = refl
    by given_as.Facet e = absurd cc
    by given_as.Signal e = refl
    by given_as.Store e = refl
    by given_as.Scale e = refl
    by given_as.FacetName e = refl
    by given_as.Selector e = refl
    by given_as.Header e = refl

not_here : (a b c : Bool) → b ≡ false → (a && b && c) ≡ false
not_here true b c e = ap (λ x. x && c) e
not_here false b c e = refl

not_kind : (a b c : Bool) → a ≡ false → (a && b && c) ≡ false
not_kind a b c e = ap (λ x. x && b && c) e

pub name_unlike : (kind : Given) → IsLoud kind → (x name : List ℕ) (g : GivenName) (b : Bool) → is_quiet_name g.kind ≡ b →
    IfSome (if b then None else Some g.scope) (λ t. same_place x t ≡ false) → is_given kind x name g ≡ false
name_unlike kind loud x name g true e a =
    not_kind (number_of kind == number_of g.kind) (same_place x g.scope) (bytes_eq name g.name) (loud.unlike_quiet g.kind e)
name_unlike kind loud x name g false e a =
    not_here (number_of kind == number_of g.kind) (same_place x g.scope) (bytes_eq name g.name) a

name_passed : (kind : Given) → IsLoud kind → (x name : List ℕ) (p : Part) (gs : List GivenName) → Apart x p →
    find (is_given kind x name) (cons_option (given_by p) gs) ≡ find (is_given kind x name) gs
name_passed kind loud x name (part.Given g) gs a =
    ap (λ b. cond b (Some g) (find (is_given kind x name) gs)) (name_unlike kind loud x name g (is_quiet_name g.kind) refl a)
name_passed kind loud x name (part.Used u) gs a = refl
name_passed kind loud x name (part.Data at) gs a = refl
name_passed kind loud x name (part.Fold at set fields) gs a = refl
name_passed kind loud x name (part.Fault at k) gs a = refl
name_passed kind loud x name (part.Mark at scope nm group) gs a = refl
name_passed kind loud x name (part.Plot at) gs a = refl
name_passed kind loud x name (part.Step at set) gs a = refl
name_passed kind loud x name (part.Interval at scope scale marks) gs a = refl

-- a name of an object isn't given by parts that don't concern it
pub name_behind : (kind : Given) → IsLoud kind → (x name : List ℕ) (parts others : List Part) → Each (Apart x) parts →
    first_given (parts ++ others) kind x name ≡ first_given others kind x name
name_behind kind loud x name [] others a = refl
name_behind kind loud x name (p ∷ parts) others a =
    name_passed kind loud x name p (given_names (parts ++ others)) a.0 ∙ name_behind kind loud x name parts others a.1

first_or : (kind : Given) (x name : List ℕ) (o : Option GivenName) (xs : List GivenName) (rest : Option GivenName) (all : List GivenName) →
    find (is_given kind x name) all ≡ option_or (find (is_given kind x name) xs) rest →
    find (is_given kind x name) (cons_option o all) ≡ option_or (find (is_given kind x name) (cons_option o xs)) rest
first_or kind x name None xs rest all e = e
first_or kind x name (Some g) xs rest all e = by_test (is_given kind x name g)
  where
    by_test : (b : Bool) → cond b (Some g) (find (is_given kind x name) all) ≡ option_or (cond b (Some g) (find (is_given kind x name) xs)) rest
    by_test true = refl
    by_test false = e

-- the first of some parts, or else of those behind them
pub name_append : (kind : Given) (x name : List ℕ) (parts others : List Part) →
    first_given (parts ++ others) kind x name ≡ option_or (first_given parts kind x name) (first_given others kind x name)
name_append kind x name [] others = refl
name_append kind x name (p ∷ parts) others =
    first_or kind x name (given_by p) (given_names parts) (first_given others kind x name)
    (given_names (parts ++ others)) (name_append kind x name parts others)
