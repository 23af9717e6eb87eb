-- Lists of results, and lists that are seen as others.
use Rattle.std.proofs.Common.{◌≡◌, ℕ, ◌+◌, ◌<◌, Bool, true, false, cond, List, [], ◌∷◌, ◌++◌, map, filter, length, take, get_or, Option}
use Rattle.std.proofs.Common.{Some, None, option_map, unwrap_or, refl, sym, ap, ◌∙◌, Err}
use Rattle.std.proofs.lemmas.List.Elements.{filter_more}
use Rattle.expr_eval.specs.declared.error.EvalError.{EvalError}
use Rattle.expr_eval.specs.declared.error.EvalError.TheVariants.{Overflow, Memory}
use Rattle.fixed_num.specs.Ranges.{◌>>=◌, all_found}
use Rattle.expr_eval.specs.Answers.{Evaluates}
use Rattle.expr_eval.proofs.Several.{none_behind, all_more}
use Rattle.plain_rows.specs.Filters.{kept}

-- a list that was seen twice
pub seen_twice : {X Y Z : Type 0} (f : Y → Z) (see : X → Y) (xs : List X) → map f (map see xs) ≡ map (λ x. f (see x)) xs
seen_twice f see [] = refl
seen_twice f see (x ∷ xs) = ap (λ l. f (see x) ∷ l) (seen_twice f see xs)

seen_either : {X Y : Type 0} (see : X → Y) (b : Bool) (x : X) (l : List X) → cond b (see x ∷ map see l) (map see l) ≡ map see (cond b (x ∷ l) l)
seen_either see true x l = refl
seen_either see false x l = refl

pub filter_seen : {X Y : Type 0} (p : Y → Bool) (see : X → Y) (xs : List X) → filter p (map see xs) ≡ map see (filter (λ x. p (see x)) xs)
filter_seen p see [] = refl
filter_seen p see (x ∷ xs) = ap (λ l. cond (p (see x)) (see x ∷ l) l) (filter_seen p see xs) ∙ seen_either see (p (see x)) x (filter (λ x. p (see x)) xs)

seen_under : {A X Y : Type 0} (see : X → Y) (o : Option A) (l : List X) → (o >>= λ _. Some (map see l)) ≡ option_map (map see) (o >>= λ _. Some l)
seen_under see None l = refl
seen_under see (Some a) l = refl

-- what is kept of a list as it is seen is what is kept, seen so
pub kept_seen : {X Y : Type 0} (test : Y → Option Bool) (see : X → Y) (xs : List X)
    → kept test (map see xs) ≡ option_map (map see) (kept (λ x. test (see x)) xs)
kept_seen test see xs =
    ap (λ l. all_found l >>= λ _. Some (filter (λ y. unwrap_or (test y) false) (map see xs))) (seen_twice test see xs)
    ∙ ap (λ l. all_found (map (λ x. test (see x)) xs) >>= λ _. Some l) (filter_seen (λ y. unwrap_or (test y) false) see xs)
    ∙ seen_under see (all_found (map (λ x. test (see x)) xs)) (filter (λ x. unwrap_or (test (see x)) false) xs)

joined_seen : {U V : Type 0} (see : U → V) (o : Option U) (os : Option (List U))
    → (option_map see o >>= λ y. option_map (map see) os >>= λ ys. Some (y ∷ ys)) ≡ option_map (map see) (o >>= λ x. os >>= λ xs. Some (x ∷ xs))
joined_seen see None os = refl
joined_seen see (Some x) None = refl
joined_seen see (Some x) (Some xs) = refl

-- results that are seen one by one are all of the results, seen so
pub all_seen : {X Y U V : Type 0} (see : X → Y) (show : U → V) (f : X → Option U) (g : Y → Option V) → ((x : X) → g (see x) ≡ option_map show (f x))
    → (xs : List X) → all_found (map g (map see xs)) ≡ option_map (map show) (all_found (map f xs))
all_seen see show f g same [] = refl
all_seen see show f g same (x ∷ xs) =
    ap (λ o. o >>= λ y. all_found (map g (map see xs)) >>= λ ys. Some (y ∷ ys)) (same x)
    ∙ ap (λ os. option_map show (f x) >>= λ y. os >>= λ ys. Some (y ∷ ys)) (all_seen see show f g same xs)
    ∙ joined_seen show (f x) (all_found (map f xs))

-- what was kept was kept after each test gave something
split : {A B : Type 0} (o : Option A) (l m : B) → (o >>= λ _. Some l) ≡ Some m → (a : A) × (o ≡ Some a) × (l ≡ m)
split None l m e = absurd cc
split (Some a) l m e = (a, refl, cc)

nothing : {A B : Type 0} (o : Option A) (l : B) → o ≡ None → (o >>= λ _. Some l) ≡ None
nothing o l e = ap (λ o. o >>= λ _. Some l) e

-- where one test gives nothing, nothing is kept
pub stops_kept : {X : Type 0} (test : X → Option Bool) (xs : List X) (i : ℕ) (x : X) → i < length xs → x ≡ get_or xs i x → (e : EvalError)
    → Evaluates {X = Bool} (Err e) (test x) → Evaluates {X = List X} (Err e) (kept test xs)
stops_kept test xs i x l at Overflow h = nothing (all_found (map test xs)) _ (none_behind test xs i x l at h)
stops_kept test xs i x l at Memory h = tt

-- one element more
pub kept_more : {X : Type 0} (test : X → Option Bool) (xs : List X) (i : ℕ) (x : X) (out : List X) (b : Bool) → i < length xs → x ≡ get_or xs i x
    → kept test (take i xs) ≡ Some out → test x ≡ Some b → kept test (take (i + 1) xs) ≡ Some (out ++ cond b (x ∷ []) [])
kept_more {X = X} test xs i x out b l at e f =
    let p : X → Bool = λ y. unwrap_or (test y) false in
    let before = split (all_found (map test (take i xs))) (filter p (take i xs)) out e in
    let all = all_more test xs i x before.0 b l at before.1 f in
    let passed : p x ≡ b = ap (λ o. unwrap_or o false) f in
    let here : cond (p (get_or xs i x)) (get_or xs i x ∷ []) [] ≡ cond b (x ∷ []) [] =
    ap (λ y. cond (p y) (y ∷ []) []) (sym at) ∙ ap (λ c. cond c (x ∷ []) []) passed in
    ap (λ o. o >>= λ _. Some (filter p (take (i + 1) xs))) all
    ∙ ap Some (filter_more p xs i x l ∙ ap (λ l. l ++ cond (p (get_or xs i x)) (get_or xs i x ∷ []) []) before.2 ∙ ap (λ l. out ++ l) here)

-- what was kept is what passes
pub kept_passes : {X : Type 0} (test : X → Option Bool) (xs ys : List X) → kept test xs ≡ Some ys → filter (λ x. unwrap_or (test x) false) xs ≡ ys
kept_passes test xs ys e = (split (all_found (map test xs)) _ ys e).2
