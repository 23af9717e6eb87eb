-- Lists of expressions that are joined in pairs.
use Rattle.std.proofs.Common.{◌≡◌, ◌↔◌, ℕ, zero, suc, ◌+◌, ◌-◌, ◌<◌, ◌++◌, true, false, Option, Some, None, List, [], ◌∷◌, length, refl}
use Rattle.std.proofs.Common.{sym, ap, ◌∙◌, append_assoc, append-nil, arith}
use Rattle.std.proofs.lemmas.List.{length-append}
use Rattle.std.specs.Prelude.{IsSome, is_some}
use Rattle.std.specs.Option.{option_to_list}
use Rattle.expr_syntax.specs.declared.expr.BinOp.{BinOp}
use Rattle.expr_syntax.specs.declared.expr.Expr.{Expr}
use Rattle.plan_kit.specs.Joins.{chunks, paired, paired_times}

none_stays : (op : BinOp) (n : ℕ) → paired_times op n [] ≡ []
unfolding paired_times
none_stays op zero = refl
none_stays op (suc n) = none_stays op n

one_stays : (op : BinOp) (n : ℕ) (e : Expr) → paired_times op n (e ∷ []) ≡ e ∷ []
unfolding paired_times
one_stays op zero e = refl
one_stays op (suc n) e = one_stays op n e

-- none, and one alone, stay as they are
short_stays : (op : BinOp) (n : ℕ) (es : List Expr) → length es < 2 → paired_times op n es ≡ es
short_stays op n [] few = none_stays op n
short_stays op n (e ∷ []) few = one_stays op n e
short_stays op n (e ∷ f ∷ es) few = absurd (omega arith)

-- so what is left of the rounds changes nothing
pub short_is_all : (op : BinOp) (n : ℕ) (es whole : List Expr) → length es < 2 → paired_times op n es ≡ whole → es ≡ whole
short_is_all op n es whole few h = sym (short_stays op n es few) ∙ h

-- nor do no rounds
pub no_round : (op : BinOp) (n : ℕ) (es whole : List Expr) → n ≡ 0 → paired_times op n es ≡ whole → es ≡ whole
unfolding paired_times
no_round op zero es whole none h = h
no_round op (suc n) es whole none h = absurd (omega (arith, none))

-- one round more
pub one_round : (op : BinOp) (n : ℕ) (es next whole : List Expr) → 0 < n
    → next ≡ paired op es → paired_times op n es ≡ whole → paired_times op (n - 1) next ≡ whole
unfolding paired_times
one_round op zero es next whole some is h = absurd (omega (arith, some))
one_round op (suc n) es next whole some is h =
    let less : suc n - 1 ≡ n = omega arith in
    ap (λ k. paired_times op k next) less ∙ ap (paired_times op n) is ∙ h

-- two elements, or one that has no neighbour, taken from the front
pub two_taken : {A : Type 0} (xs left rest : List A) (first : A) (second : Option A) → xs ≡ first ∷ left → left ≡ option_to_list second ++ rest
    → (0 < length left → IsSome second) → chunks xs ≡ (first, second) ∷ chunks rest
two_taken {A} xs left rest first second taken split some = ap chunks taken ∙ by left second split some
  where
    by : (l : List A) (s : Option A) → l ≡ option_to_list s ++ rest → (0 < length l → IsSome s) → chunks (first ∷ l) ≡ (first, s) ∷ chunks rest
    by [] None e h = ap (λ r. (first, None) ∷ chunks r) e
    by (x ∷ l) None e h = let no : false ≡ true = h (omega arith) in absurd cc
    by l (Some b) e h = ap (λ r. chunks (first ∷ r)) e

-- one step of taking two
pub both_taken : {A : Type 0} (out whole : List (A × Option A)) (xs left rest : List A) (r s : Option A) (first : A) (n m k : ℕ)
    → r ≡ Some first → xs ≡ option_to_list r ++ left → left ≡ option_to_list s ++ rest → n ≡ length xs → m + length (option_to_list r) ≡ n
    → (IsSome s ↔ (0 < m)) → k + length (option_to_list s) ≡ m → out ++ chunks xs ≡ whole
    → (k ≡ length rest) × ((out ++ (first, s) ∷ []) ++ chunks rest ≡ whole)
both_taken out whole xs left rest r s first n m k is split again count less some fewer h =
    let taken : xs ≡ first ∷ left = split ∙ ap (λ o. option_to_list o ++ left) is in
    let one : m + 1 ≡ n = sym (ap (λ o. m + length (option_to_list o)) is) ∙ less in
    let before : m ≡ length left = omega (arith, one, count, ap length taken) in
    let parts : length left ≡ length (option_to_list s) + length rest = ap length again ∙ length-append (option_to_list s) rest in (
      omega (arith, fewer, before, parts),
      append_assoc out ((first, s) ∷ []) (chunks rest)
          ∙ ap (λ cs. out ++ cs) (sym (two_taken xs left rest first s taken again (λ p. some.1 (omega (arith, before, p)))))
          ∙ h,
    )

-- none is left where the count says so
pub none_taken : {A : Type 0} (out whole : List (A × Option A)) (xs : List A) (r : Option A) (n : ℕ) → r ≡ None → (IsSome r ↔ (0 < n)) → n ≡ length xs
    → out ++ chunks xs ≡ whole → out ≡ whole
none_taken out whole [] r n is some count h = sym (append-nil out) ∙ h
none_taken out whole (x ∷ xs) r n is some count h =
    let there : IsSome r = some.1 (omega (arith, count)) in
    let no : false ≡ true = sym (ap is_some is) ∙ there in
    absurd cc
