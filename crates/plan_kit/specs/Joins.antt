-- Expressions joined by an operator, in pairs: a long list gives a tree that is low. Where `&&` or `||` joins them, each is asked only where those before it
-- leave it open, whatever the pairs.
use Rattle.std.specs.Prelude.{◌≡◌, refl, ℕ, zero, suc, Option, Some, None, List, [], ◌∷◌, map}
use Rattle.expr_syntax.specs.declared.expr.BinOp.{BinOp}
use Rattle.expr_syntax.specs.declared.expr.Expr.{Expr}
use Rattle.expr_syntax.specs.declared.expr.Expr.TheVariants as expr

-- each two neighbours; the last stands alone where it has none
abbrev pub chunks : {A : Type 0} → List A → List (A × Option A)
chunks [] = []
chunks (a ∷ []) = (a, None) ∷ []
chunks (a ∷ b ∷ others) = (a, Some b) ∷ chunks others

-- two neighbours joined; one without a neighbour stays
abbrev pub pair_of : BinOp → Expr × Option Expr → Expr
pair_of op (a, None) = a
pair_of op (a, Some b) = expr.Binary op a b

abbrev pub paired : BinOp → List Expr → List Expr
paired op es = map (pair_of op) (chunks es)

-- the same so many times
unfoldable pub paired_times : BinOp → ℕ → List Expr → List Expr
paired_times op zero es = es
paired_times op (suc n) es = paired_times op n (paired op es)

-- the first of some expressions, or what stands for none
abbrev pub first_or : Expr → List Expr → Expr
first_or none [] = none
first_or none (e ∷ others) = e

-- all of them, or what stands for none; 64 times leave one of every list that a memory holds
unfoldable pub joined : BinOp → Expr → List Expr → Expr
joined op none es = first_or none (paired_times op 64 es)

-- The rules at work.

five_in_pairs : (op : BinOp) (none a b c d e : Expr) → joined op none (a ∷ b ∷ c ∷ d ∷ e ∷ [])
    ≡ expr.Binary op (expr.Binary op (expr.Binary op a b) (expr.Binary op c d)) e
unfolding joined paired_times
five_in_pairs op none a b c d e = refl

none_of_none : (op : BinOp) (none : Expr) → joined op none [] ≡ none
unfolding joined paired_times
none_of_none op none = refl
