-- What each level reads, and what a row of operators reads.
use Rattle.std.proofs.Common.{◌≡◌, ℕ, zero, suc, ◌+◌, ◌≤◌, ◌<◌, max, true, false, eqb, List, ◌∷◌, drop, Some, None, Ok, Err, refl, sym, ap}
use Rattle.std.proofs.Common.{subst, ◌∙◌, arith, inl, inr}
use Rattle.std.specs.Prelude.{nat_lt}
use Rattle.std.proofs.lemmas.Bool.{cases_Bool, lt-ltb, ltb-true, ltb-false, ne_eqb}
use Rattle.expr_syntax.specs.declared.expr.Expr.{Expr, Expr-F, fold_out-Expr}
use Rattle.expr_syntax.specs.declared.expr.Expr.TheVariants as expr
use Rattle.expr_syntax.specs.declared.expr.Expr.TheOpen as form
use Rattle.expr_syntax.specs.declared.expr.BinOp.{BinOp}
use Rattle.expr_syntax.specs.declared.token.Token.{Token}
use Rattle.expr_syntax.specs.declared.token.Token.TheVariants.{Mark}
use Rattle.expr_syntax.specs.declared.token.Mark.{Mark as AnyMark}
use Rattle.expr_syntax.specs.declared.token.Mark.TheVariants as mark
use Rattle.expr_syntax.specs.Grammar.{height, height_here, mark_of, level_of}
use Rattle.expr_syntax.specs.inner.Parser.{Reader, Read, starts, primary_at, unary_at, chain_at, operator_at, binary_at, choice_at}
use Rattle.expr_syntax.specs.inner.Parser.{level_at, height_at, nothing_inside, tree_at, inside_of}
use Rattle.expr_syntax.proofs.Grounds.{starts_true, operator_there}
use Rattle.expr_syntax.proofs.Stops.{stops, no_operator, no_question}

-- ---- no tree is of height 0

some_height : (layer : Expr-F ℕ) → 1 ≤ height_here layer
some_height form.Null = omega arith
some_height (form.Flag b) = omega arith
some_height (form.Number m) = omega arith
some_height (form.Text t) = omega arith
some_height (form.Field name) = omega arith
some_height (form.Param name) = omega arith
some_height (form.Member name field) = omega arith
some_height (form.Not e) = omega arith
some_height (form.Minus e) = omega arith
some_height (form.Plus e) = omega arith
some_height (form.Binary o left right) = omega arith
some_height (form.Choose test first second) = omega arith
some_height (form.Pair first second) = omega arith
some_height (form.Call code arguments) = omega arith
some_height (form.Selected p) = omega arith
some_height (form.Stored p) = omega arith
some_height (form.DomainLength s) = omega arith

pub height-some : (e : Expr) → 1 ≤ height e
height-some e = rw (fold_out-Expr ℕ height_here e) (some_height _)

-- ---- each level

pub at_primary : (nesting limit : ℕ) (tokens : List Token) (r : Read Expr)
    → ((whole element : Reader) → primary_at whole element (suc limit) tokens ≡ r) → tree_at nesting (suc limit) 0 tokens ≡ r
unfolding tree_at height_at level_at
at_primary zero limit tokens r h = h (nothing_inside (suc limit)) (nothing_inside limit)
at_primary (suc nesting) limit tokens r h = h (tree_at nesting (suc limit) 8) (tree_at nesting limit 8)

pub primary_in : (nesting limit : ℕ) (tokens : List Token)
    → tree_at (suc nesting) (suc limit) 0 tokens ≡ primary_at (tree_at nesting (suc limit) 8) (tree_at nesting limit 8) (suc limit) tokens
unfolding tree_at height_at level_at
primary_in nesting limit tokens = refl

pub primary_of : (nesting limit : ℕ) (tokens : List Token)
    → tree_at nesting (suc limit) 0 tokens ≡ primary_at (inside_of nesting (suc limit)) (inside_of nesting limit) (suc limit) tokens
unfolding tree_at height_at level_at inside_of
primary_of zero limit tokens = refl
primary_of (suc nesting) limit tokens = refl

pub unary_in : (nesting limit : ℕ) (tokens : List Token)
    → tree_at nesting (suc limit) 1 tokens ≡ unary_at (tree_at nesting (suc limit) 0) (tree_at nesting limit 1) (suc limit) tokens
unfolding tree_at height_at level_at
unary_in zero limit tokens = refl
unary_in (suc nesting) limit tokens = refl

pub binary_in : (nesting limit k : ℕ) (tokens : List Token) → k < 6
    → tree_at nesting (suc limit) (suc (suc k)) tokens
    ≡ binary_at (tree_at nesting (suc limit) (suc k)) (tree_at nesting limit (suc k)) (suc limit) (suc (suc k)) tokens
unfolding tree_at height_at level_at
binary_in zero limit k tokens lt =
    let apart : eqb k 6 ≡ false = ne_eqb k 6 (λ e. omega arith) in
    rw apart refl
binary_in (suc nesting) limit k tokens lt =
    let apart : eqb k 6 ≡ false = ne_eqb k 6 (λ e. omega arith) in
    rw apart refl

pub choice_in : (nesting limit : ℕ) (tokens : List Token)
    → tree_at nesting (suc limit) 8 tokens ≡ choice_at (tree_at nesting (suc limit) 7) (tree_at nesting limit 8) (suc limit) tokens
unfolding tree_at height_at level_at
choice_in zero limit tokens = refl
choice_in (suc nesting) limit tokens = refl

pub nothing_low : (nesting level : ℕ) (tokens : List Token) → tree_at nesting 0 level tokens ≡ Err tt
unfolding tree_at height_at
nothing_low zero level tokens = refl
nothing_low (suc nesting) level tokens = refl

-- ---- rows of operators

-- the operators of this level that were read so far, in a reader that goes on
pub record Chained (nesting limit k : ℕ) (tokens : List Token) (e : Expr) (rest : List Token) : Type 0 where
  pub room : ℕ
  pub enough : suc limit < room + height e
  pub is : tree_at nesting (suc limit) (suc (suc k)) tokens ≡ chain_at (tree_at nesting limit (suc k)) (suc limit) (suc (suc k)) room e rest

-- the first operand
pub chain_starts : (nesting limit k : ℕ) (tokens : List Token) (e : Expr) (rest : List Token) → k < 6
    → tree_at nesting (suc limit) (suc k) tokens ≡ Ok (e, rest) → Chained nesting limit k tokens e rest
unfolding binary_at
chain_starts nesting limit k tokens e rest lt h =
    let some = height-some e in
    record { room = suc limit; enough = omega arith; is = rw (binary_in nesting limit k tokens lt, h) refl }

chain_step : (lower : Reader) (limit level room : ℕ) (left right : Expr) (o : BinOp) (back rest : List Token) → level_of o ≡ level
    → lower back ≡ Ok (right, rest) → max (height left) (height right) < limit
    → chain_at lower limit level (suc room) left (Mark (mark_of o) ∷ back) ≡ chain_at lower limit level room (expr.Binary o left right) rest
unfolding chain_at
chain_step lower limit level room left right o back rest same h low =
    let found : operator_at level (Mark (mark_of o) ∷ back) ≡ Some o =
    subst (λ l. operator_at l (Mark (mark_of o) ∷ back) ≡ Some o) same (operator_there o back) in
    let fits : nat_lt (max (height left) (height right)) limit ≡ true = lt-ltb _ _ low in
    rw (found, h, fits) refl

-- one more operator with its right operand
pub chain_grows : (nesting limit k : ℕ) (tokens : List Token) (left right whole : Expr) (o : BinOp) (back rest : List Token)
    → level_of o ≡ suc (suc k) → tree_at nesting limit (suc k) back ≡ Ok (right, rest) → whole ≡ expr.Binary o left right
    → height whole ≡ suc (max (height left) (height right)) → height whole ≤ suc limit
    → Chained nesting limit k tokens left (Mark (mark_of o) ∷ back) → Chained nesting limit k tokens whole rest
chain_grows nesting limit k tokens left right whole o back rest same h is high low c = grown c.room c.enough c.is
  where
    grown : (room : ℕ) → suc limit < room + height left
        → tree_at nesting (suc limit) (suc (suc k)) tokens
        ≡ chain_at (tree_at nesting limit (suc k)) (suc limit) (suc (suc k)) room left (Mark (mark_of o) ∷ back)
        → Chained nesting limit k tokens whole rest
    grown zero enough e = absurd (omega arith)
    grown (suc room) enough e = record {
      room = room;
      enough = omega arith;
      is =
          rw is (e ∙ chain_step (tree_at nesting limit (suc k)) (suc limit) (suc (suc k)) room left right o back rest same h (omega arith));
    }

chain_stops : (lower : Reader) (limit level room : ℕ) (e : Expr) (rest : List Token) → 0 < room → operator_at level rest ≡ None
    → chain_at lower limit level room e rest ≡ Ok (e, rest)
unfolding chain_at
chain_stops lower limit level zero e rest some none = absurd (omega arith)
chain_stops lower limit level (suc room) e rest some none = rw none refl

-- no operator of this level follows
pub chain_ends : (nesting limit k : ℕ) (tokens : List Token) (e : Expr) (rest : List Token) → height e ≤ suc limit
    → stops (suc (suc k)) rest ≡ true → Chained nesting limit k tokens e rest
    → tree_at nesting (suc limit) (suc (suc k)) tokens ≡ Ok (e, rest)
chain_ends nesting limit k tokens e rest low stop c =
    let enough = c.enough in
    c.is ∙ chain_stops (tree_at nesting limit (suc k)) (suc limit) (suc (suc k)) c.room e rest (omega arith)
    (no_operator (suc (suc k)) rest stop)

-- ---- a tighter form where a looser one may stand

no_sign : (nesting limit : ℕ) (m : AnyMark) (tokens : List Token) (x : Expr × List Token)
    → ((rest : List Token) (whole element : Reader) → primary_at whole element (suc limit) (Mark m ∷ rest) ≡ Err tt)
    → tree_at nesting (suc limit) 0 tokens ≡ Ok x → starts m tokens ≡ false
no_sign nesting limit m tokens x off h = elim (cases_Bool (starts m tokens)) [
  | inr s ↦ s
  | inl s ↦
      let none : tree_at nesting (suc limit) 0 (Mark m ∷ drop 1 tokens) ≡ Err tt =
      at_primary nesting limit (Mark m ∷ drop 1 tokens) (Err tt) (off (drop 1 tokens)) in
      let same : tree_at nesting (suc limit) 0 tokens ≡ Err tt = ap (tree_at nesting (suc limit) 0) (starts_true m tokens s) ∙ none in
      absurd cc
]

pub primary_alone : (nesting limit : ℕ) (tokens : List Token) (x : Expr × List Token) → tree_at nesting (suc limit) 0 tokens ≡ Ok x
    → tree_at nesting (suc limit) 1 tokens ≡ Ok x
unfolding unary_at primary_at
primary_alone nesting limit tokens x h =
    let a = no_sign nesting limit mark.Not tokens x (λ rest whole element. refl) h in
    let b = no_sign nesting limit mark.Minus tokens x (λ rest whole element. refl) h in
    let c = no_sign nesting limit mark.Plus tokens x (λ rest whole element. refl) h in
    rw (unary_in nesting limit tokens, a, b, c) h

pub no_choice : (nesting limit : ℕ) (tokens : List Token) (e : Expr) (rest : List Token) → stops 8 rest ≡ true
    → tree_at nesting (suc limit) 7 tokens ≡ Ok (e, rest) → tree_at nesting (suc limit) 8 tokens ≡ Ok (e, rest)
unfolding choice_at
no_choice nesting limit tokens e rest stop h =
    let off = no_question rest stop in
    rw (choice_in nesting limit tokens, h, off) refl

-- by levels
pub alone : (level nesting limit : ℕ) (tokens : List Token) (e : Expr) (rest : List Token) → suc level ≤ 8 → height e ≤ suc limit
    → stops (suc level) rest ≡ true → tree_at nesting (suc limit) level tokens ≡ Ok (e, rest)
    → tree_at nesting (suc limit) (suc level) tokens ≡ Ok (e, rest)
alone zero nesting limit tokens e rest most low stop h = primary_alone nesting limit tokens (e, rest) h
alone (suc k) nesting limit tokens e rest most low stop h = elim (cases_Bool (nat_lt k 6)) [
  | inl s ↦ let lt : k < 6 =
      ltb-true k 6 s in chain_ends nesting limit k tokens e rest low stop (chain_starts nesting limit k tokens e rest lt h)
  | inr s ↦
      let is : k ≡ 6 = omega (arith, ltb-false k 6 s) in
      let F : ℕ → Type 0 = λ j. stops (suc (suc j)) rest ≡ true in
      let G : ℕ → Type 0 = λ j. tree_at nesting (suc limit) (suc j) tokens ≡ Ok (e, rest) in
      let H : ℕ → Type 0 = λ j. tree_at nesting (suc limit) (suc (suc j)) tokens ≡ Ok (e, rest) in
      subst H (sym is) (no_choice nesting limit tokens e rest (subst F is stop) (subst G is h))
]
