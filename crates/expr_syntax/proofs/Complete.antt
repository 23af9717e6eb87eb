-- What is related to its tokens is read, whatever ends it.
use Rattle.std.proofs.Common.{◌≡◌, ℕ, zero, suc, ◌≤◌, ◌<◌, max, Bool, true, false, cond, List, [], ◌∷◌, ◌++◌, length, Some, Ok, refl, sym}
use Rattle.std.proofs.Common.{ap, subst, ◌∙◌, append_assoc, arith, inl, inr}
use Rattle.std.specs.Prelude.{codes, map, bytes_eq, nat_lt}
use Rattle.std.proofs.lemmas.Bool.{cases_Bool, lt-ltb, ltb-true, ltb-false}
use Rattle.std.proofs.Math.Nat.{le-max_left, le-max_right}
use Rattle.std.proofs.lemmas.List.{append-nil}
use Rattle.case_table.specs.Names.{index_of, builtins}
use Rattle.case_table.specs.Arguments.{admits}
use Rattle.expr_syntax.specs.declared.expr.Expr.{Expr}
use Rattle.expr_syntax.specs.declared.expr.Expr.TheVariants as expr
use Rattle.expr_syntax.specs.declared.expr.BinOp.{BinOp}
use Rattle.expr_syntax.specs.declared.expr.BinOp.TheVariants as op
use Rattle.expr_syntax.specs.declared.token.Token.{Token}
use Rattle.expr_syntax.specs.declared.token.Token.TheVariants.{Name, Number, Quoted, Mark}
use Rattle.expr_syntax.specs.declared.token.Mark.{Mark as AnyMark}
use Rattle.expr_syntax.specs.declared.token.Mark.TheVariants as mark
use Rattle.expr_syntax.specs.Grammar.{IsAt, AreArguments, number, text, truth, falsehood, null, field, quoted_field, parameter, member}
use Rattle.expr_syntax.specs.Grammar.{call, pair, brackets, selected, stored, domain_length, not, minus, plus, binary, choice, tighter}
use Rattle.expr_syntax.specs.Grammar.{last, more, height, list_max, mark_of, level_of, most_nesting, most_height}
use Rattle.expr_syntax.specs.inner.Parser.{starts, starts_data, arguments_at, most_arguments, unary_at, branches_at, choice_at, tree_at}
use Rattle.expr_syntax.specs.inner.Parser.{whole_at}
use Rattle.expr_syntax.proofs.Heights.{height-Not, height-Minus, height-Plus, height-Binary, height-Choose, height-Pair, height-Call}
use Rattle.expr_syntax.proofs.Stops.{stops, stops-tighter, ends-operator}
use Rattle.expr_syntax.proofs.Levels.{height-some, unary_in, choice_in, Chained, chain_starts, chain_grows, chain_ends, alone}
use Rattle.expr_syntax.proofs.Primaries.{number_again, text_again, truth_again, falsehood_again, null_again, field_again}
use Rattle.expr_syntax.proofs.Primaries.{quoted_field_again, selected_again, stored_again, domain_length_again, parameter_again}
use Rattle.expr_syntax.proofs.Primaries.{member_again, brackets_again, pair_again, call_again, no_builtin, few_arguments}

-- ---- no form begins with `data(`

no_mark_data : (o : BinOp) (rest : List Token) → starts mark.Open (Mark (mark_of o) ∷ rest) ≡ false
unfolding starts
no_mark_data op.Or rest = refl
no_mark_data op.And rest = refl
no_mark_data op.Like rest = refl
no_mark_data op.NotLike rest = refl
no_mark_data op.Same rest = refl
no_mark_data op.NotSame rest = refl
no_mark_data op.Less rest = refl
no_mark_data op.LessSame rest = refl
no_mark_data op.More rest = refl
no_mark_data op.MoreSame rest = refl
no_mark_data op.Add rest = refl
no_mark_data op.Sub rest = refl
no_mark_data op.Mul rest = refl
no_mark_data op.Div rest = refl
no_mark_data op.Rem rest = refl

either_false : (b c : Bool) → c ≡ false → cond b c false ≡ false
either_false true c e = e
either_false false c e = refl

name_data : (name : List ℕ) (rest : List Token) → starts mark.Open rest ≡ false → starts_data (Name name ∷ rest) ≡ false
unfolding starts_data
name_data name rest e = either_false (bytes_eq name (codes "data")) (starts mark.Open rest) e

builtin_data : (name : List ℕ) (rest : List Token) → bytes_eq name (codes "data") ≡ false → starts_data (Name name ∷ rest) ≡ false
unfolding starts_data
builtin_data name rest e = rw e refl

abbrev NoData : List Token → Type 0
NoData tokens = (rest : List Token) → starts mark.Open rest ≡ false → starts_data (tokens ++ rest) ≡ false

-- a form, and what follows it
then_data : (front : List Token) (m : AnyMark) (back : List Token) → ((rest : List Token) → starts mark.Open (Mark m ∷ rest) ≡ false)
    → NoData front → NoData (front ++ Mark m ∷ back)
then_data front m back off h rest e =
    ap starts_data (append_assoc front (Mark m ∷ back) rest) ∙ h (Mark m ∷ (back ++ rest)) (off (back ++ rest))

no_data : {nesting level : ℕ} {tokens : List Token} {e : Expr} → IsAt nesting level tokens e → NoData tokens
unfolding starts_data starts
no_data (number nesting m) rest off = refl
no_data (text nesting t) rest off = refl
no_data (truth nesting) rest off = refl
no_data (falsehood nesting) rest off = refl
no_data (null nesting) rest off = refl
no_data (field nesting name) rest off = refl
no_data (quoted_field nesting name) rest off = refl
no_data (parameter nesting name free) rest off = name_data name rest off
no_data (member nesting name f free) rest off = name_data name (Mark mark.Point ∷ Name f ∷ rest) refl
no_data (call nesting name code inside arguments known admitted are) rest off =
    builtin_data name (Mark mark.Open ∷ ((inside ++ Mark mark.Close ∷ []) ++ rest)) (no_builtin (codes "data") name code refl known)
no_data (pair nesting front back first second a b) rest off = refl
no_data (brackets nesting inside e a) rest off = refl
no_data (selected nesting p) rest off = refl
no_data (stored nesting p) rest off = refl
no_data (domain_length nesting s) rest off = refl
no_data (not nesting operand e a) rest off = refl
no_data (minus nesting operand e a) rest off = refl
no_data (plus nesting operand e a) rest off = refl
no_data (binary nesting o tight front back left right same a b) rest off =
    then_data front (mark_of o) back (no_mark_data o) (no_data a) rest off
no_data (choice nesting a b c test first second ia ib ic) rest off =
    ap (λ (w : List Token). starts_data (w ++ rest)) (append_assoc a (Mark mark.Question ∷ b) (Mark mark.Colon ∷ c))
    ∙ then_data a mark.Question (b ++ Mark mark.Colon ∷ c) (λ back. refl) (no_data ia) rest off
no_data (tighter nesting level tokens e a) rest off = no_data a rest off

pub no_data_arguments : {nesting : ℕ} {tokens : List Token} {arguments : List Expr} → AreArguments nesting tokens arguments → NoData tokens
unfolding starts
no_data_arguments (last nesting tokens e a) rest off = no_data a rest off
no_data_arguments (more nesting front back e others a are) rest off = then_data front mark.Comma back (λ r. refl) (no_data a) rest off

-- ---- forms

-- the tokens are read as the tree, and where the level has operators also as their beginning
pub record Reads (nesting level : ℕ) (tokens : List Token) (e : Expr) : Type 0 where
  pub again : level ≤ 8 → (limit : ℕ) → height e ≤ limit → (rest : List Token) → stops level rest ≡ true
      → tree_at nesting limit level (tokens ++ rest) ≡ Ok (e, rest)
  pub chained : (k : ℕ) → level ≡ suc (suc k) → k < 6 → (limit : ℕ) → height e ≤ suc limit → (rest : List Token) → stops (suc k) rest ≡ true
      → Chained nesting limit k (tokens ++ rest) e rest

-- no tree is of height 0
above : (nesting level : ℕ) (tokens : List Token) (e : Expr)
    → ((limit : ℕ) → height e ≤ suc limit → (rest : List Token) → stops level rest ≡ true
    → tree_at nesting (suc limit) level (tokens ++ rest) ≡ Ok (e, rest))
    → (limit : ℕ) → height e ≤ limit → (rest : List Token) → stops level rest ≡ true
    → tree_at nesting limit level (tokens ++ rest) ≡ Ok (e, rest)
above nesting level tokens e h zero low rest stop = let some = height-some e in absurd (omega arith)
above nesting level tokens e h (suc limit) low rest stop = h limit low rest stop

-- a form of a level without operators
plainly : (nesting level : ℕ) (tokens : List Token) (e : Expr) → ((k : ℕ) → level ≡ suc (suc k) → k < 6 → ⊥)
    → ((limit : ℕ) → height e ≤ suc limit → (rest : List Token) → stops level rest ≡ true
    → tree_at nesting (suc limit) level (tokens ++ rest) ≡ Ok (e, rest))
    → Reads nesting level tokens e
plainly nesting level tokens e off h = record {
  again = λ most. above nesting level tokens e h;
  chained = λ k is lt. absurd (off k is lt);
}

-- a primary
ground : (nesting : ℕ) (tokens : List Token) (e : Expr)
    → ((limit : ℕ) (rest : List Token) → stops 0 rest ≡ true → tree_at nesting (suc limit) 0 (tokens ++ rest) ≡ Ok (e, rest))
    → Reads nesting 0 tokens e
ground nesting tokens e h = plainly nesting 0 tokens e (λ k is lt. absurd (omega arith)) (λ limit low. h limit)

no_level_1 : (k : ℕ) → 1 ≡ suc (suc k) → k < 6 → ⊥
no_level_1 k is lt = omega arith

no_level_8 : (k : ℕ) → 8 ≡ suc (suc k) → k < 6 → ⊥
no_level_8 k is lt = omega arith

-- a sign with its operand
not_again : (nesting : ℕ) (operand : List Token) (e : Expr) → Reads nesting 1 operand e
    → Reads nesting 1 (Mark mark.Not ∷ operand) (expr.Not e)
unfolding unary_at starts
not_again nesting operand e r = plainly nesting 1 (Mark mark.Not ∷ operand) (expr.Not e) no_level_1 λ limit low rest stop.
    let lower : height e ≤ limit = omega (arith, height-Not e) in
    let fits : nat_lt (height e) (suc limit) ≡ true = lt-ltb _ _ (omega arith) in
    let h = r.again (omega arith) limit lower rest stop in
    rw (unary_in nesting limit (Mark mark.Not ∷ (operand ++ rest)), h, fits) refl

minus_again : (nesting : ℕ) (operand : List Token) (e : Expr) → Reads nesting 1 operand e
    → Reads nesting 1 (Mark mark.Minus ∷ operand) (expr.Minus e)
unfolding unary_at starts
minus_again nesting operand e r = plainly nesting 1 (Mark mark.Minus ∷ operand) (expr.Minus e) no_level_1 λ limit low rest stop.
    let lower : height e ≤ limit = omega (arith, height-Minus e) in
    let fits : nat_lt (height e) (suc limit) ≡ true = lt-ltb _ _ (omega arith) in
    let h = r.again (omega arith) limit lower rest stop in
    rw (unary_in nesting limit (Mark mark.Minus ∷ (operand ++ rest)), h, fits) refl

plus_again : (nesting : ℕ) (operand : List Token) (e : Expr) → Reads nesting 1 operand e
    → Reads nesting 1 (Mark mark.Plus ∷ operand) (expr.Plus e)
unfolding unary_at starts
plus_again nesting operand e r = plainly nesting 1 (Mark mark.Plus ∷ operand) (expr.Plus e) no_level_1 λ limit low rest stop.
    let lower : height e ≤ limit = omega (arith, height-Plus e) in
    let fits : nat_lt (height e) (suc limit) ≡ true = lt-ltb _ _ (omega arith) in
    let h = r.again (omega arith) limit lower rest stop in
    rw (unary_in nesting limit (Mark mark.Plus ∷ (operand ++ rest)), h, fits) refl

-- a form of a level with operators
chainwise : (nesting k : ℕ) (tokens : List Token) (e : Expr)
    → (k < 6 → (limit : ℕ) → height e ≤ suc limit → (rest : List Token) → stops (suc k) rest ≡ true
    → Chained nesting limit k (tokens ++ rest) e rest)
    → (suc (suc k) ≤ 8 → k ≡ 6 → (limit : ℕ) → height e ≤ suc limit → (rest : List Token) → stops (suc (suc k)) rest ≡ true
    → tree_at nesting (suc limit) (suc (suc k)) (tokens ++ rest) ≡ Ok (e, rest))
    → Reads nesting (suc (suc k)) tokens e
chainwise nesting k tokens e h loosest = record {
  again = λ most. above nesting (suc (suc k)) tokens e λ limit low rest stop. elim (cases_Bool (nat_lt k 6)) [
    | inl s ↦ chain_ends nesting limit k (tokens ++ rest) e rest low stop
        (h (ltb-true k 6 s) limit low rest (stops-tighter (suc k) rest stop))
    | inr s ↦ loosest most (omega (arith, ltb-false k 6 s)) limit low rest stop
  ];
  chained = λ j is lt limit low rest stop.
      let same : k ≡ j = omega arith in
      let F : ℕ → Type 0 = λ i. stops (suc i) rest ≡ true in
      let G : ℕ → Type 0 = λ i. Chained nesting limit i (tokens ++ rest) e rest in
      subst G same (h (omega arith) limit low rest (subst F (sym same) stop));
}

pub level_low : (o : BinOp) → (2 ≤ level_of o) × (level_of o ≤ 7)
level_low op.Or = (omega arith, omega arith)
level_low op.And = (omega arith, omega arith)
level_low op.Like = (omega arith, omega arith)
level_low op.NotLike = (omega arith, omega arith)
level_low op.Same = (omega arith, omega arith)
level_low op.NotSame = (omega arith, omega arith)
level_low op.Less = (omega arith, omega arith)
level_low op.LessSame = (omega arith, omega arith)
level_low op.More = (omega arith, omega arith)
level_low op.MoreSame = (omega arith, omega arith)
level_low op.Add = (omega arith, omega arith)
level_low op.Sub = (omega arith, omega arith)
level_low op.Mul = (omega arith, omega arith)
level_low op.Div = (omega arith, omega arith)
level_low op.Rem = (omega arith, omega arith)

-- an operator with its operands
binary_again : (nesting : ℕ) (o : BinOp) (tight : ℕ) (front back : List Token) (left right : Expr) → level_of o ≡ suc tight
    → Reads nesting (suc tight) front left → Reads nesting tight back right
    → Reads nesting (suc tight) (front ++ Mark (mark_of o) ∷ back) (expr.Binary o left right)
binary_again nesting o zero front back left right same r s = let low = level_low o in absurd (omega arith)
binary_again nesting o (suc k) front back left right same r s =
    let level = level_low o in
    let few : k < 6 = omega arith in
    chainwise nesting k (front ++ Mark (mark_of o) ∷ back) (expr.Binary o left right)
    (λ lt limit low rest stop.
    let high = height-Binary o left right in
    let begins : stops (suc k) (Mark (mark_of o) ∷ (back ++ rest)) ≡ true =
    ends-operator (suc k) o ∙ lt-ltb (suc k) (level_of o) (omega arith) in
    let c =
    r.chained k refl few limit (omega (arith, le-max_left (height left) (height right))) (Mark (mark_of o) ∷ (back ++ rest)) begins in
    let h = s.again (omega arith) limit (omega (arith, le-max_right (height left) (height right))) rest stop in
    let grown =
    chain_grows nesting limit k (front ++ Mark (mark_of o) ∷ (back ++ rest)) left right (expr.Binary o left right) o (back ++ rest) rest
    same h refl high low c in
    subst (λ w. Chained nesting limit k w (expr.Binary o left right) rest) (sym (append_assoc front (Mark (mark_of o) ∷ back) rest)) grown)
    (λ most is. absurd (omega arith))

choice_again : (nesting : ℕ) (a b c : List Token) (test first second : Expr) → Reads nesting 7 a test → Reads nesting 8 b first
    → Reads nesting 8 c second → Reads nesting 8 (a ++ Mark mark.Question ∷ b ++ Mark mark.Colon ∷ c) (expr.Choose test first second)
unfolding choice_at branches_at starts
choice_again nesting a b c test first second r s t =
    plainly nesting 8 (a ++ Mark mark.Question ∷ b ++ Mark mark.Colon ∷ c) (expr.Choose test first second) no_level_8 λ limit low rest stop.
    let high = height-Choose test first second in
    let one = le-max_left (height test) (max (height first) (height second)) in
    let two = le-max_right (height test) (max (height first) (height second)) in
    let three = le-max_left (height first) (height second) in
    let four = le-max_right (height first) (height second) in
    let back : List Token = b ++ Mark mark.Colon ∷ (c ++ rest) in
    let h = r.again (omega arith) (suc limit) (omega arith) (Mark mark.Question ∷ (b ++ Mark mark.Colon ∷ (c ++ rest))) refl in
    let i = s.again (omega arith) limit (omega arith) (Mark mark.Colon ∷ (c ++ rest)) refl in
    let j = t.again (omega arith) limit (omega arith) rest stop in
    let fits : nat_lt (max (height test) (max (height first) (height second))) (suc limit) ≡ true = lt-ltb _ _ (omega arith) in
    let parts : (a ++ Mark mark.Question ∷ b ++ Mark mark.Colon ∷ c) ++ rest
    ≡ a ++ Mark mark.Question ∷ (b ++ Mark mark.Colon ∷ (c ++ rest)) = simp append_assoc in
    ap (tree_at nesting (suc limit) 8) parts
    ∙ rw (choice_in nesting limit (a ++ Mark mark.Question ∷ (b ++ Mark mark.Colon ∷ (c ++ rest))), h, i, j, fits) refl

-- a tighter form
tighter_again : (nesting level : ℕ) (tokens : List Token) (e : Expr) → Reads nesting level tokens e → Reads nesting (suc level) tokens e
tighter_again nesting level tokens e r = record {
  again = λ most. above nesting (suc level) tokens e λ limit low rest stop.
      alone level nesting limit (tokens ++ rest) e rest most low stop
      (r.again (omega arith) (suc limit) low rest (stops-tighter level rest stop));
  chained = λ k is lt limit low rest stop.
      let same : level ≡ suc k = omega arith in
      let F : ℕ → Type 0 = λ l. tree_at nesting (suc limit) l (tokens ++ rest) ≡ Ok (e, rest) in
      let G : ℕ → Type 0 = λ l. stops l rest ≡ true in
      chain_starts nesting limit k (tokens ++ rest) e rest lt
      (subst F same (r.again (omega arith) (suc limit) low rest (subst G (sym same) stop)));
}

-- ---- brackets, pairs and calls

brackets_read : (nesting : ℕ) (inside : List Token) (e : Expr) → Reads nesting 8 inside e
    → Reads (suc nesting) 0 (Mark mark.Open ∷ inside ++ Mark mark.Close ∷ []) e
brackets_read nesting inside e r =
    plainly (suc nesting) 0 (Mark mark.Open ∷ inside ++ Mark mark.Close ∷ []) e (λ k is lt. absurd (omega arith)) λ limit low rest stop.
    let h = r.again (omega arith) (suc limit) low (Mark mark.Close ∷ rest) refl in
    ap (λ (w : List Token). tree_at (suc nesting) (suc limit) 0 (Mark mark.Open ∷ w)) (append_assoc inside (Mark mark.Close ∷ []) rest)
    ∙ brackets_again nesting limit inside rest e h

pair_read : (nesting : ℕ) (front back : List Token) (first second : Expr) → Reads nesting 8 front first → Reads nesting 8 back second
    → Reads (suc nesting) 0 (Mark mark.OpenSquare ∷ front ++ Mark mark.Comma ∷ back ++ Mark mark.CloseSquare ∷ []) (expr.Pair first second)
pair_read nesting front back first second r s =
    plainly (suc nesting) 0 (Mark mark.OpenSquare ∷ front ++ Mark mark.Comma ∷ back ++ Mark mark.CloseSquare ∷ []) (expr.Pair first second)
    (λ k is lt. absurd (omega arith)) λ limit low rest stop.
    let high = height-Pair first second in
    let one = le-max_left (height first) (height second) in
    let two = le-max_right (height first) (height second) in
    let h = r.again (omega arith) limit (omega arith) (Mark mark.Comma ∷ (back ++ Mark mark.CloseSquare ∷ rest)) refl in
    let i = s.again (omega arith) limit (omega arith) (Mark mark.CloseSquare ∷ rest) refl in
    let parts : (front ++ Mark mark.Comma ∷ back ++ Mark mark.CloseSquare ∷ []) ++ rest
    ≡ front ++ Mark mark.Comma ∷ (back ++ Mark mark.CloseSquare ∷ rest) = simp append_assoc in
    ap (λ (w : List Token). tree_at (suc nesting) (suc limit) 0 (Mark mark.OpenSquare ∷ w)) parts
    ∙ pair_again nesting limit front back rest first second (omega arith) h i

-- the arguments of a call
abbrev ArgumentsRead : ℕ → List Token → List Expr → Type 0
ArgumentsRead nesting tokens arguments =
    (limit : ℕ) → list_max (map height arguments) ≤ limit → (room : ℕ) → length arguments ≤ room → (before : List Expr) (rest : List Token)
    → arguments_at (tree_at nesting limit 8) room before (tokens ++ Mark mark.Close ∷ rest)
    ≡ Ok (before ++ arguments, Mark mark.Close ∷ rest)

last_read : (nesting : ℕ) (tokens : List Token) (e : Expr) → Reads nesting 8 tokens e → ArgumentsRead nesting tokens (e ∷ [])
unfolding arguments_at starts
last_read nesting tokens e r limit low zero few before rest = absurd (omega arith)
last_read nesting tokens e r limit low (suc room) few before rest =
    let one = le-max_left (height e) 0 in
    let h = r.again (omega arith) limit (omega arith) (Mark mark.Close ∷ rest) refl in
    rw h refl

more_read : (nesting : ℕ) (front back : List Token) (e : Expr) (others : List Expr) → Reads nesting 8 front e
    → ArgumentsRead nesting back others → ArgumentsRead nesting (front ++ Mark mark.Comma ∷ back) (e ∷ others)
unfolding arguments_at starts
more_read nesting front back e others r s limit low zero few before rest = absurd (omega arith)
more_read nesting front back e others r s limit low (suc room) few before rest =
    let one = le-max_left (height e) (list_max (map height others)) in
    let two = le-max_right (height e) (list_max (map height others)) in
    let h = r.again (omega arith) limit (omega arith) (Mark mark.Comma ∷ (back ++ Mark mark.Close ∷ rest)) refl in
    let i = s limit (omega arith) room (omega arith) (before ++ e ∷ []) rest in
    ap (arguments_at (tree_at nesting limit 8) (suc room) before) (append_assoc front (Mark mark.Comma ∷ back) (Mark mark.Close ∷ rest))
    ∙ rw h i ∙ ap (λ (es : List Expr). Ok (es, Mark mark.Close ∷ rest)) (append_assoc before (e ∷ []) others)

call_read : (nesting : ℕ) (name : List ℕ) (code : ℕ) (inside : List Token) (arguments : List Expr) → index_of builtins name ≡ Some code
    → admits code (length arguments) ≡ true → NoData inside → ArgumentsRead nesting inside arguments
    → Reads (suc nesting) 0 (Name name ∷ Mark mark.Open ∷ inside ++ Mark mark.Close ∷ []) (expr.Call code arguments)
unfolding starts
call_read nesting name code inside arguments known admitted off r =
    plainly (suc nesting) 0 (Name name ∷ Mark mark.Open ∷ inside ++ Mark mark.Close ∷ []) (expr.Call code arguments)
    (λ k is lt. absurd (omega arith)) λ limit low rest stop.
    let high = height-Call code arguments in
    let h = r limit (omega arith) most_arguments (few_arguments code (length arguments) admitted) [] rest in
    ap (λ (w : List Token). tree_at (suc nesting) (suc limit) 0 (Name name ∷ Mark mark.Open ∷ w))
    (append_assoc inside (Mark mark.Close ∷ []) rest)
    ∙ call_again nesting limit name code inside rest arguments known admitted (omega arith) (off (Mark mark.Close ∷ rest) refl) h

-- ---- every form

mutual
  pub reads : {nesting level : ℕ} {tokens : List Token} {e : Expr} → IsAt nesting level tokens e → Reads nesting level tokens e
  reads (number nesting m) = ground nesting (Number m ∷ []) (expr.Number m) (λ limit rest stop. number_again nesting limit m rest)
  reads (text nesting t) = ground nesting (Quoted t ∷ []) (expr.Text t) (λ limit rest stop. text_again nesting limit t rest)
  reads (truth nesting) = ground nesting (Name (codes "true") ∷ []) (expr.Flag true) (λ limit rest stop. truth_again nesting limit rest)
  reads (falsehood nesting) =
      ground nesting (Name (codes "false") ∷ []) (expr.Flag false) (λ limit rest stop. falsehood_again nesting limit rest)
  reads (null nesting) = ground nesting (Name (codes "null") ∷ []) expr.Null (λ limit rest stop. null_again nesting limit rest)
  reads (field nesting name) =
      ground nesting (Name (codes "datum") ∷ Mark mark.Point ∷ Name name ∷ []) (expr.Field name)
      (λ limit rest stop. field_again nesting limit name rest)
  reads (quoted_field nesting name) =
      ground nesting (Name (codes "datum") ∷ Mark mark.OpenSquare ∷ Quoted name ∷ Mark mark.CloseSquare ∷ []) (expr.Field name)
      (λ limit rest stop. quoted_field_again nesting limit name rest)
  reads (parameter nesting name free) =
      ground nesting (Name name ∷ []) (expr.Param name) (λ limit rest stop. parameter_again nesting limit name rest free stop)
  reads (member nesting name f free) =
      ground nesting (Name name ∷ Mark mark.Point ∷ Name f ∷ []) (expr.Member name f)
      (λ limit rest stop. member_again nesting limit name f rest free)
  reads (call nesting name code inside arguments known admitted are) =
      call_read nesting name code inside arguments known admitted (no_data_arguments are) (arguments_read are)
  reads (pair nesting front back first second a b) = pair_read nesting front back first second (reads a) (reads b)
  reads (brackets nesting inside e a) = brackets_read nesting inside e (reads a)
  reads (selected nesting p) = ground nesting _ (expr.Selected p) (λ limit rest stop. selected_again nesting limit p rest)
  reads (stored nesting p) = ground nesting _ (expr.Stored p) (λ limit rest stop. stored_again nesting limit p rest)
  reads (domain_length nesting s) = ground nesting _ (expr.DomainLength s) (λ limit rest stop. domain_length_again nesting limit s rest)
  reads (not nesting operand e a) = not_again nesting operand e (reads a)
  reads (minus nesting operand e a) = minus_again nesting operand e (reads a)
  reads (plus nesting operand e a) = plus_again nesting operand e (reads a)
  reads (binary nesting o tight front back left right same a b) =
      binary_again nesting o tight front back left right same (reads a) (reads b)
  reads (choice nesting a b c test first second ia ib ic) = choice_again nesting a b c test first second (reads ia) (reads ib) (reads ic)
  reads (tighter nesting level tokens e a) = tighter_again nesting level tokens e (reads a)

  arguments_read : {nesting : ℕ} {tokens : List Token} {arguments : List Expr} → AreArguments nesting tokens arguments
      → ArgumentsRead nesting tokens arguments
  arguments_read (last nesting tokens e a) = last_read nesting tokens e (reads a)
  arguments_read (more nesting front back e others a are) = more_read nesting front back e others (reads a) (arguments_read are)

-- ---- all of the tokens

pub whole_again : (tokens : List Token) (e : Expr) → IsAt most_nesting 8 tokens e → height e ≤ most_height → whole_at tokens ≡ Ok e
unfolding whole_at
whole_again tokens e a low =
    let r = reads a in
    let h : tree_at most_nesting most_height 8 (tokens ++ []) ≡ Ok (e, []) = r.again (omega arith) most_height low [] refl in
    let k : tree_at most_nesting most_height 8 tokens ≡ Ok (e, []) = rw (← append-nil tokens) h in
    rw k refl
