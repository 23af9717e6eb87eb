-- What is written of a tree that was read is related to that tree.
use Rattle.std.proofs.Common.{◌≡◌, ℕ, zero, suc, ◌+◌, ◌≤◌, ◌<◌, max, ◌-◌, Bool, true, false, cond, get_or, List, [], ◌∷◌, ◌++◌, length}
use Rattle.std.proofs.Common.{Some, refl, sym, ap, subst, ◌∙◌, arith}
use Rattle.std.specs.Prelude.{map, bytes_eq, slice_get}
use Rattle.std.proofs.lemmas.List.{append-nil}
use Rattle.std.proofs.lemmas.List.Quantifiers.{position-Some}
use Rattle.std.proofs.lemmas.Option.{slice_get-get_or}
use Rattle.std.proofs.Math.Nat.{le-max_left, le-max_right}
use Rattle.case_table.specs.Names.{index_of, builtins}
use Rattle.case_table.specs.Arguments.{admits}
use Rattle.expr_syntax.specs.declared.expr.Expr.{Expr}
use Rattle.expr_syntax.specs.declared.expr.Expr.TheVariants as expr
use Rattle.expr_syntax.specs.declared.expr.BinOp.{BinOp}
use Rattle.expr_syntax.specs.declared.token.Token.{Token}
use Rattle.expr_syntax.specs.declared.token.Token.TheVariants.{Name, Mark}
use Rattle.expr_syntax.specs.declared.token.Mark.TheVariants as mark
use Rattle.expr_syntax.specs.Grammar.{IsAt, AreArguments, number, text, truth, falsehood, null, field, quoted_field, parameter, member}
use Rattle.expr_syntax.specs.Grammar.{call, pair, brackets, selected, stored, domain_length, not, minus, plus, binary, choice, tighter}
use Rattle.expr_syntax.specs.Grammar.{last, more, height, list_max, mark_of, level_of, most_nesting, HasReading}
use Rattle.expr_syntax.specs.TokenText.{IsWritten, AreWritten}
use Rattle.expr_syntax.specs.Writing.{Written, primary, as_part, with_commas, builtin_name, the_name, written, text_of}
use Rattle.expr_syntax.proofs.Heights.{height-Not, height-Minus, height-Plus, height-Binary, height-Choose, height-Pair, height-Call}
use Rattle.expr_syntax.proofs.Levels.{height-some}
use Rattle.expr_syntax.proofs.Grounds.{bytes_true}
use Rattle.expr_syntax.proofs.Complete.{level_low}
use Rattle.expr_syntax.proofs.Folded.{written-Null, written-Flag, written-Number, written-Text, written-Field, written-Param}
use Rattle.expr_syntax.proofs.Folded.{written-Member, written-Selected, written-Stored, written-DomainLength, written-Not, written-Minus}
use Rattle.expr_syntax.proofs.Folded.{written-Plus, written-Binary, written-Choose, written-Pair, written-Call}
use Rattle.expr_syntax.proofs.WrittenTokens.{written_has, read_written}

-- ---- tokens that a word can be

joined_written : (a b : List Token) → AreWritten a → AreWritten b → AreWritten (a ++ b)
joined_written [] b u v = v
joined_written (t ∷ a) b u v = (u.0, joined_written a b u.1 v)

front_written : (a b : List Token) → AreWritten (a ++ b) → AreWritten a
front_written [] b u = tt
front_written (t ∷ a) b u = (u.0, front_written a b u.1)

back_written : (a b : List Token) → AreWritten (a ++ b) → AreWritten b
back_written [] b u = u
back_written (t ∷ a) b u = back_written a b u.1

-- ---- levels

-- a form may stand where the loosest may
loosest : (d level : ℕ) {nesting : ℕ} {tokens : List Token} {e : Expr} → level + d ≡ 8 → IsAt nesting level tokens e
    → IsAt nesting 8 tokens e
loosest zero level {nesting} {tokens} {e} same a =
    let is : level ≡ 8 = omega arith in
    let F : ℕ → Type 0 = λ l. IsAt nesting l tokens e in
    subst F is a
loosest (suc d) level {nesting} {tokens} {e} same a = loosest d (suc level) (omega arith) (tighter nesting level tokens e a)

-- a primary may stand wherever a form may
lifted : (k : ℕ) {nesting : ℕ} {tokens : List Token} {e : Expr} → IsAt nesting 0 tokens e → IsAt nesting k tokens e
lifted zero a = a
lifted (suc k) {nesting} {tokens} {e} a = tighter nesting k tokens e (lifted k a)

-- ---- what was written of a tree

-- how deep the brackets of a written tree of this height are
abbrev deep : Bool → ℕ → ℕ
deep true nesting = suc nesting
deep false nesting = suc (suc nesting)

-- where it may stand
abbrev place : Bool → ℕ
place true = 0
place false = 8

pub record Rewritten (e : Expr) : Type 0 where
  pub tokens : List Token
  pub is_primary : Bool
  pub same : written e ≡ record { tokens = tokens; is_primary = is_primary }
  pub valid : AreWritten tokens
  pub high : is_primary ≡ false → 2 ≤ height e
  pub stands : (nesting : ℕ) → height e ≤ deep is_primary nesting → IsAt nesting (place is_primary) tokens e

-- the same as a part
record Part (e : Expr) : Type 0 where
  valid : AreWritten (as_part (written e))
  stands : (nesting : ℕ) → height e ≤ suc nesting → IsAt nesting 0 (as_part (written e)) e

abbrev the_part : List Token → Bool → List Token
the_part tokens is_primary = cond is_primary tokens (Mark mark.Open ∷ tokens ++ Mark mark.Close ∷ [])

part_valid : (b : Bool) (tokens : List Token) → AreWritten tokens → AreWritten (the_part tokens b)
part_valid true tokens v = v
part_valid false tokens v = (tt, joined_written tokens (Mark mark.Close ∷ []) v (tt, tt))

part_stands : (b : Bool) (tokens : List Token) (e : Expr) → (b ≡ false → 2 ≤ height e)
    → ((nesting : ℕ) → height e ≤ deep b nesting → IsAt nesting (place b) tokens e) → (nesting : ℕ) → height e ≤ suc nesting
    → IsAt nesting 0 (the_part tokens b) e
part_stands true tokens e high h nesting low = h nesting low
part_stands false tokens e high h zero low = let two = high refl in absurd (omega arith)
part_stands false tokens e high h (suc nesting) low = brackets nesting tokens e (h nesting low)

part_of : {e : Expr} → Rewritten e → Part e
part_of {e} r =
    let same : as_part (written e) ≡ the_part r.tokens r.is_primary = ap as_part r.same in
    record {
      valid = subst AreWritten (sym same) (part_valid r.is_primary r.tokens r.valid);
      stands = λ nesting low. subst (λ w. IsAt nesting 0 w e) (sym same) (part_stands r.is_primary r.tokens e r.high r.stands nesting low);
    }

-- a leaf
leaf : {e : Expr} {tokens : List Token} → written e ≡ primary tokens → AreWritten tokens → ((nesting : ℕ) → IsAt nesting 0 tokens e)
    → Rewritten e
leaf {e} {tokens} same valid at =
    record { tokens = tokens; is_primary = true; same = same; valid = valid; high = λ n. absurd cc; stands = λ nesting low. at nesting }

not_again : (e : Expr) → Part e → Rewritten (expr.Not e)
not_again e p = record {
  tokens = Mark mark.Not ∷ as_part (written e);
  is_primary = false;
  same = written-Not e;
  valid = (tt, p.valid);
  high = λ n. let some = height-some e in rw (height-Not e) (omega arith);
  stands =
      λ nesting low.
      loosest 7 1 (omega arith) (not nesting (as_part (written e)) e (lifted 1 (p.stands nesting (omega (arith, height-Not e)))));
}

minus_again : (e : Expr) → Part e → Rewritten (expr.Minus e)
minus_again e p = record {
  tokens = Mark mark.Minus ∷ as_part (written e);
  is_primary = false;
  same = written-Minus e;
  valid = (tt, p.valid);
  high = λ n. let some = height-some e in rw (height-Minus e) (omega arith);
  stands =
      λ nesting low.
      loosest 7 1 (omega arith) (minus nesting (as_part (written e)) e (lifted 1 (p.stands nesting (omega (arith, height-Minus e)))));
}

plus_again : (e : Expr) → Part e → Rewritten (expr.Plus e)
plus_again e p = record {
  tokens = Mark mark.Plus ∷ as_part (written e);
  is_primary = false;
  same = written-Plus e;
  valid = (tt, p.valid);
  high = λ n. let some = height-some e in rw (height-Plus e) (omega arith);
  stands =
      λ nesting low.
      loosest 7 1 (omega arith) (plus nesting (as_part (written e)) e (lifted 1 (p.stands nesting (omega (arith, height-Plus e)))));
}

binary_again : (o : BinOp) (left right : Expr) → Part left → Part right → Rewritten (expr.Binary o left right)
binary_again o left right p q =
    let high = height-Binary o left right in
    let one = le-max_left (height left) (height right) in
    let two = le-max_right (height left) (height right) in
    let level = level_low o in
    let some = height-some left in
    record {
      tokens = as_part (written left) ++ Mark (mark_of o) ∷ as_part (written right);
      is_primary = false;
      same = written-Binary o left right;
      valid = joined_written (as_part (written left)) (Mark (mark_of o) ∷ as_part (written right)) p.valid (tt, q.valid);
      high = λ n. omega arith;
      stands = λ nesting low. binary_stands nesting (p.stands nesting (omega arith)) (q.stands nesting (omega arith)) (level_of o) refl;
    }
  where
    binary_stands : (nesting : ℕ) → IsAt nesting 0 (as_part (written left)) left → IsAt nesting 0 (as_part (written right)) right → (l : ℕ)
        → level_of o ≡ l → IsAt nesting 8 (as_part (written left) ++ Mark (mark_of o) ∷ as_part (written right)) (expr.Binary o left right)
    binary_stands nesting a b zero same = let level = level_low o in absurd (omega arith)
    binary_stands nesting a b (suc l) same =
        let level = level_low o in
        let gap : suc l + (7 - l) ≡ 8 = omega arith in
        loosest (7 - l) (suc l) gap
        (binary nesting o l (as_part (written left)) (as_part (written right)) left right same (lifted (suc l) a) (lifted l b))

choice_again : (test first second : Expr) → Part test → Part first → Part second → Rewritten (expr.Choose test first second)
choice_again test first second p q r =
    let high = height-Choose test first second in
    let one = le-max_left (height test) (max (height first) (height second)) in
    let two = le-max_right (height test) (max (height first) (height second)) in
    let three = le-max_left (height first) (height second) in
    let four = le-max_right (height first) (height second) in
    let some = height-some test in
    record {
      tokens = as_part (written test) ++ Mark mark.Question ∷ as_part (written first) ++ Mark mark.Colon ∷ as_part (written second);
      is_primary = false;
      same = written-Choose test first second;
      valid =
          joined_written (as_part (written test) ++ Mark mark.Question ∷ as_part (written first))
          (Mark mark.Colon ∷ as_part (written second))
          (joined_written (as_part (written test)) (Mark mark.Question ∷ as_part (written first)) p.valid (tt, q.valid)) (tt, r.valid);
      high = λ n. omega arith;
      stands = λ nesting low. choice nesting (as_part (written test)) (as_part (written first)) (as_part (written second)) test first second
          (lifted 7 (p.stands nesting (omega arith))) (lifted 8 (q.stands nesting (omega arith)))
          (lifted 8 (r.stands nesting (omega arith)));
    }

-- brackets of a primary's own need one more
within_brackets : (e : Expr) (tokens : List Token) → 2 ≤ height e
    → ((nesting : ℕ) → height e ≤ suc (suc nesting) → IsAt (suc nesting) 0 tokens e) → (nesting : ℕ) → height e ≤ suc nesting
    → IsAt nesting 0 tokens e
within_brackets e tokens two h zero low = absurd (omega arith)
within_brackets e tokens two h (suc nesting) low = h nesting low

pair_again : (first second : Expr) → Part first → Part second → Rewritten (expr.Pair first second)
pair_again first second p q =
    let high = height-Pair first second in
    let one = le-max_left (height first) (height second) in
    let two = le-max_right (height first) (height second) in
    let some = height-some first in
    let a = as_part (written first) in
    let b = as_part (written second) in
    record {
      tokens = Mark mark.OpenSquare ∷ a ++ Mark mark.Comma ∷ b ++ Mark mark.CloseSquare ∷ [];
      is_primary = true;
      same = written-Pair first second;
      valid = (
        tt,
        joined_written (a ++ Mark mark.Comma ∷ b) (Mark mark.CloseSquare ∷ [])
            (joined_written a (Mark mark.Comma ∷ b) p.valid (tt, q.valid)) (tt, tt),
      );
      high = λ n. absurd cc;
      stands =
          within_brackets (expr.Pair first second) (Mark mark.OpenSquare ∷ a ++ Mark mark.Comma ∷ b ++ Mark mark.CloseSquare ∷ [])
          (omega arith)
          (λ nesting low.
          pair nesting a b first second (lifted 8 (p.stands nesting (omega arith))) (lifted 8 (q.stands nesting (omega arith))));
    }

-- ---- arguments

record Arguments (arguments : List Expr) : Type 0 where
  some : 0 < length arguments
  valid : AreWritten (with_commas as_part (map written arguments))
  stand : (nesting : ℕ) → list_max (map height arguments) ≤ suc nesting
      → AreArguments nesting (with_commas as_part (map written arguments)) arguments

last_again : (e : Expr) → Part e → Arguments (e ∷ [])
last_again e p =
    let one = le-max_left (height e) 0 in
    let nothing : as_part (written e) ++ [] ≡ as_part (written e) = append-nil (as_part (written e)) in
    record {
      some = omega arith;
      valid = subst AreWritten (sym nothing) p.valid;
      stand =
          λ nesting low.
          subst (λ w. AreArguments nesting w (e ∷ [])) (sym nothing)
          (last nesting (as_part (written e)) e (lifted 8 (p.stands nesting (omega arith))));
    }

commas-more : (e : Written) (others : List Written) → 0 < length others
    → with_commas as_part (e ∷ others) ≡ as_part e ++ Mark mark.Comma ∷ with_commas as_part others
commas-more e [] some = absurd (omega arith)
commas-more e (next ∷ others) some = refl

more_again : (e : Expr) (others : List Expr) → Part e → Arguments others → Arguments (e ∷ others)
more_again e [] p r = let some = r.some in absurd (omega arith)
more_again e (next ∷ others) p r =
    let back = with_commas as_part (map written (next ∷ others)) in
    let one = le-max_left (height e) (list_max (map height (next ∷ others))) in
    let two = le-max_right (height e) (list_max (map height (next ∷ others))) in
    record {
      some = omega arith;
      valid = joined_written (as_part (written e)) (Mark mark.Comma ∷ back) p.valid (tt, r.valid);
      stand =
          λ nesting low.
          more nesting (as_part (written e)) back e (next ∷ others) (lifted 8 (p.stands nesting (omega arith)))
          (r.stand nesting (omega arith));
    }

named : (names : List (List ℕ)) (name : List ℕ) (code : ℕ) → index_of names name ≡ Some code → slice_get names code ≡ Some name
named names name code e =
    let p = position-Some (λ n. bytes_eq n name) names code [] e in
    slice_get-get_or names code [] p.0 ∙ ap Some (bytes_true (get_or names code []) name p.1)

call_again : (name : List ℕ) (code : ℕ) (arguments : List Expr) → index_of builtins name ≡ Some code → admits code (length arguments) ≡ true
    → IsWritten (Name name) → Arguments arguments → Rewritten (expr.Call code arguments)
call_again name code arguments known admitted valid r =
    let is : builtin_name code ≡ name = ap the_name (named builtins name code known) in
    let high = height-Call code arguments in
    let inside = with_commas as_part (map written arguments) in
    let two : 2 ≤ height (expr.Call code arguments) = rw high (some_call arguments r.some) in
    record {
      tokens = Name name ∷ Mark mark.Open ∷ inside ++ Mark mark.Close ∷ [];
      is_primary = true;
      same = written-Call code arguments ∙ ap (λ (w : List ℕ). primary (Name w ∷ Mark mark.Open ∷ inside ++ Mark mark.Close ∷ [])) is;
      valid = (valid, (tt, joined_written inside (Mark mark.Close ∷ []) r.valid (tt, tt)));
      high = λ n. absurd cc;
      stands = within_brackets (expr.Call code arguments) (Name name ∷ Mark mark.Open ∷ inside ++ Mark mark.Close ∷ []) two
          (λ nesting low. call nesting name code inside arguments known admitted (r.stand nesting (omega arith)));
    }
  where
    some_call : (es : List Expr) → 0 < length es → 2 ≤ suc (list_max (map height es))
    some_call [] some = absurd (omega arith)
    some_call (f ∷ es) some =
        let one = le-max_left (height f) (list_max (map height es)) in
        let high_enough = height-some f in
        omega arith

-- ---- every form

mutual
  rewritten : {nesting level : ℕ} {tokens : List Token} {e : Expr} → IsAt nesting level tokens e → AreWritten tokens → Rewritten e
  rewritten (number n m) v = leaf (written-Number m) v (λ nesting. number nesting m)
  rewritten (text n t) v = leaf (written-Text t) v (λ nesting. text nesting t)
  rewritten (truth n) v = leaf (written-Flag true) v (λ nesting. truth nesting)
  rewritten (falsehood n) v = leaf (written-Flag false) v (λ nesting. falsehood nesting)
  rewritten (null n) v = leaf written-Null v (λ nesting. null nesting)
  rewritten (field n name) v = leaf (written-Field name) (v.0, (tt, (tt, (tt, tt)))) (λ nesting. quoted_field nesting name)
  rewritten (quoted_field n name) v = leaf (written-Field name) v (λ nesting. quoted_field nesting name)
  rewritten (parameter n name free) v = leaf (written-Param name) v (λ nesting. parameter nesting name free)
  rewritten (member n name f free) v = leaf (written-Member name f) v (λ nesting. member nesting name f free)
  rewritten (call n name code inside arguments known admitted are) v =
      call_again name code arguments known admitted v.0 (arguments_again are (front_written inside (Mark mark.Close ∷ []) v.1.1))
  rewritten (pair n front back first second a b) v =
      let whole = front_written (front ++ Mark mark.Comma ∷ back) (Mark mark.CloseSquare ∷ []) v.1 in
      pair_again first second (part_of (rewritten a (front_written front (Mark mark.Comma ∷ back) whole)))
      (part_of (rewritten b (back_written front (Mark mark.Comma ∷ back) whole).1))
  rewritten (brackets n inside e a) v = rewritten a (front_written inside (Mark mark.Close ∷ []) v.1)
  rewritten (selected n p) v = leaf (written-Selected p) v (λ nesting. selected nesting p)
  rewritten (stored n p) v = leaf (written-Stored p) v (λ nesting. stored nesting p)
  rewritten (domain_length n s) v = leaf (written-DomainLength s) v (λ nesting. domain_length nesting s)
  rewritten (not n operand e a) v = not_again e (part_of (rewritten a v.1))
  rewritten (minus n operand e a) v = minus_again e (part_of (rewritten a v.1))
  rewritten (plus n operand e a) v = plus_again e (part_of (rewritten a v.1))
  rewritten (binary n o tight front back left right same a b) v =
      binary_again o left right (part_of (rewritten a (front_written front (Mark (mark_of o) ∷ back) v)))
      (part_of (rewritten b (back_written front (Mark (mark_of o) ∷ back) v).1))
  rewritten (choice n a b c test first second ia ib ic) v =
      let ab = front_written (a ++ Mark mark.Question ∷ b) (Mark mark.Colon ∷ c) v in
      choice_again test first second (part_of (rewritten ia (front_written a (Mark mark.Question ∷ b) ab)))
      (part_of (rewritten ib (back_written a (Mark mark.Question ∷ b) ab).1))
      (part_of (rewritten ic (back_written (a ++ Mark mark.Question ∷ b) (Mark mark.Colon ∷ c) v).1))
  rewritten (tighter n level tokens e a) v = rewritten a v

  arguments_again : {nesting : ℕ} {tokens : List Token} {arguments : List Expr} → AreArguments nesting tokens arguments → AreWritten tokens
      → Arguments arguments
  arguments_again (last n tokens e a) v = last_again e (part_of (rewritten a v))
  arguments_again (more n front back e others a are) v =
      more_again e others (part_of (rewritten a (front_written front (Mark mark.Comma ∷ back) v)))
      (arguments_again are (back_written front (Mark mark.Comma ∷ back) v).1)

-- ---- all of a text

stands_loosest : (b : Bool) (tokens : List Token) (e : Expr) → ((nesting : ℕ) → height e ≤ deep b nesting → IsAt nesting (place b) tokens e)
    → (nesting : ℕ) → height e ≤ nesting → IsAt nesting 8 tokens e
stands_loosest true tokens e h nesting low = lifted 8 (h nesting (omega arith))
stands_loosest false tokens e h nesting low = h nesting (omega arith)

pub rewritten_whole : (bytes : List ℕ) (e : Expr) → HasReading bytes e → HasReading (text_of e) e
rewritten_whole bytes e r =
    let w = rewritten r.is (read_written r.tokens r.spelled) in
    let same : (written e).tokens ≡ w.tokens = ap (λ (x : Written). x.tokens) w.same in
    let at : IsAt most_nesting 8 w.tokens e = stands_loosest w.is_primary w.tokens e w.stands most_nesting r.low in
    record {
      tokens = (written e).tokens;
      spelled = written_has (written e).tokens (subst AreWritten (sym same) w.valid);
      is = subst (λ ts. IsAt most_nesting 8 ts e) (sym same) at;
      low = r.low;
    }
