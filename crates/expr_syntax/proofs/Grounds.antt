-- Single tokens.
use Rattle.std.proofs.Common.{◌≡◌, ◌-◌, ℕ, Bool, true, false, cond, eqb, List, [], ◌∷◌, ◌++◌, drop, take, length, Result, Ok, Err, Option}
use Rattle.std.proofs.Common.{Some, None, refl, sym, ap, ◌∙◌, arith, ◌&&◌}
use Rattle.std.specs.Prelude.{codes, slice_get, bytes_eq}
use Rattle.std.proofs.lemmas.Bool.{eqb-true, eq-eqb, false≢true}
use Rattle.std.proofs.lemmas.Slice.Eq.{bytes_eq-Decides}
use Rattle.std.proofs.lemmas.List.{take-append-drop, length-append}
use Rattle.std.proofs.Math.Seq.{drop-append_seam, take-append_seam}
use Rattle.expr_syntax.specs.declared.expr.BinOp.{BinOp}
use Rattle.expr_syntax.specs.declared.expr.BinOp.TheVariants as op
use Rattle.expr_syntax.specs.declared.token.Token.{Token}
use Rattle.expr_syntax.specs.declared.token.Token.TheVariants.{Name, Number, Quoted, Mark}
use Rattle.expr_syntax.specs.declared.token.Mark.{Mark as AnyMark}
use Rattle.expr_syntax.specs.declared.token.Mark.TheVariants as mark
use Rattle.expr_syntax.specs.Grammar.{mark_of, level_of, store_of}
use Rattle.expr_syntax.specs.inner.Parser.{mark_number, is, starts, after, name_at, quoted_at, after_word, operator_of, of_level}
use Rattle.expr_syntax.specs.inner.Parser.{operator_at, before_store}
use Rattle.fixed_num.proofs.Steps.{bind_ok, guarded}
use Rattle.expr_syntax.proofs.Taken.{ok_is}

-- ---- marks

all_marks : List AnyMark
all_marks =
    mark.Or ∷ mark.And ∷ mark.Like ∷ mark.NotLike ∷ mark.Same ∷ mark.NotSame ∷ mark.Less ∷ mark.LessSame ∷ mark.More ∷ mark.MoreSame ∷
    mark.Plus ∷ mark.Minus ∷ mark.Times ∷ mark.Over ∷ mark.Percent ∷ mark.Not ∷ mark.Question ∷ mark.Colon ∷ mark.Comma ∷ mark.Point ∷
    mark.Open ∷ mark.Close ∷ mark.OpenSquare ∷ mark.CloseSquare ∷ []

numbered : (m : AnyMark) → slice_get all_marks (mark_number m) ≡ Some m
unfolding all_marks
numbered mark.Or = refl
numbered mark.And = refl
numbered mark.Like = refl
numbered mark.NotLike = refl
numbered mark.Same = refl
numbered mark.NotSame = refl
numbered mark.Less = refl
numbered mark.LessSame = refl
numbered mark.More = refl
numbered mark.MoreSame = refl
numbered mark.Plus = refl
numbered mark.Minus = refl
numbered mark.Times = refl
numbered mark.Over = refl
numbered mark.Percent = refl
numbered mark.Not = refl
numbered mark.Question = refl
numbered mark.Colon = refl
numbered mark.Comma = refl
numbered mark.Point = refl
numbered mark.Open = refl
numbered mark.Close = refl
numbered mark.OpenSquare = refl
numbered mark.CloseSquare = refl

pub is_true : (m n : AnyMark) → is m n ≡ true → m ≡ n
is_true m n e =
    let same : mark_number m ≡ mark_number n = eqb-true _ _ e in
    let some : Some m ≡ Some n = sym (numbered m) ∙ ap (slice_get all_marks) same ∙ numbered n in
    cc

pub starts_true : (m : AnyMark) (tokens : List Token) → starts m tokens ≡ true → tokens ≡ Mark m ∷ drop 1 tokens
unfolding starts
starts_true m [] e = absurd cc
starts_true m (Mark n ∷ rest) e = ap (λ (o : AnyMark). Mark o ∷ rest) (sym (is_true m n e))
starts_true m (Name name ∷ rest) e = absurd cc
starts_true m (Number k ∷ rest) e = absurd cc
starts_true m (Quoted text ∷ rest) e = absurd cc

pub after_sound : (m : AnyMark) (tokens rest : List Token) → after m tokens ≡ Ok rest → tokens ≡ Mark m ∷ rest
after_sound m tokens rest e =
    let g = guarded (starts m tokens) tt (Ok (drop 1 tokens)) rest e in
    starts_true m tokens g.0 ∙ ap (λ (r : List Token). Mark m ∷ r) (ok_is (drop 1 tokens) rest g.1)

-- ---- words and texts

pub name_sound : (tokens : List Token) (x : List ℕ × List Token) → name_at tokens ≡ Ok x → tokens ≡ Name x.0 ∷ x.1
unfolding name_at
name_sound [] x e = absurd cc
name_sound (Name name ∷ rest) x e = ap (λ (y : List ℕ × List Token). Name y.0 ∷ y.1) (ok_is (name, rest) x e)
name_sound (Mark n ∷ rest) x e = absurd cc
name_sound (Number k ∷ rest) x e = absurd cc
name_sound (Quoted text ∷ rest) x e = absurd cc

pub quoted_sound : (tokens : List Token) (x : List ℕ × List Token) → quoted_at tokens ≡ Ok x → tokens ≡ Quoted x.0 ∷ x.1
unfolding quoted_at
quoted_sound [] x e = absurd cc
quoted_sound (Quoted text ∷ rest) x e = ap (λ (y : List ℕ × List Token). Quoted y.0 ∷ y.1) (ok_is (text, rest) x e)
quoted_sound (Mark n ∷ rest) x e = absurd cc
quoted_sound (Number k ∷ rest) x e = absurd cc
quoted_sound (Name text ∷ rest) x e = absurd cc

pub bytes_true : (a b : List ℕ) → bytes_eq a b ≡ true → a ≡ b
bytes_true a b e = (bytes_eq-Decides a b).0 e

pub bytes_same : (a : List ℕ) → bytes_eq a a ≡ true
bytes_same a = (bytes_eq-Decides a a).1 refl

pub after_word_sound : (word : List ℕ) (tokens rest : List Token) → after_word word tokens ≡ Ok rest → tokens ≡ Name word ∷ rest
after_word_sound word tokens rest e =
    let b = bind_ok (name_at tokens) (λ x. cond (bytes_eq x.0 word) (Ok x.1) (Err tt)) rest e in
    let g = guarded (bytes_eq b.0.0 word) tt (Ok b.0.1) rest b.2 in
    name_sound tokens b.0 b.1 ∙ ap (λ (w : List ℕ). Name w ∷ b.0.1) (bytes_true b.0.0 word g.0)
    ∙ ap (λ (r : List Token). Name word ∷ r) (ok_is b.0.1 rest g.1)

-- ---- the names of stores

pub before_store_sound : (text p : List ℕ) → before_store text ≡ Ok p → text ≡ store_of p
unfolding before_store
before_store_sound text p e =
    let g = guarded (bytes_eq (drop (length text - 6) text) (codes "_store")) tt (Ok (take (length text - 6) text)) p e in
    sym (take-append-drop (length text - 6) text) ∙ ap (λ (back : List ℕ). take (length text - 6) text ++ back) (bytes_true _ _ g.0)
    ∙ ap store_of (ok_is (take (length text - 6) text) p g.1)

pub store-before : (p : List ℕ) → before_store (store_of p) ≡ Ok p
unfolding before_store
store-before p =
    let front : length (store_of p) - 6 ≡ length p = simp length-append (omega arith) in
    rw (front, drop-append_seam p (codes "_store"), take-append_seam p (codes "_store")) refl

-- ---- operators

pub operator-of : (o : BinOp) → operator_of (mark_of o) ≡ Some o
operator-of op.Or = refl
operator-of op.And = refl
operator-of op.Like = refl
operator-of op.NotLike = refl
operator-of op.Same = refl
operator-of op.NotSame = refl
operator-of op.Less = refl
operator-of op.LessSame = refl
operator-of op.More = refl
operator-of op.MoreSame = refl
operator-of op.Add = refl
operator-of op.Sub = refl
operator-of op.Mul = refl
operator-of op.Div = refl
operator-of op.Rem = refl

some_is : (o p : BinOp) → Some o ≡ Some p → o ≡ p
some_is o p e = cc

pub is_mark_of : (m : AnyMark) (o : BinOp) → operator_of m ≡ Some o → m ≡ mark_of o
is_mark_of mark.Or o e = ap mark_of (some_is op.Or o e)
is_mark_of mark.And o e = ap mark_of (some_is op.And o e)
is_mark_of mark.Like o e = ap mark_of (some_is op.Like o e)
is_mark_of mark.NotLike o e = ap mark_of (some_is op.NotLike o e)
is_mark_of mark.Same o e = ap mark_of (some_is op.Same o e)
is_mark_of mark.NotSame o e = ap mark_of (some_is op.NotSame o e)
is_mark_of mark.Less o e = ap mark_of (some_is op.Less o e)
is_mark_of mark.LessSame o e = ap mark_of (some_is op.LessSame o e)
is_mark_of mark.More o e = ap mark_of (some_is op.More o e)
is_mark_of mark.MoreSame o e = ap mark_of (some_is op.MoreSame o e)
is_mark_of mark.Plus o e = ap mark_of (some_is op.Add o e)
is_mark_of mark.Minus o e = ap mark_of (some_is op.Sub o e)
is_mark_of mark.Times o e = ap mark_of (some_is op.Mul o e)
is_mark_of mark.Over o e = ap mark_of (some_is op.Div o e)
is_mark_of mark.Percent o e = ap mark_of (some_is op.Rem o e)
is_mark_of mark.Not o e = absurd cc
is_mark_of mark.Question o e = absurd cc
is_mark_of mark.Colon o e = absurd cc
is_mark_of mark.Comma o e = absurd cc
is_mark_of mark.Point o e = absurd cc
is_mark_of mark.Open o e = absurd cc
is_mark_of mark.Close o e = absurd cc
is_mark_of mark.OpenSquare o e = absurd cc
is_mark_of mark.CloseSquare o e = absurd cc

pub operator_sound : (level : ℕ) (tokens : List Token) (o : BinOp) → operator_at level tokens ≡ Some o
    → (tokens ≡ Mark (mark_of o) ∷ drop 1 tokens) × (level_of o ≡ level)
unfolding operator_at
operator_sound level [] o e = absurd cc
operator_sound level (Name name ∷ rest) o e = absurd cc
operator_sound level (Number k ∷ rest) o e = absurd cc
operator_sound level (Quoted text ∷ rest) o e = absurd cc
operator_sound level (Mark m ∷ rest) o e =
    let r = of_level_sound level (operator_of m) o e in
    (ap (λ (n : AnyMark). Mark n ∷ rest) (is_mark_of m o r.0), r.1)
  where
    of_level_sound : (level : ℕ) (found : Option BinOp) (o : BinOp) → of_level level found ≡ Some o
        → (found ≡ Some o) × (level_of o ≡ level)
    of_level_sound level None o e = absurd cc
    of_level_sound level (Some p) o e = picked (eqb (level_of p) level) refl e
      where
        picked : (b : Bool) → eqb (level_of p) level ≡ b → cond b (Some p) None ≡ Some o → (Some p ≡ Some o) × (level_of o ≡ level)
        picked true t e = (e, ap level_of (sym (some_is p o e)) ∙ eqb-true _ _ t)
        picked false t e = absurd cc

pub operator_there : (o : BinOp) (rest : List Token) → operator_at (level_of o) (Mark (mark_of o) ∷ rest) ≡ Some o
unfolding operator_at
operator_there o rest =
    let same : eqb (level_of o) (level_of o) ≡ true = eq-eqb _ _ refl in
    rw (operator-of o, same) refl

-- the name of a store was stripped, or it is none
pub store_stripped : (text p : List ℕ) → text ≡ store_of p → before_store text ≡ Ok p
store_stripped text p e = ap before_store e ∙ store-before p

pub no_store : (text : List ℕ) → ((front : List ℕ) → text ≡ front ++ codes "_store" → ⊥) → before_store text ≡ Err tt
no_store text none = picked (before_store text) refl
  where
    picked : (r : Result (List ℕ) (Unit {0})) → before_store text ≡ r → r ≡ Err tt
    picked (Ok p) e = absurd (none p (before_store_sound text p e))
    picked (Err u) e = refl

-- two tests that hold together
pub both : (a b : Bool) → (a && b) ≡ true → (a ≡ true) × (b ≡ true)
both true b e = (refl, e)
both false b e = absurd (false≢true e)

pub not_both : (a b : Bool) → b ≡ false → (a && b) ≡ false
not_both true b e = e
not_both false b e = refl
