-- What may follow a form directly.
use Rattle.std.proofs.Common.{◌≡◌, ℕ, suc, ◌<◌, Bool, true, false, List, [], ◌∷◌, Option, Some, None, refl, sym, ap, ◌∙◌, arith, inl, inr}
use Rattle.std.specs.Prelude.{nat_lt}
use Rattle.std.proofs.lemmas.Bool.{cases_Bool, ltb-true, lt-ltb, false≢true}
use Rattle.expr_syntax.specs.declared.expr.BinOp.{BinOp}
use Rattle.expr_syntax.specs.declared.expr.BinOp.TheVariants as op
use Rattle.expr_syntax.specs.declared.token.Token.{Token}
use Rattle.expr_syntax.specs.declared.token.Token.TheVariants.{Name, Number, Quoted, Mark}
use Rattle.expr_syntax.specs.declared.token.Mark.{Mark as AnyMark}
use Rattle.expr_syntax.specs.declared.token.Mark.TheVariants as mark
use Rattle.expr_syntax.specs.Grammar.{mark_of, level_of}
use Rattle.expr_syntax.specs.inner.Parser.{starts, operator_of, operator_at}
use Rattle.expr_syntax.proofs.Grounds.{starts_true, operator_sound}

abbrev looser : ℕ → Option BinOp → Bool
looser level None = false
looser level (Some o) = nat_lt level (level_of o)

-- a form of this level ends before the mark
abbrev pub ends : ℕ → AnyMark → Bool
ends level mark.Close = true
ends level mark.CloseSquare = true
ends level mark.Comma = true
ends level mark.Colon = true
ends level mark.Question = nat_lt level 8
ends level m = looser level (operator_of m)

-- a form of this level ends before the tokens
abbrev pub stops : ℕ → List Token → Bool
stops level [] = true
stops level (Mark m ∷ rest) = ends level m
stops level (token ∷ rest) = false

pub ends-operator : (level : ℕ) (o : BinOp) → ends level (mark_of o) ≡ nat_lt level (level_of o)
ends-operator level op.Or = refl
ends-operator level op.And = refl
ends-operator level op.Like = refl
ends-operator level op.NotLike = refl
ends-operator level op.Same = refl
ends-operator level op.NotSame = refl
ends-operator level op.Less = refl
ends-operator level op.LessSame = refl
ends-operator level op.More = refl
ends-operator level op.MoreSame = refl
ends-operator level op.Add = refl
ends-operator level op.Sub = refl
ends-operator level op.Mul = refl
ends-operator level op.Div = refl
ends-operator level op.Rem = refl

lower_down : (level k : ℕ) → nat_lt (suc level) k ≡ true → nat_lt level k ≡ true
lower_down level k e =
    let lt : suc level < k = ltb-true (suc level) k e in
    lt-ltb level k (omega arith)

ends-tighter : (level : ℕ) (m : AnyMark) → ends (suc level) m ≡ true → ends level m ≡ true
ends-tighter level mark.Or e = lower_down level 7 e
ends-tighter level mark.And e = lower_down level 6 e
ends-tighter level mark.Like e = lower_down level 5 e
ends-tighter level mark.NotLike e = lower_down level 5 e
ends-tighter level mark.Same e = lower_down level 5 e
ends-tighter level mark.NotSame e = lower_down level 5 e
ends-tighter level mark.Less e = lower_down level 4 e
ends-tighter level mark.LessSame e = lower_down level 4 e
ends-tighter level mark.More e = lower_down level 4 e
ends-tighter level mark.MoreSame e = lower_down level 4 e
ends-tighter level mark.Plus e = lower_down level 3 e
ends-tighter level mark.Minus e = lower_down level 3 e
ends-tighter level mark.Times e = lower_down level 2 e
ends-tighter level mark.Over e = lower_down level 2 e
ends-tighter level mark.Percent e = lower_down level 2 e
ends-tighter level mark.Not e = e
ends-tighter level mark.Question e = lower_down level 8 e
ends-tighter level mark.Colon e = refl
ends-tighter level mark.Comma e = refl
ends-tighter level mark.Point e = e
ends-tighter level mark.Open e = e
ends-tighter level mark.Close e = refl
ends-tighter level mark.OpenSquare e = e
ends-tighter level mark.CloseSquare e = refl

pub stops-tighter : (level : ℕ) (rest : List Token) → stops (suc level) rest ≡ true → stops level rest ≡ true
stops-tighter level [] e = refl
stops-tighter level (Mark m ∷ rest) e = ends-tighter level m e
stops-tighter level (Name w ∷ rest) e = e
stops-tighter level (Number m ∷ rest) e = e
stops-tighter level (Quoted t ∷ rest) e = e

not_there : (m : AnyMark) (level : ℕ) (rest : List Token) → ends level m ≡ false → stops level rest ≡ true → starts m rest ≡ false
not_there m level rest off e = elim (cases_Bool (starts m rest)) [
  | inr s ↦ s
  | inl s ↦ absurd (false≢true (sym off ∙ ap (stops level) (sym (starts_true m rest s)) ∙ e))
]

pub no_open : (level : ℕ) (rest : List Token) → stops level rest ≡ true → starts mark.Open rest ≡ false
no_open level rest e = not_there mark.Open level rest refl e

pub no_point : (level : ℕ) (rest : List Token) → stops level rest ≡ true → starts mark.Point rest ≡ false
no_point level rest e = not_there mark.Point level rest refl e

pub no_question : (rest : List Token) → stops 8 rest ≡ true → starts mark.Question rest ≡ false
no_question rest e = not_there mark.Question 8 rest refl e

pub no_operator : (level : ℕ) (rest : List Token) → stops level rest ≡ true → operator_at level rest ≡ None
no_operator level rest e = picked (operator_at level rest) refl
  where
    picked : (found : Option BinOp) → operator_at level rest ≡ found → found ≡ None
    picked None k = refl
    picked (Some o) k =
        let s = operator_sound level rest o k in
        let ends_here : nat_lt level (level_of o) ≡ true = sym (ends-operator level o) ∙ ap (stops level) (sym s.0) ∙ e in
        let lt : level < level_of o = ltb-true level (level_of o) ends_here in
        absurd (omega (arith, s.1))
