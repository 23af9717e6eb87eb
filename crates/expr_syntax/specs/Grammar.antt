-- Which tokens are which tree. A level is a row of the table of forms, from the tightest to the loosest:
--   0 primary · 1 `! - +` · 2 `* / %` · 3 `+ -` · 4 `< <= > >=` · 5 `== != === !==` · 6 `&&` · 7 `||` · 8 `e ? e : e`
use Rattle.std.specs.Prelude.{◌≡◌, ℕ, suc, ◌≤◌, max, List, [], ◌∷◌, ◌++◌, length, codes, ℤ, Bool, true, false, IsTrue, Some, ◌||◌, bytes_eq}
use Rattle.std.specs.Prelude.{refl}
use Rattle.case_table.specs.Names.{index_of, builtins}
use Rattle.case_table.specs.Arguments.{admits}
use Rattle.expr_syntax.specs.declared.expr.Expr.{Expr, Expr-F, fold-Expr}
use Rattle.expr_syntax.specs.declared.expr.Expr.TheVariants as expr
use Rattle.expr_syntax.specs.declared.expr.Expr.TheOpen as form
use Rattle.expr_syntax.specs.declared.expr.BinOp.{BinOp}
use Rattle.expr_syntax.specs.declared.expr.BinOp.TheVariants as op
use Rattle.expr_syntax.specs.declared.token.Token.{Token}
use Rattle.expr_syntax.specs.declared.token.Token.TheVariants.{Name, Number, Quoted, Mark}
use Rattle.expr_syntax.specs.declared.token.Mark.{Mark as AnyMark}
use Rattle.expr_syntax.specs.declared.token.Mark.TheVariants as mark
use Rattle.expr_syntax.specs.Tokens.{HasTokens}

-- the mark of an operator
abbrev pub mark_of : BinOp → AnyMark
mark_of op.Or = mark.Or
mark_of op.And = mark.And
mark_of op.Like = mark.Like
mark_of op.NotLike = mark.NotLike
mark_of op.Same = mark.Same
mark_of op.NotSame = mark.NotSame
mark_of op.Less = mark.Less
mark_of op.LessSame = mark.LessSame
mark_of op.More = mark.More
mark_of op.MoreSame = mark.MoreSame
mark_of op.Add = mark.Plus
mark_of op.Sub = mark.Minus
mark_of op.Mul = mark.Times
mark_of op.Div = mark.Over
mark_of op.Rem = mark.Percent

-- the level of an operator
abbrev pub level_of : BinOp → ℕ
level_of op.Or = 7
level_of op.And = 6
level_of op.Like = 5
level_of op.NotLike = 5
level_of op.Same = 5
level_of op.NotSame = 5
level_of op.Less = 4
level_of op.LessSame = 4
level_of op.More = 4
level_of op.MoreSame = 4
level_of op.Add = 3
level_of op.Sub = 3
level_of op.Mul = 2
level_of op.Div = 2
level_of op.Rem = 2

-- these words never stand for a parameter
abbrev pub is_reserved : List ℕ → Bool
is_reserved name =
    bytes_eq name (codes "true") || bytes_eq name (codes "false") || bytes_eq name (codes "null") || bytes_eq name (codes "datum")

-- the name of the store of a selection
abbrev pub store_of : List ℕ → List ℕ
store_of selection = selection ++ codes "_store"

-- datum['name']
abbrev pub field_of_row : List ℕ → List Token
field_of_row name = Name (codes "datum") ∷ Mark mark.OpenSquare ∷ Quoted name ∷ Mark mark.CloseSquare ∷ []

-- vlSelectionTest('p_store', datum)
abbrev pub selection_test : List ℕ → List Token
selection_test p =
    Name (codes "vlSelectionTest") ∷ Mark mark.Open ∷ Quoted (store_of p) ∷ Mark mark.Comma ∷ Name (codes "datum") ∷ Mark mark.Close ∷ []

-- length(data('p_store'))
abbrev pub store_length : List ℕ → List Token
store_length p =
    Name (codes "length") ∷ Mark mark.Open ∷ Name (codes "data") ∷ Mark mark.Open ∷ Quoted (store_of p)
    ∷ Mark mark.Close ∷ Mark mark.Close ∷ []

-- domain('s').length
abbrev pub length_of_domain : List ℕ → List Token
length_of_domain s =
    Name (codes "domain") ∷ Mark mark.Open ∷ Quoted s ∷ Mark mark.Close ∷ Mark mark.Point ∷ Name (codes "length") ∷ []

mutual
  -- The tokens are the tree, in a place where a form of this level may stand. `nesting` bounds how many brackets stand in
  -- one another: those round an expression, those of a call of a builtin and those of a pair.
  pub data IsAt : ℕ → ℕ → List Token → Expr → Type 0 where
    number : (nesting : ℕ) (m : ℤ) → IsAt nesting 0 (Number m ∷ []) (expr.Number m)
    text : (nesting : ℕ) (t : List ℕ) → IsAt nesting 0 (Quoted t ∷ []) (expr.Text t)
    truth : (nesting : ℕ) → IsAt nesting 0 (Name (codes "true") ∷ []) (expr.Flag true)
    falsehood : (nesting : ℕ) → IsAt nesting 0 (Name (codes "false") ∷ []) (expr.Flag false)
    null : (nesting : ℕ) → IsAt nesting 0 (Name (codes "null") ∷ []) expr.Null
    -- datum.name, datum['name']
    field : (nesting : ℕ) (name : List ℕ) → IsAt nesting 0 (Name (codes "datum") ∷ Mark mark.Point ∷ Name name ∷ []) (expr.Field name)
    quoted_field : (nesting : ℕ) (name : List ℕ) → IsAt nesting 0 (field_of_row name) (expr.Field name)
    -- parameter, parameter.name
    parameter : (nesting : ℕ) (name : List ℕ) → is_reserved name ≡ false → IsAt nesting 0 (Name name ∷ []) (expr.Param name)
    member : (nesting : ℕ) (name field : List ℕ) → is_reserved name ≡ false
        → IsAt nesting 0 (Name name ∷ Mark mark.Point ∷ Name field ∷ []) (expr.Member name field)
    -- a call of a builtin, with a number of arguments that it takes
    call : (nesting : ℕ) (name : List ℕ) (code : ℕ) (inside : List Token) (arguments : List Expr)
        → index_of builtins name ≡ Some code → IsTrue (admits code (length arguments)) → AreArguments nesting inside arguments
        → IsAt (suc nesting) 0 (Name name ∷ Mark mark.Open ∷ inside ++ Mark mark.Close ∷ []) (expr.Call code arguments)
    -- [e, e], (e)
    pair : (nesting : ℕ) (front back : List Token) (first second : Expr) → IsAt nesting 8 front first → IsAt nesting 8 back second
        → IsAt (suc nesting) 0
        (Mark mark.OpenSquare ∷ front ++ Mark mark.Comma ∷ back ++ Mark mark.CloseSquare ∷ []) (expr.Pair first second)
    brackets : (nesting : ℕ) (inside : List Token) (e : Expr) → IsAt nesting 8 inside e
        → IsAt (suc nesting) 0 (Mark mark.Open ∷ inside ++ Mark mark.Close ∷ []) e
    -- vlSelectionTest('p_store', datum), length(data('p_store')), domain('s').length
    selected : (nesting : ℕ) (p : List ℕ) → IsAt nesting 0 (selection_test p) (expr.Selected p)
    stored : (nesting : ℕ) (p : List ℕ) → IsAt nesting 0 (store_length p) (expr.Stored p)
    domain_length : (nesting : ℕ) (s : List ℕ) → IsAt nesting 0 (length_of_domain s) (expr.DomainLength s)
    -- !e, -e, +e
    not : (nesting : ℕ) (operand : List Token) (e : Expr) → IsAt nesting 1 operand e
        → IsAt nesting 1 (Mark mark.Not ∷ operand) (expr.Not e)
    minus : (nesting : ℕ) (operand : List Token) (e : Expr) → IsAt nesting 1 operand e
        → IsAt nesting 1 (Mark mark.Minus ∷ operand) (expr.Minus e)
    plus : (nesting : ℕ) (operand : List Token) (e : Expr) → IsAt nesting 1 operand e
        → IsAt nesting 1 (Mark mark.Plus ∷ operand) (expr.Plus e)
    -- an operator between two operands, of which the right one is tighter: so a row of them is read from left to right
    binary : (nesting : ℕ) (o : BinOp) (tight : ℕ) (front back : List Token) (left right : Expr)
        → level_of o ≡ suc tight → IsAt nesting (suc tight) front left → IsAt nesting tight back right
        → IsAt nesting (suc tight) (front ++ Mark (mark_of o) ∷ back) (expr.Binary o left right)
    -- e ? e : e
    choice : (nesting : ℕ) (a b c : List Token) (test first second : Expr)
        → IsAt nesting 7 a test → IsAt nesting 8 b first → IsAt nesting 8 c second
        → IsAt nesting 8 (a ++ Mark mark.Question ∷ b ++ Mark mark.Colon ∷ c) (expr.Choose test first second)
    -- a form of a level may stand where a looser one may
    tighter : (nesting level : ℕ) (tokens : List Token) (e : Expr) → IsAt nesting level tokens e → IsAt nesting (suc level) tokens e

  -- the tokens are the arguments of a call, with a comma between any two
  pub data AreArguments : ℕ → List Token → List Expr → Type 0 where
    last : (nesting : ℕ) (tokens : List Token) (e : Expr) → IsAt nesting 8 tokens e → AreArguments nesting tokens (e ∷ [])
    more : (nesting : ℕ) (front back : List Token) (e : Expr) (others : List Expr)
        → IsAt nesting 8 front e → AreArguments nesting back others → AreArguments nesting (front ++ Mark mark.Comma ∷ back) (e ∷ others)

-- the greatest of some numbers
abbrev pub list_max : List ℕ → ℕ
list_max [] = 0
list_max (n ∷ others) = max n (list_max others)

-- how high a tree is, by how high its parts are: a leaf has 1, and every other is one higher than the highest of its parts
abbrev pub height_here : Expr-F ℕ → ℕ
height_here (form.Not e) = suc e
height_here (form.Minus e) = suc e
height_here (form.Plus e) = suc e
height_here (form.Binary o left right) = suc (max left right)
height_here (form.Choose test first second) = suc (max test (max first second))
height_here (form.Pair first second) = suc (max first second)
height_here (form.Call code arguments) = suc (list_max arguments)
height_here e = 1

abbrev pub height : Expr → ℕ
height = fold-Expr ℕ height_here

-- how many brackets may stand in one another, and how high a tree may be
abbrev pub most_nesting : ℕ
most_nesting = 256

abbrev pub most_height : ℕ
most_height = 256

-- the text reads as the tree
pub record HasReading (text : List ℕ) (e : Expr) : Type 0 where
  pub tokens : List Token
  pub spelled : HasTokens text tokens
  pub is : IsAt most_nesting 8 tokens e
  pub low : height e ≤ most_height

-- `a - b - c` is `(a - b) - c`
three_operands : IsAt 0 3
    (Name (codes "a") ∷ Mark mark.Minus ∷ Name (codes "b") ∷ Mark mark.Minus ∷ Name (codes "c") ∷ [])
    (expr.Binary op.Sub (expr.Binary op.Sub (expr.Param (codes "a")) (expr.Param (codes "b"))) (expr.Param (codes "c")))
three_operands =
    binary 0 op.Sub 2 (Name (codes "a") ∷ Mark mark.Minus ∷ Name (codes "b") ∷ []) (Name (codes "c") ∷ []) _ _ refl
    (binary 0 op.Sub 2 (Name (codes "a") ∷ []) (Name (codes "b") ∷ []) _ _ refl
    (tighter 0 2 _ _ (tighter 0 1 _ _ (tighter 0 0 _ _ (parameter 0 (codes "a") refl))))
    (tighter 0 1 _ _ (tighter 0 0 _ _ (parameter 0 (codes "b") refl))))
    (tighter 0 1 _ _ (tighter 0 0 _ _ (parameter 0 (codes "c") refl)))

-- a call opens one bracket
a_call : IsAt 1 0 (Name (codes "abs") ∷ Mark mark.Open ∷ Name (codes "x") ∷ Mark mark.Close ∷ [])
    (expr.Call 7 (expr.Param (codes "x") ∷ []))
a_call =
    call 0 (codes "abs") 7 (Name (codes "x") ∷ []) _ refl refl
    (last 0 _ _ (tighter 0 7 _ _ (tighter 0 6 _ _ (tighter 0 5 _ _ (tighter 0 4 _ _
    (tighter 0 3 _ _ (tighter 0 2 _ _ (tighter 0 1 _ _ (tighter 0 0 _ _ (parameter 0 (codes "x") refl))))))))))
