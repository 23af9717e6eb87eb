-- The tree at the front of the tokens, as a function of them. Only private contracts cite it.
use Rattle.std.specs.Prelude.{ℕ, zero, suc, ◌-◌, max, List, [], ◌∷◌, ◌++◌, length, drop, take, codes, Bool, true, false, ◌&&◌, ◌==◌, nat_lt}
use Rattle.std.specs.Prelude.{if◌then◌else◌, Result, Ok, Err, Option, Some, None, bytes_eq, map}
use Rattle.std.specs.Str.{bytes_eq as same_bytes}
use Rattle.fixed_num.specs.Steps.{◌>>=◌}
use Rattle.case_table.specs.Names.{index_of, builtins}
use Rattle.case_table.specs.Arguments.{admits}
use Rattle.expr_syntax.specs.declared.expr.Expr.{Expr}
use Rattle.expr_syntax.specs.declared.expr.Expr.TheVariants as expr
use Rattle.expr_syntax.specs.declared.expr.BinOp.{BinOp}
use Rattle.expr_syntax.specs.declared.expr.BinOp.TheVariants as op
use Rattle.expr_syntax.specs.declared.token.Token.{Token}
use Rattle.expr_syntax.specs.declared.token.Token.TheVariants.{Name, Number, Quoted, Mark}
use Rattle.expr_syntax.specs.declared.token.Mark.{Mark as AnyMark}
use Rattle.expr_syntax.specs.declared.token.Mark.TheVariants as mark
use Rattle.expr_syntax.specs.Grammar.{level_of, list_max, height, most_nesting, most_height}

-- what is read from the front and the tokens after it, or that there is nothing to read
abbrev pub Read : Type 0 → Type 0
Read A = Result (A × List Token) (Unit {0})

-- ---- single tokens

-- the marks, numbered
abbrev pub mark_number : AnyMark → ℕ
mark_number mark.Or = 0
mark_number mark.And = 1
mark_number mark.Like = 2
mark_number mark.NotLike = 3
mark_number mark.Same = 4
mark_number mark.NotSame = 5
mark_number mark.Less = 6
mark_number mark.LessSame = 7
mark_number mark.More = 8
mark_number mark.MoreSame = 9
mark_number mark.Plus = 10
mark_number mark.Minus = 11
mark_number mark.Times = 12
mark_number mark.Over = 13
mark_number mark.Percent = 14
mark_number mark.Not = 15
mark_number mark.Question = 16
mark_number mark.Colon = 17
mark_number mark.Comma = 18
mark_number mark.Point = 19
mark_number mark.Open = 20
mark_number mark.Close = 21
mark_number mark.OpenSquare = 22
mark_number mark.CloseSquare = 23

abbrev pub is : AnyMark → AnyMark → Bool
is m n = mark_number m == mark_number n

-- the tokens begin with this mark
unfoldable pub starts : AnyMark → List Token → Bool
starts m [] = false
starts m (Mark n ∷ rest) = is m n
starts m (token ∷ rest) = false

-- what follows this mark at the front
abbrev pub after : AnyMark → List Token → Result (List Token) (Unit {0})
after m tokens = if starts m tokens then Ok (drop 1 tokens) else Err tt

unfoldable pub name_at : List Token → Read (List ℕ)
name_at [] = Err tt
name_at (Name name ∷ rest) = Ok (name, rest)
name_at (token ∷ rest) = Err tt

unfoldable pub quoted_at : List Token → Read (List ℕ)
quoted_at [] = Err tt
quoted_at (Quoted text ∷ rest) = Ok (text, rest)
quoted_at (token ∷ rest) = Err tt

-- what follows this word at the front
abbrev pub after_word : List ℕ → List Token → Result (List Token) (Unit {0})
after_word word tokens = name_at tokens >>= λ x. if bytes_eq x.0 word then Ok x.1 else Err tt

-- the operator that a mark stands for
abbrev pub operator_of : AnyMark → Option BinOp
operator_of mark.Or = Some op.Or
operator_of mark.And = Some op.And
operator_of mark.Like = Some op.Like
operator_of mark.NotLike = Some op.NotLike
operator_of mark.Same = Some op.Same
operator_of mark.NotSame = Some op.NotSame
operator_of mark.Less = Some op.Less
operator_of mark.LessSame = Some op.LessSame
operator_of mark.More = Some op.More
operator_of mark.MoreSame = Some op.MoreSame
operator_of mark.Plus = Some op.Add
operator_of mark.Minus = Some op.Sub
operator_of mark.Times = Some op.Mul
operator_of mark.Over = Some op.Div
operator_of mark.Percent = Some op.Rem
operator_of mark.Not = None
operator_of mark.Question = None
operator_of mark.Colon = None
operator_of mark.Comma = None
operator_of mark.Point = None
operator_of mark.Open = None
operator_of mark.Close = None
operator_of mark.OpenSquare = None
operator_of mark.CloseSquare = None

abbrev pub of_level : ℕ → Option BinOp → Option BinOp
of_level level None = None
of_level level (Some o) = if level_of o == level then Some o else None

-- the operator of this level at the front
unfoldable pub operator_at : ℕ → List Token → Option BinOp
operator_at level [] = None
operator_at level (Mark m ∷ rest) = of_level level (operator_of m)
operator_at level (token ∷ rest) = None

-- ---- trees

abbrev pub Reader : Type 0
Reader = List Token → Read Expr

-- a tree of which the highest part is so high, where it is no higher than the limit
abbrev pub within : ℕ → ℕ → Expr → List Token → Read Expr
within limit highest e rest = if nat_lt highest limit then Ok (e, rest) else Err tt

-- what stands before `_store`
unfoldable pub before_store : List ℕ → Result (List ℕ) (Unit {0})
before_store text =
    if same_bytes (drop (length text - 6) text) (codes "_store") then Ok (take (length text - 6) text) else Err tt

-- after `vlSelectionTest(`
unfoldable pub selected_at : Reader
selected_at tokens = do
  text ← quoted_at tokens
  a ← after mark.Comma text.1
  b ← after_word (codes "datum") a
  rest ← after mark.Close b
  selection ← before_store text.0
  Ok (expr.Selected selection, rest)

-- after `length(data(`
unfoldable pub stored_at : Reader
stored_at tokens = do
  text ← quoted_at tokens
  a ← after mark.Close text.1
  rest ← after mark.Close a
  selection ← before_store text.0
  Ok (expr.Stored selection, rest)

-- after `domain(`
unfoldable pub domain_length_at : Reader
domain_length_at tokens = do
  text ← quoted_at tokens
  a ← after mark.Close text.1
  b ← after mark.Point a
  rest ← after_word (codes "length") b
  Ok (expr.DomainLength text.0, rest)

-- after `datum`
unfoldable pub field_at : Reader
field_at tokens =
    if starts mark.Point tokens then (name_at (drop 1 tokens) >>= λ name. Ok (expr.Field name.0, name.1))
    else do
      a ← after mark.OpenSquare tokens
      name ← quoted_at a
      rest ← after mark.CloseSquare name.1
      Ok (expr.Field name.0, rest)

-- `data(` at the front
unfoldable pub starts_data : List Token → Bool
starts_data [] = false
starts_data (Name name ∷ rest) = if bytes_eq name (codes "data") then starts mark.Open rest else false
starts_data (token ∷ rest) = false

-- `length(` and `data(`
abbrev pub asks_store : List ℕ → List Token → Bool
asks_store name tokens = bytes_eq name (codes "length") && starts_data tokens

-- arguments after those that are done, no more than room
unfoldable pub arguments_at : Reader → ℕ → List Expr → List Token → Read (List Expr)
arguments_at element zero done tokens = Err tt
arguments_at element (suc room) done tokens = do
  x ← element tokens
  if starts mark.Comma x.1 then arguments_at element room (done ++ x.0 ∷ []) (drop 1 x.1) else Ok (done ++ x.0 ∷ [], x.1)

-- no builtin takes more arguments
abbrev pub most_arguments : ℕ
most_arguments = 8

-- the arguments of the builtin of this code, after its `(`
unfoldable pub call_at : Reader → ℕ → ℕ → Reader
call_at element limit code tokens = do
  arguments ← arguments_at element most_arguments [] tokens
  rest ← after mark.Close arguments.1
  if admits code (length arguments.0)
      then within limit (list_max (map height arguments.0)) (expr.Call code arguments.0) rest else Err tt

abbrev pub builtin_at : Reader → ℕ → Option ℕ → Reader
builtin_at element limit None tokens = Err tt
builtin_at element limit (Some code) tokens = call_at element limit code tokens

-- after a name and `(`
unfoldable pub called_at : Reader → ℕ → List ℕ → Reader
called_at element limit name tokens =
    if bytes_eq name (codes "vlSelectionTest") then selected_at tokens
    else (if bytes_eq name (codes "domain") then domain_length_at tokens
    else (if asks_store name tokens then stored_at (drop 1 (drop 1 tokens))
    else builtin_at element limit (index_of builtins name) tokens))

-- after a name that may stand for a parameter
unfoldable pub parameter_at : Reader → ℕ → List ℕ → Reader
parameter_at element limit name tokens =
    if starts mark.Open tokens then called_at element limit name (drop 1 tokens)
    else (if starts mark.Point tokens then (name_at (drop 1 tokens) >>= λ field. Ok (expr.Member name field.0, field.1))
    else Ok (expr.Param name, tokens))

-- after a name
unfoldable pub named_at : Reader → ℕ → List ℕ → Reader
named_at element limit name tokens =
    if bytes_eq name (codes "true") then Ok (expr.Flag true, tokens)
    else (if bytes_eq name (codes "false") then Ok (expr.Flag false, tokens)
    else (if bytes_eq name (codes "null") then Ok (expr.Null, tokens)
    else (if bytes_eq name (codes "datum") then field_at tokens
    else parameter_at element limit name tokens)))

-- after `(`
unfoldable pub bracketed_at : Reader → Reader
bracketed_at whole tokens = do
  x ← whole tokens
  rest ← after mark.Close x.1
  Ok (x.0, rest)

-- after `[`
unfoldable pub pair_at : Reader → ℕ → Reader
pair_at element limit tokens = do
  first ← element tokens
  a ← after mark.Comma first.1
  second ← element a
  rest ← after mark.CloseSquare second.1
  within limit (max (height first.0) (height second.0)) (expr.Pair first.0 second.0) rest

-- a primary: inside brackets whole reads what is as high as this, and element what is lower
unfoldable pub primary_at : Reader → Reader → ℕ → Reader
primary_at whole element limit [] = Err tt
primary_at whole element limit (Number m ∷ rest) = Ok (expr.Number m, rest)
primary_at whole element limit (Quoted text ∷ rest) = Ok (expr.Text text, rest)
primary_at whole element limit (Name name ∷ rest) = named_at element limit name rest
primary_at whole element limit (Mark m ∷ rest) =
    if is mark.Open m then bracketed_at whole rest
    else (if is mark.OpenSquare m then pair_at element limit rest else Err tt)

-- the operand of a sign, which reads what is lower, and the tree with the sign
abbrev pub signed_at : (Expr → Expr) → Reader → ℕ → Reader
signed_at make lower limit tokens = lower tokens >>= λ x. within limit (height x.0) (make x.0) x.1

unfoldable pub unary_at : Reader → Reader → ℕ → Reader
unary_at tight lower limit tokens =
    if starts mark.Not tokens then signed_at expr.Not lower limit (drop 1 tokens)
    else (if starts mark.Minus tokens then signed_at expr.Minus lower limit (drop 1 tokens)
    else (if starts mark.Plus tokens then signed_at expr.Plus lower limit (drop 1 tokens)
    else tight tokens))

-- a left operand with an operator and a right operand
abbrev pub joined_at : Reader → ℕ → BinOp → Expr → Reader
joined_at lower limit o left tokens =
    lower tokens >>= λ right. within limit (max (height left) (height right.0)) (expr.Binary o left right.0) right.1

-- after a left operand: the operator with its right operand, and then what more reads; or nothing, where there is no operator
abbrev pub linked_at : Reader → ℕ → (Expr → Reader) → Option BinOp → Expr → Reader
linked_at lower limit more None left tokens = Ok (left, tokens)
linked_at lower limit more (Some o) left tokens = joined_at lower limit o left (drop 1 tokens) >>= λ x. more x.0 x.1

-- operators of a level with their right operands, after a left operand; fewer than room of them
unfoldable pub chain_at : Reader → ℕ → ℕ → ℕ → Expr → Reader
chain_at lower limit level zero left tokens = Err tt
chain_at lower limit level (suc room) left tokens =
    linked_at lower limit (λ e rest. chain_at lower limit level room e rest) (operator_at level tokens) left tokens

unfoldable pub binary_at : Reader → Reader → ℕ → ℕ → Reader
binary_at tight lower limit level tokens = tight tokens >>= λ x. chain_at lower limit level limit x.0 x.1

-- after `e ?`
unfoldable pub branches_at : Reader → ℕ → Expr → Reader
branches_at lower limit test tokens = do
  first ← lower tokens
  a ← after mark.Colon first.1
  second ← lower a
  within limit (max (height test) (max (height first.0) (height second.0))) (expr.Choose test first.0 second.0) second.1

unfoldable pub choice_at : Reader → Reader → ℕ → Reader
choice_at tight lower limit tokens =
    tight tokens >>= λ x. if starts mark.Question x.1 then branches_at lower limit x.0 (drop 1 x.1) else Ok x

-- ---- levels

-- a looser level, from the one that is tighter
abbrev pub loosened : ℕ → Reader → (ℕ → Reader) → ℕ → Reader
loosened zero tight lower limit = unary_at tight (lower 1) limit
loosened (suc level) tight lower limit =
    if level == 6 then choice_at tight (lower 8) limit else binary_at tight (lower (suc level)) limit (suc (suc level))

-- each level, where primary reads a primary and lower each level of what is lower
unfoldable pub level_at : Reader → (ℕ → Reader) → ℕ → ℕ → Reader
level_at primary lower limit zero = primary
level_at primary lower limit (suc level) = loosened level (level_at primary lower limit level) lower limit

-- each level, where inside reads what stands between brackets
unfoldable pub height_at : (ℕ → Reader) → ℕ → ℕ → Reader
height_at inside zero level tokens = Err tt
height_at inside (suc limit) level tokens =
    level_at (primary_at (inside (suc limit)) (inside limit) (suc limit)) (height_at inside limit) (suc limit) level tokens

-- no bracket may be opened
abbrev pub nothing_inside : ℕ → Reader
nothing_inside limit tokens = Err tt

-- a tree with at most so many brackets in one another that is no higher than the limit, at a level
unfoldable pub tree_at : ℕ → ℕ → ℕ → Reader
tree_at zero limit level = height_at nothing_inside limit level
tree_at (suc nesting) limit level = height_at (λ lower. tree_at nesting lower 8) limit level

-- what stands between brackets, of which no more than so many may be open
unfoldable pub inside_of : ℕ → ℕ → Reader
inside_of zero limit tokens = Err tt
inside_of (suc nesting) limit tokens = tree_at nesting limit 8 tokens

-- a tree that all tokens are
unfoldable pub whole_at : List Token → Result Expr (Unit {0})
whole_at tokens = do
  x ← tree_at most_nesting most_height 8 tokens
  if length x.1 == 0 then Ok x.0 else Err tt
