-- The text of a tree: brackets round every part that is no primary, and `'` round texts and the names of fields.
use Rattle.std.specs.Prelude.{ℕ, List, [], ◌∷◌, ◌++◌, codes, Bool, true, false, if◌then◌else◌, Option, Some, None, flat_map, slice_get}
use Rattle.case_table.specs.Names.{builtins}
use Rattle.expr_syntax.specs.declared.expr.Expr.{Expr, Expr-F, fold-Expr}
use Rattle.expr_syntax.specs.declared.expr.Expr.TheOpen as form
use Rattle.expr_syntax.specs.declared.token.Token.{Token}
use Rattle.expr_syntax.specs.declared.token.Token.TheVariants.{Name, Number, Quoted, Mark}
use Rattle.expr_syntax.specs.declared.token.Mark.TheVariants as mark
use Rattle.expr_syntax.specs.Grammar.{mark_of, field_of_row, selection_test, store_length, length_of_domain}
use Rattle.expr_syntax.specs.TokenText.{text_of_tokens}

-- the tokens of a tree, and whether they are a primary
pub record Written : Type 0 where
  pub tokens : List Token
  pub is_primary : Bool

abbrev pub primary : List Token → Written
primary tokens = record { tokens = tokens; is_primary = true }

abbrev pub other : List Token → Written
other tokens = record { tokens = tokens; is_primary = false }

-- the tokens of a part: in brackets, where it is no primary
abbrev pub as_part : Written → List Token
as_part part = if part.is_primary then part.tokens else Mark mark.Open ∷ part.tokens ++ Mark mark.Close ∷ []

-- the tokens of some things, with a comma between any two
abbrev pub with_commas : {X : Type 0} → (X → List Token) → List X → List Token
with_commas tokens_of [] = []
with_commas tokens_of (first ∷ others) = tokens_of first ++ flat_map (λ other. Mark mark.Comma ∷ tokens_of other) others

abbrev pub the_name : Option (List ℕ) → List ℕ
the_name None = []
the_name (Some name) = name

-- the name of the builtin of a code
abbrev pub builtin_name : ℕ → List ℕ
builtin_name code = the_name (slice_get builtins code)

-- a form, from its parts
abbrev pub written_here : Expr-F Written → Written
written_here form.Null = primary (Name (codes "null") ∷ [])
written_here (form.Flag b) = primary (Name (if b then codes "true" else codes "false") ∷ [])
written_here (form.Number m) = primary (Number m ∷ [])
written_here (form.Text t) = primary (Quoted t ∷ [])
written_here (form.Field name) = primary (field_of_row name)
written_here (form.Param name) = primary (Name name ∷ [])
written_here (form.Member name field) = primary (Name name ∷ Mark mark.Point ∷ Name field ∷ [])
written_here (form.Not e) = other (Mark mark.Not ∷ as_part e)
written_here (form.Minus e) = other (Mark mark.Minus ∷ as_part e)
written_here (form.Plus e) = other (Mark mark.Plus ∷ as_part e)
written_here (form.Binary o left right) = other (as_part left ++ Mark (mark_of o) ∷ as_part right)
written_here (form.Choose test first second) =
    other (as_part test ++ Mark mark.Question ∷ as_part first ++ Mark mark.Colon ∷ as_part second)
written_here (form.Pair first second) =
    primary (Mark mark.OpenSquare ∷ as_part first ++ Mark mark.Comma ∷ as_part second ++ Mark mark.CloseSquare ∷ [])
written_here (form.Call code arguments) =
    primary (Name (builtin_name code) ∷ Mark mark.Open ∷ with_commas as_part arguments ++ Mark mark.Close ∷ [])
written_here (form.Selected p) = primary (selection_test p)
written_here (form.Stored p) = primary (store_length p)
written_here (form.DomainLength s) = primary (length_of_domain s)

abbrev pub written : Expr → Written
written = fold-Expr Written written_here

-- the text of a tree
abbrev pub text_of : Expr → List ℕ
text_of e = text_of_tokens (written e).tokens
