-- The tokens of each form, by those of its parts.
use Rattle.std.proofs.Common.{◌≡◌, ℕ, List, ℤ, Bool, sym, ap, ◌∙◌}
use Rattle.std.specs.Prelude.{map, flat_map, ◌++◌, [], ◌∷◌}
use Rattle.std.proofs.Common.{refl}
use Rattle.expr_syntax.specs.declared.expr.Expr.{Expr, fold-roll-Expr}
use Rattle.expr_syntax.specs.declared.expr.Expr.TheVariants as expr
use Rattle.expr_syntax.specs.declared.expr.Expr.TheOpen as form
use Rattle.expr_syntax.specs.declared.expr.BinOp.{BinOp}
use Rattle.expr_syntax.specs.declared.token.Token.{Token}
use Rattle.expr_syntax.specs.declared.token.Token.TheVariants.{Name, Mark}
use Rattle.expr_syntax.specs.declared.token.Mark.TheVariants as mark
use Rattle.expr_syntax.specs.Writing.{Written, written, written_here, as_part, with_commas, primary, builtin_name}

pub written-Null : written expr.Null ≡ written_here form.Null
written-Null = ap written (sym expr.rolls-Null) ∙ fold-roll-Expr Written written_here form.Null

pub written-Flag : (b : Bool) → written (expr.Flag b) ≡ written_here (form.Flag b)
written-Flag b = ap written (sym (expr.rolls-Flag b)) ∙ fold-roll-Expr Written written_here (form.Flag b)

pub written-Number : (m : ℤ) → written (expr.Number m) ≡ written_here (form.Number m)
written-Number m = ap written (sym (expr.rolls-Number m)) ∙ fold-roll-Expr Written written_here (form.Number m)

pub written-Text : (t : List ℕ) → written (expr.Text t) ≡ written_here (form.Text t)
written-Text t = ap written (sym (expr.rolls-Text t)) ∙ fold-roll-Expr Written written_here (form.Text t)

pub written-Field : (name : List ℕ) → written (expr.Field name) ≡ written_here (form.Field name)
written-Field name = ap written (sym (expr.rolls-Field name)) ∙ fold-roll-Expr Written written_here (form.Field name)

pub written-Param : (name : List ℕ) → written (expr.Param name) ≡ written_here (form.Param name)
written-Param name = ap written (sym (expr.rolls-Param name)) ∙ fold-roll-Expr Written written_here (form.Param name)

pub written-Member : (name field : List ℕ) → written (expr.Member name field) ≡ written_here (form.Member name field)
written-Member name field = ap written (sym (expr.rolls-Member name field)) ∙ fold-roll-Expr Written written_here (form.Member name field)

pub written-Selected : (p : List ℕ) → written (expr.Selected p) ≡ written_here (form.Selected p)
written-Selected p = ap written (sym (expr.rolls-Selected p)) ∙ fold-roll-Expr Written written_here (form.Selected p)

pub written-Stored : (p : List ℕ) → written (expr.Stored p) ≡ written_here (form.Stored p)
written-Stored p = ap written (sym (expr.rolls-Stored p)) ∙ fold-roll-Expr Written written_here (form.Stored p)

pub written-DomainLength : (s : List ℕ) → written (expr.DomainLength s) ≡ written_here (form.DomainLength s)
written-DomainLength s = ap written (sym (expr.rolls-DomainLength s)) ∙ fold-roll-Expr Written written_here (form.DomainLength s)

pub written-Not : (e : Expr) → written (expr.Not e) ≡ written_here (form.Not (written e))
written-Not e = ap written (sym (expr.rolls-Not e)) ∙ fold-roll-Expr Written written_here (form.Not e)

pub written-Minus : (e : Expr) → written (expr.Minus e) ≡ written_here (form.Minus (written e))
written-Minus e = ap written (sym (expr.rolls-Minus e)) ∙ fold-roll-Expr Written written_here (form.Minus e)

pub written-Plus : (e : Expr) → written (expr.Plus e) ≡ written_here (form.Plus (written e))
written-Plus e = ap written (sym (expr.rolls-Plus e)) ∙ fold-roll-Expr Written written_here (form.Plus e)

pub written-Binary : (o : BinOp) (left right : Expr)
    → written (expr.Binary o left right) ≡ written_here (form.Binary o (written left) (written right))
written-Binary o left right =
    ap written (sym (expr.rolls-Binary o left right)) ∙ fold-roll-Expr Written written_here (form.Binary o left right)

pub written-Choose : (test first second : Expr)
    → written (expr.Choose test first second) ≡ written_here (form.Choose (written test) (written first) (written second))
written-Choose test first second =
    ap written (sym (expr.rolls-Choose test first second)) ∙ fold-roll-Expr Written written_here (form.Choose test first second)

pub written-Pair : (first second : Expr) → written (expr.Pair first second) ≡ written_here (form.Pair (written first) (written second))
written-Pair first second = ap written (sym (expr.rolls-Pair first second)) ∙ fold-roll-Expr Written written_here (form.Pair first second)

pub written-Call : (code : ℕ) (arguments : List Expr)
    → written (expr.Call code arguments) ≡ written_here (form.Call code (map written arguments))
written-Call code arguments =
    ap written (sym (expr.rolls-Call code arguments)) ∙ fold-roll-Expr Written written_here (form.Call code arguments)

others_written : (es : List Expr)
    → flat_map (λ other. Mark mark.Comma ∷ as_part other) (map written es)
    ≡ flat_map (λ other. Mark mark.Comma ∷ as_part (written other)) es
others_written [] = refl
others_written (e ∷ es) = ap (λ (rest : List Token). (Mark mark.Comma ∷ as_part (written e)) ++ rest) (others_written es)

-- the arguments of a call, by themselves
pub arguments_written : (es : List Expr) → with_commas as_part (map written es) ≡ with_commas (λ e. as_part (written e)) es
arguments_written [] = refl
arguments_written (e ∷ es) = ap (λ (rest : List Token). as_part (written e) ++ rest) (others_written es)

pub call_written : (code : ℕ) (arguments : List Expr)
    → written (expr.Call code arguments)
    ≡ primary (Name (builtin_name code) ∷ Mark mark.Open ∷ with_commas (λ e. as_part (written e)) arguments ++ Mark mark.Close ∷ [])
call_written code arguments =
    written-Call code arguments
    ∙ ap (λ (inside : List Token). primary (Name (builtin_name code) ∷ Mark mark.Open ∷ inside ++ Mark mark.Close ∷ []))
    (arguments_written arguments)

pub ruleset forms_written = (
  written-Null,
  written-Flag,
  written-Number,
  written-Text,
  written-Field,
  written-Param,
  written-Member,
  written-Selected,
  written-Stored,
  written-DomainLength,
  written-Not,
  written-Minus,
  written-Plus,
  written-Binary,
  written-Choose,
  written-Pair,
  call_written,
)
