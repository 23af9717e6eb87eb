-- How high each form is, by its parts.
use Rattle.std.proofs.Common.{◌≡◌, ℕ, suc, max, List, ℤ, Bool, sym, ap, ◌∙◌}
use Rattle.std.specs.Prelude.{map}
use Rattle.expr_syntax.specs.declared.expr.Expr.{Expr, fold-roll-Expr}
use Rattle.expr_syntax.specs.declared.expr.Expr.TheVariants as expr
use Rattle.expr_syntax.specs.declared.expr.Expr.TheOpen as form
use Rattle.expr_syntax.specs.declared.expr.BinOp.{BinOp}
use Rattle.expr_syntax.specs.Grammar.{height, height_here, list_max}

pub height-Null : height expr.Null ≡ 1
height-Null = ap height (sym expr.rolls-Null) ∙ fold-roll-Expr ℕ height_here form.Null

pub height-Flag : (b : Bool) → height (expr.Flag b) ≡ 1
height-Flag b = ap height (sym (expr.rolls-Flag b)) ∙ fold-roll-Expr ℕ height_here (form.Flag b)

pub height-Number : (m : ℤ) → height (expr.Number m) ≡ 1
height-Number m = ap height (sym (expr.rolls-Number m)) ∙ fold-roll-Expr ℕ height_here (form.Number m)

pub height-Text : (t : List ℕ) → height (expr.Text t) ≡ 1
height-Text t = ap height (sym (expr.rolls-Text t)) ∙ fold-roll-Expr ℕ height_here (form.Text t)

pub height-Field : (name : List ℕ) → height (expr.Field name) ≡ 1
height-Field name = ap height (sym (expr.rolls-Field name)) ∙ fold-roll-Expr ℕ height_here (form.Field name)

pub height-Param : (name : List ℕ) → height (expr.Param name) ≡ 1
height-Param name = ap height (sym (expr.rolls-Param name)) ∙ fold-roll-Expr ℕ height_here (form.Param name)

pub height-Member : (name field : List ℕ) → height (expr.Member name field) ≡ 1
height-Member name field = ap height (sym (expr.rolls-Member name field)) ∙ fold-roll-Expr ℕ height_here (form.Member name field)

pub height-Selected : (p : List ℕ) → height (expr.Selected p) ≡ 1
height-Selected p = ap height (sym (expr.rolls-Selected p)) ∙ fold-roll-Expr ℕ height_here (form.Selected p)

pub height-Stored : (p : List ℕ) → height (expr.Stored p) ≡ 1
height-Stored p = ap height (sym (expr.rolls-Stored p)) ∙ fold-roll-Expr ℕ height_here (form.Stored p)

pub height-DomainLength : (s : List ℕ) → height (expr.DomainLength s) ≡ 1
height-DomainLength s = ap height (sym (expr.rolls-DomainLength s)) ∙ fold-roll-Expr ℕ height_here (form.DomainLength s)

pub height-Not : (e : Expr) → height (expr.Not e) ≡ suc (height e)
height-Not e = ap height (sym (expr.rolls-Not e)) ∙ fold-roll-Expr ℕ height_here (form.Not e)

pub height-Minus : (e : Expr) → height (expr.Minus e) ≡ suc (height e)
height-Minus e = ap height (sym (expr.rolls-Minus e)) ∙ fold-roll-Expr ℕ height_here (form.Minus e)

pub height-Plus : (e : Expr) → height (expr.Plus e) ≡ suc (height e)
height-Plus e = ap height (sym (expr.rolls-Plus e)) ∙ fold-roll-Expr ℕ height_here (form.Plus e)

pub height-Binary : (o : BinOp) (left right : Expr) → height (expr.Binary o left right) ≡ suc (max (height left) (height right))
height-Binary o left right = ap height (sym (expr.rolls-Binary o left right)) ∙ fold-roll-Expr ℕ height_here (form.Binary o left right)

pub height-Choose : (test first second : Expr)
    → height (expr.Choose test first second) ≡ suc (max (height test) (max (height first) (height second)))
height-Choose test first second =
    ap height (sym (expr.rolls-Choose test first second)) ∙ fold-roll-Expr ℕ height_here (form.Choose test first second)

pub height-Pair : (first second : Expr) → height (expr.Pair first second) ≡ suc (max (height first) (height second))
height-Pair first second = ap height (sym (expr.rolls-Pair first second)) ∙ fold-roll-Expr ℕ height_here (form.Pair first second)

pub height-Call : (code : ℕ) (arguments : List Expr) → height (expr.Call code arguments) ≡ suc (list_max (map height arguments))
height-Call code arguments = ap height (sym (expr.rolls-Call code arguments)) ∙ fold-roll-Expr ℕ height_here (form.Call code arguments)

pub ruleset heights = (
  height-Null,
  height-Flag,
  height-Number,
  height-Text,
  height-Field,
  height-Param,
  height-Member,
  height-Selected,
  height-Stored,
  height-DomainLength,
  height-Not,
  height-Minus,
  height-Plus,
  height-Binary,
  height-Choose,
  height-Pair,
  height-Call,
)
