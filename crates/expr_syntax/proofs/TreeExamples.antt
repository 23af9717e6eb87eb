-- Heights, texts and names of a few trees, worked out.
use Rattle.std.proofs.Common.{◌≡◌, ℕ, List, [], ◌∷◌, ◌++◌, pos, refl, ap, sym, ◌∙◌}
use Rattle.std.specs.Prelude.{codes, map, flat_map}
use Rattle.expr_syntax.specs.declared.expr.Expr.{Expr, fold-roll-Expr}
use Rattle.expr_syntax.specs.declared.expr.Expr.TheVariants as expr
use Rattle.expr_syntax.specs.declared.expr.Expr.TheOpen as form
use Rattle.expr_syntax.specs.declared.expr.BinOp.{BinOp}
use Rattle.expr_syntax.specs.declared.expr.BinOp.TheVariants.{Less}
use Rattle.expr_syntax.specs.Grammar.{height}
use Rattle.expr_syntax.specs.Writing.{text_of}
use Rattle.expr_syntax.specs.Names.{names_here, names_in}
use Rattle.expr_syntax.proofs.Heights.{height-Minus, height-Number, height-Call, height-Param}
use Rattle.expr_syntax.proofs.Folded.{written-Not, written-Param, written-Pair}

two_signs : height (expr.Minus (expr.Minus (expr.Number (pos 1000000)))) ≡ 3
two_signs =
    rw (height-Minus (expr.Minus (expr.Number (pos 1000000))), height-Minus (expr.Number (pos 1000000)), height-Number (pos 1000000)) refl

a_call : height (expr.Call 7 (expr.Param (codes "x") ∷ [])) ≡ 2
a_call = rw (height-Call 7 (expr.Param (codes "x") ∷ []), height-Param (codes "x")) refl

brackets_round_a_part : text_of (expr.Pair (expr.Not (expr.Param (codes "a"))) (expr.Param (codes "b"))) ≡ codes "[(!a), b]"
brackets_round_a_part =
    rw (
      written-Pair (expr.Not (expr.Param (codes "a"))) (expr.Param (codes "b")),
      written-Not (expr.Param (codes "a")),
      written-Param (codes "a"),
      written-Param (codes "b"),
    ) refl

names-Param : (name : List ℕ) → names_in (expr.Param name) ≡ name ∷ []
names-Param name = ap names_in (sym (expr.rolls-Param name)) ∙ fold-roll-Expr (List (List ℕ)) names_here (form.Param name)

names-Member : (name field : List ℕ) → names_in (expr.Member name field) ≡ name ∷ []
names-Member name field =
    ap names_in (sym (expr.rolls-Member name field)) ∙ fold-roll-Expr (List (List ℕ)) names_here (form.Member name field)

names-Binary : (o : BinOp) (left right : Expr) → names_in (expr.Binary o left right) ≡ names_in left ++ names_in right
names-Binary o left right =
    ap names_in (sym (expr.rolls-Binary o left right)) ∙ fold-roll-Expr (List (List ℕ)) names_here (form.Binary o left right)

names-Call : (code : ℕ) (args : List Expr) → names_in (expr.Call code args) ≡ flat_map (λ arg. arg) (map names_in args)
names-Call code args =
    ap names_in (sym (expr.rolls-Call code args)) ∙ fold-roll-Expr (List (List ℕ)) names_here (form.Call code args)

names_in_the_order_of_the_text :
    names_in (expr.Binary Less (expr.Member (codes "brush") (codes "x")) (expr.Call 7 (expr.Param (codes "a") ∷ [])))
    ≡ codes "brush" ∷ codes "a" ∷ []
names_in_the_order_of_the_text =
    let test : Expr = expr.Member (codes "brush") (codes "x") in
    let args : List Expr = expr.Param (codes "a") ∷ [] in
    rw (names-Binary Less test (expr.Call 7 args), names-Member (codes "brush") (codes "x"), names-Call 7 args, names-Param (codes "a"))
    refl
