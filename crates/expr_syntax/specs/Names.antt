-- The names of parameters that an expression mentions.
use Rattle.std.specs.Prelude.{◌≡◌, ℕ, List, [], ◌∷◌, ◌++◌, codes, flat_map, refl}
use Rattle.expr_syntax.specs.declared.expr.Expr.{Expr, Expr-F, fold-Expr}
use Rattle.expr_syntax.specs.declared.expr.Expr.TheOpen as form
use Rattle.expr_syntax.specs.declared.expr.BinOp.TheVariants.{Less}

-- the names in a form, from those in its parts: of parameters, and of the selections that it tests or counts
abbrev pub names_here : Expr-F (List (List ℕ)) → List (List ℕ)
names_here form.Null = []
names_here (form.Flag b) = []
names_here (form.Number n) = []
names_here (form.Text t) = []
names_here (form.Field name) = []
names_here (form.Param name) = name ∷ []
names_here (form.Member name field) = name ∷ []
names_here (form.Not a) = a
names_here (form.Minus a) = a
names_here (form.Plus a) = a
names_here (form.Binary op a b) = a ++ b
names_here (form.Choose test first second) = test ++ first ++ second
names_here (form.Pair a b) = a ++ b
names_here (form.Call code args) = flat_map (λ arg. arg) args
names_here (form.Selected selection) = selection ∷ []
names_here (form.Stored selection) = selection ∷ []
names_here (form.DomainLength scale) = []

-- the names in an expression, in the order of its text, each as often as it stands there
abbrev pub names_in : Expr → List (List ℕ)
names_in = fold-Expr (List (List ℕ)) names_here

-- ---- examples

a_row_of_operands : names_here (form.Binary Less (codes "a" ∷ codes "b" ∷ []) (codes "a" ∷ [])) ≡ codes "a" ∷ codes "b" ∷ codes "a" ∷ []
a_row_of_operands = refl

arguments_in_order : names_here (form.Call 7 ([] ∷ (codes "b" ∷ []) ∷ (codes "a" ∷ []) ∷ [])) ≡ codes "b" ∷ codes "a" ∷ []
arguments_in_order = refl

a_member_names_its_parameter : names_here (form.Member (codes "brush") (codes "x")) ≡ codes "brush" ∷ []
a_member_names_its_parameter = refl

a_selection_is_named : names_here (form.Stored (codes "brush")) ≡ codes "brush" ∷ []
a_selection_is_named = refl

neither_fields_nor_scales : (names_here (form.Field (codes "a")) ≡ []) × (names_here (form.DomainLength (codes "x")) ≡ [])
neither_fields_nor_scales = (refl, refl)
