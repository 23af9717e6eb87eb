-- The names that an expression mentions: of parameters, of selections, and of scales.
use Rattle.std.specs.Prelude.{◌≡◌, ℕ, List, [], ◌∷◌, ◌++◌, codes, flat_map, refl}
use Rattle.expr_syntax.specs.declared.expr.Expr.{Expr, Expr-F, fold-Expr}
use Rattle.expr_syntax.specs.declared.expr.Expr.TheOpen as form
use Rattle.expr_syntax.specs.declared.expr.BinOp.TheVariants.{Less}
use Rattle.expr_reading.specs.declared.mentions.NameKind.{NameKind}
use Rattle.expr_reading.specs.declared.mentions.NameKind.TheVariants.{Parameter, Selection, Scale}

-- a name of a kind, where names of the first kind are wanted
abbrev pub named_as : NameKind → NameKind → List ℕ → List (List ℕ)
named_as Parameter Parameter name = name ∷ []
named_as Parameter Selection name = []
named_as Parameter Scale name = []
named_as Selection Parameter name = []
named_as Selection Selection name = name ∷ []
named_as Selection Scale name = []
named_as Scale Parameter name = []
named_as Scale Selection name = []
named_as Scale Scale name = name ∷ []

-- the names of a kind in a form, from those in its parts: parameters stand by themselves or with a member, selections where they are
-- tested or counted, and scales where their domain is counted
abbrev pub mentioned_here : NameKind → Expr-F (List (List ℕ)) → List (List ℕ)
mentioned_here kind form.Null = []
mentioned_here kind (form.Flag b) = []
mentioned_here kind (form.Number n) = []
mentioned_here kind (form.Text t) = []
mentioned_here kind (form.Field name) = []
mentioned_here kind (form.Param name) = named_as kind Parameter name
mentioned_here kind (form.Member name field) = named_as kind Parameter name
mentioned_here kind (form.Not a) = a
mentioned_here kind (form.Minus a) = a
mentioned_here kind (form.Plus a) = a
mentioned_here kind (form.Binary op a b) = a ++ b
mentioned_here kind (form.Choose test first second) = test ++ first ++ second
mentioned_here kind (form.Pair a b) = a ++ b
mentioned_here kind (form.Call code args) = flat_map (λ arg. arg) args
mentioned_here kind (form.Selected selection) = named_as kind Selection selection
mentioned_here kind (form.Stored selection) = named_as kind Selection selection
mentioned_here kind (form.DomainLength scale) = named_as kind Scale scale

-- the names of a kind in an expression, in the order of its text, each as often as it stands there
abbrev pub mentioned_in : NameKind → Expr → List (List ℕ)
mentioned_in kind = fold-Expr (List (List ℕ)) (mentioned_here kind)

abbrev pub parameters_in : Expr → List (List ℕ)
parameters_in = mentioned_in Parameter

abbrev pub selections_in : Expr → List (List ℕ)
selections_in = mentioned_in Selection

abbrev pub scales_in : Expr → List (List ℕ)
scales_in = mentioned_in Scale

-- The rule at work.

operands_in_order : mentioned_here Scale (form.Binary Less (codes "a" ∷ codes "b" ∷ []) (codes "a" ∷ []))
    ≡ codes "a" ∷ codes "b" ∷ codes "a" ∷ []
operands_in_order = refl

a_member_names_its_parameter : mentioned_here Parameter (form.Member (codes "brush") (codes "x")) ≡ codes "brush" ∷ []
a_member_names_its_parameter = refl

a_store_names_a_selection : mentioned_here Selection (form.Stored (codes "p")) ≡ codes "p" ∷ []
a_store_names_a_selection = refl

a_store_names_no_parameter : mentioned_here Parameter (form.Stored (codes "p")) ≡ []
a_store_names_no_parameter = refl

a_domain_names_a_scale : mentioned_here Scale (form.DomainLength (codes "x")) ≡ codes "x" ∷ []
a_domain_names_a_scale = refl
