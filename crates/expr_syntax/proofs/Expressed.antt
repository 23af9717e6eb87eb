-- There is one right way to read expressions in which no length of a domain stands.
use Rattle.std.proofs.Common.{◌≡◌, ℕ, Bool, true, false, List, Option, Some, None, if◌then◌else◌, refl, sym, ap, subst, ◌∙◌, inl, inr}
use Rattle.std.proofs.lemmas.Bool.{cond-false}
use Rattle.expr_syntax.specs.declared.expr.Expr.{Expr}
use Rattle.expr_syntax.specs.Grammar.{HasReading}
use Rattle.expr_syntax.specs.Expressions.{has_domain_length, IsExpression, ReadsExpressions}
use Rattle.expr_syntax.specs.inner.Expression.{without_domain}
use Rattle.expr_syntax.proofs.Decided.{Decided, decided}
use Rattle.expr_syntax.proofs.Readings.{one_tree}

-- the expression that a text is found to be
abbrev kept : {text : List ℕ} → Decided text → Option Expr
kept (inl h) = without_domain h.0
kept (inr never) = None

-- the expression that a text is, if no length of a domain stands in it
pub expression_read : List ℕ → Option Expr
expression_read text = kept (decided text)

-- ---- what is read is an expression

without_sound : (text : List ℕ) (d e : Expr) (b : Bool) → HasReading text d → has_domain_length d ≡ b
    → (if b then None else Some d) ≡ Some e
    → IsExpression text e
without_sound text d e true r has k = absurd cc
without_sound text d e false r has k =
    let same : d ≡ e = cc in
    let at : Expr → Type 0 = λ x. IsExpression text x in
    subst at same (record { reads = r; no_domain = has })

kept_sound : (text : List ℕ) (d : Decided text) (e : Expr) → kept d ≡ Some e → IsExpression text e
kept_sound text (inl h) e k = without_sound text h.0 e (has_domain_length h.0) h.1 refl k
kept_sound text (inr never) e k = absurd cc

-- ---- an expression is read

kept_is : (text : List ℕ) (d : Decided text) (e : Expr) → HasReading text e → kept d ≡ without_domain e
kept_is text (inl h) e r = ap without_domain (one_tree text h.0 e h.1 r)
kept_is text (inr never) e r = absurd (never e r)

kept_none : (text : List ℕ) (d : Decided text) → ((e : Expr) → HasReading text e → ⊥) → kept d ≡ None
kept_none text (inl h) unread = absurd (unread h.0 h.1)
kept_none text (inr never) unread = refl

-- a text that reads as a tree is that tree, where no length of a domain stands in it
pub read_is : (text : List ℕ) (e : Expr) → HasReading text e → expression_read text ≡ without_domain e
unfolding expression_read
read_is text e r = kept_is text (decided text) e r

-- a text that reads as no tree is no expression
pub unread_is : (text : List ℕ) → ((e : Expr) → HasReading text e → ⊥) → expression_read text ≡ None
unfolding expression_read
unread_is text unread = kept_none text (decided text) unread

reads_sound : (text : List ℕ) (e : Expr) → expression_read text ≡ Some e → IsExpression text e
unfolding expression_read
reads_sound text e k = kept_sound text (decided text) e k

reads_complete : (text : List ℕ) (e : Expr) → IsExpression text e → expression_read text ≡ Some e
reads_complete text e is = read_is text e is.reads ∙ cond-false (has_domain_length e) None (Some e) is.no_domain

pub reads_rightly : ReadsExpressions expression_read
reads_rightly = record { sound = reads_sound; complete = reads_complete }

-- ---- there is one right way

module _ (f g : List ℕ → Option Expr) (p : ReadsExpressions f) (q : ReadsExpressions g) where
  same_at : (text : List ℕ) (a b : Option Expr) → f text ≡ a → g text ≡ b → a ≡ b
  same_at text (Some e) b one other = sym (q.complete text e (p.sound text e one)) ∙ other
  same_at text None (Some e) one other = sym one ∙ p.complete text e (q.sound text e other)
  same_at text None None one other = refl

  pub same_readers : f ≡ g
  same_readers = λ i text. same_at text (f text) (g text) refl refl i
