-- The forms without parts.
use Rattle.std.proofs.Common.{◌≡◌, ℕ, suc, ◌≤◌, List, [], ◌∷◌, ◌++◌, drop, Ok, arith}
use Rattle.std.specs.Prelude.{codes}
use Rattle.expr_syntax.specs.declared.expr.Expr.{Expr}
use Rattle.expr_syntax.specs.declared.expr.Expr.TheVariants as expr
use Rattle.expr_syntax.specs.declared.token.Token.{Token}
use Rattle.expr_syntax.specs.declared.token.Token.TheVariants.{Name, Quoted, Mark}
use Rattle.expr_syntax.specs.declared.token.Mark.TheVariants as mark
use Rattle.expr_syntax.specs.Grammar.{IsAt, height, store_of, selected, stored, domain_length, field, quoted_field}
use Rattle.expr_syntax.specs.inner.Parser.{starts, after, quoted_at, name_at, after_word, before_store, selected_at, stored_at}
use Rattle.expr_syntax.specs.inner.Parser.{domain_length_at, field_at}
use Rattle.expr_syntax.proofs.Heights.{height-Selected, height-Stored, height-DomainLength, height-Field}
use Rattle.expr_syntax.proofs.Grounds.{starts_true, after_sound, after_word_sound, quoted_sound, name_sound, before_store_sound}
use Rattle.expr_syntax.proofs.Taken.{step, test, Takes, Takes-at}

-- the tokens are the tree, which is no higher than the limit
abbrev pub At : ℕ → ℕ → ℕ → Expr → List Token → Type 0
At nesting limit level e front = IsAt nesting level front e × (height e ≤ limit)

-- the same behind some tokens that were read before
abbrev pub Behind : ℕ → ℕ → List Token → Expr → List Token → Type 0
Behind nesting limit before e front = At nesting (suc limit) 0 e (before ++ front)

pub selected_sound : (nesting limit : ℕ) (tokens : List Token) (x : Expr × List Token) → selected_at tokens ≡ Ok x
    → Takes (Behind nesting limit (Name (codes "vlSelectionTest") ∷ Mark mark.Open ∷ [])) tokens x
unfolding selected_at
selected_sound nesting limit tokens x e =
    step (quoted_at tokens) _ x e λ text r1 e1.
    step (after mark.Comma text.1) _ x e1 λ a r2 e2.
    step (after_word (codes "datum") a) _ x e2 λ b r3 e3.
    step (after mark.Close b) _ x e3 λ rest r4 e4.
    step (before_store text.0) _ x e4 λ p r5 e5.
    Takes-at (Behind nesting limit (Name (codes "vlSelectionTest") ∷ Mark mark.Open ∷ [])) tokens (expr.Selected p, rest) x e5 (record {
      front = Quoted (store_of p) ∷ Mark mark.Comma ∷ Name (codes "datum") ∷ Mark mark.Close ∷ [];
      parts =
          cc (
            quoted_sound tokens text r1,
            after_sound _ _ _ r2,
            after_word_sound _ _ _ r3,
            after_sound _ _ _ r4,
            before_store_sound _ _ r5,
          );
      is = (selected nesting p, rw (height-Selected p) (omega arith));
    })

pub stored_sound : (nesting limit : ℕ) (tokens : List Token) (x : Expr × List Token) → stored_at tokens ≡ Ok x
    → Takes (Behind nesting limit (Name (codes "length") ∷ Mark mark.Open ∷ Name (codes "data") ∷ Mark mark.Open ∷ [])) tokens x
unfolding stored_at
stored_sound nesting limit tokens x e =
    step (quoted_at tokens) _ x e λ text r1 e1.
    step (after mark.Close text.1) _ x e1 λ a r2 e2.
    step (after mark.Close a) _ x e2 λ rest r3 e3.
    step (before_store text.0) _ x e3 λ p r4 e4.
    Takes-at (Behind nesting limit (Name (codes "length") ∷ Mark mark.Open ∷ Name (codes "data") ∷ Mark mark.Open ∷ [])) tokens
    (expr.Stored p, rest) x e4 (record {
      front = Quoted (store_of p) ∷ Mark mark.Close ∷ Mark mark.Close ∷ [];
      parts = cc (quoted_sound tokens text r1, after_sound _ _ _ r2, after_sound _ _ _ r3, before_store_sound _ _ r4);
      is = (stored nesting p, rw (height-Stored p) (omega arith));
    })

pub domain_length_sound : (nesting limit : ℕ) (tokens : List Token) (x : Expr × List Token) → domain_length_at tokens ≡ Ok x
    → Takes (Behind nesting limit (Name (codes "domain") ∷ Mark mark.Open ∷ [])) tokens x
unfolding domain_length_at
domain_length_sound nesting limit tokens x e =
    step (quoted_at tokens) _ x e λ text r1 e1.
    step (after mark.Close text.1) _ x e1 λ a r2 e2.
    step (after mark.Point a) _ x e2 λ b r3 e3.
    step (after_word (codes "length") b) _ x e3 λ rest r4 e4.
    Takes-at (Behind nesting limit (Name (codes "domain") ∷ Mark mark.Open ∷ [])) tokens (expr.DomainLength text.0, rest) x e4 (record {
      front = Quoted text.0 ∷ Mark mark.Close ∷ Mark mark.Point ∷ Name (codes "length") ∷ [];
      parts = cc (quoted_sound tokens text r1, after_sound _ _ _ r2, after_sound _ _ _ r3, after_word_sound _ _ _ r4);
      is = (domain_length nesting text.0, rw (height-DomainLength text.0) (omega arith));
    })

pub field_sound : (nesting limit : ℕ) (tokens : List Token) (x : Expr × List Token) → field_at tokens ≡ Ok x
    → Takes (Behind nesting limit (Name (codes "datum") ∷ [])) tokens x
unfolding field_at
field_sound nesting limit tokens x e =
    test (starts mark.Point tokens) _ _ x e
    (λ s e1.
    step (name_at (drop 1 tokens)) _ x e1 λ name r1 e2.
    Takes-at (Behind nesting limit (Name (codes "datum") ∷ [])) tokens (expr.Field name.0, name.1) x e2 (record {
      front = Mark mark.Point ∷ Name name.0 ∷ [];
      parts = cc (starts_true _ _ s, name_sound _ _ r1);
      is = (field nesting name.0, rw (height-Field name.0) (omega arith));
    }))
    (λ s e1.
    step (after mark.OpenSquare tokens) _ x e1 λ a r1 e2.
    step (quoted_at a) _ x e2 λ name r2 e3.
    step (after mark.CloseSquare name.1) _ x e3 λ rest r3 e4.
    Takes-at (Behind nesting limit (Name (codes "datum") ∷ [])) tokens (expr.Field name.0, rest) x e4 (record {
      front = Mark mark.OpenSquare ∷ Quoted name.0 ∷ Mark mark.CloseSquare ∷ [];
      parts = cc (after_sound _ _ _ r1, quoted_sound _ _ r2, after_sound _ _ _ r3);
      is = (quoted_field nesting name.0, rw (height-Field name.0) (omega arith));
    }))
