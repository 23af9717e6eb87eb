-- The expression of the width of bars is what its text reads as.
use Rattle.std.proofs.Common.{◌≡◌, ℕ, ◌≤◌, List, [], ◌∷◌, pos, refl, ap, sym, ◌∙◌, arith}
use Rattle.std.specs.Prelude.{ℤ, true, codes, Some, map, ◌≤ℤ◌}
use Rattle.std.proofs.lemmas.Int.{ints}
use Rattle.std.specs.Fmt.{digits}
use Rattle.fixed_num.specs.Decimal.{spelling, size_spelling, fraction_spelling, fraction_digits}
use Rattle.expr_syntax.specs.declared.expr.Expr.{Expr, Expr-F, fold-Expr, fold-roll-Expr}
use Rattle.expr_syntax.specs.declared.expr.Expr.TheVariants as expr
use Rattle.expr_syntax.specs.declared.expr.Expr.TheOpen as form
use Rattle.expr_syntax.specs.declared.expr.BinOp.{BinOp}
use Rattle.expr_syntax.specs.declared.expr.BinOp.TheVariants as op
use Rattle.expr_syntax.specs.Grammar.{IsAt, AreArguments, HasReading, number, call, binary, domain_length, tighter, last, more, height}
use Rattle.expr_syntax.specs.TokenText.{AreWritten, text_of_tokens}
use Rattle.expr_syntax.specs.Tokens.{IsName}
use Rattle.fixed_num.specs.Number.{IsNumber}
use Rattle.expr_syntax.specs.Writing.{Written, written_here, as_part, with_commas, text_of}
use Rattle.expr_syntax.specs.Expressions.{has_domain_length, has_domain_here}
use Rattle.expr_syntax.proofs.Heights.{height-Binary, height-Number, height-Call, height-DomainLength}
use Rattle.expr_syntax.proofs.WrittenTokens.{written_has}
use Rattle.expr_syntax.proofs.Rewritten.{rewritten_whole}
use Rattle.expr_reading.specs.Readings.{expression_of}
use Rattle.expr_reading.specs.Mentions.{parameters_in, selections_in, scales_in}
use Rattle.expr_reading.proofs.ReadingLemmas.{expression_is}
use Rattle.compiled_bars.specs.Bars.{space, width}

-- ---- the tokens

-- a primary may stand anywhere
loosest : {nesting : ℕ} {tokens : _} {e : Expr} → IsAt nesting 2 tokens e → IsAt nesting 8 tokens e
loosest a = tighter _ 7 _ _ (tighter _ 6 _ _ (tighter _ 5 _ _ (tighter _ 4 _ _ (tighter _ 3 _ _ (tighter _ 2 _ _ a)))))

second : {nesting : ℕ} {tokens : _} {e : Expr} → IsAt nesting 0 tokens e → IsAt nesting 2 tokens e
second a = tighter _ 1 _ _ (tighter _ 0 _ _ a)

-- the tokens of a number, of the scale's length, and of what is made of them
abbrev of_number : ℕ → Written
of_number n = written_here (form.Number (pos n))

abbrev of_length : Written
of_length = written_here (form.DomainLength (codes "x"))

abbrev of_space : Written
of_space = written_here (form.Call 18 (of_length ∷ of_number 100000 ∷ of_number 50000 ∷ []))

abbrev of_width : Written
of_width = written_here (form.Binary op.Mul (of_number 20000000) of_space)

arguments_are : AreArguments 255 (with_commas as_part (of_length ∷ of_number 100000 ∷ of_number 50000 ∷ []))
    (expr.DomainLength (codes "x") ∷ expr.Number (pos 100000) ∷ expr.Number (pos 50000) ∷ [])
arguments_are =
    more 255 _ _ _ _ (loosest (second (domain_length 255 (codes "x"))))
    (more 255 _ _ _ _ (loosest (second (number 255 (pos 100000))))
    (last 255 _ _ (loosest (second (number 255 (pos 50000))))))

space_is : IsAt 256 1 of_space.tokens space
space_is = tighter 256 0 _ _ (call 255 (codes "bandspace") 18 _ _ refl refl arguments_are)

width_is : IsAt 256 8 of_width.tokens width
width_is = loosest (binary 256 op.Mul 1 _ _ _ _ refl (second (number 256 (pos 20000000))) space_is)

low : height width ≤ 256
low =
    let is : height width ≡ 3 = rw (
      height-Binary op.Mul (expr.Number (pos 20000000)) space,
      height-Number (pos 20000000),
      height-Call 18 (expr.DomainLength (codes "x") ∷ expr.Number (pos 100000) ∷ expr.Number (pos 50000) ∷ []),
      height-DomainLength (codes "x"),
      height-Number (pos 100000),
      height-Number (pos 50000),
    ) refl in
    omega arith

in_range : (n : ℕ) → n ≤ 20000000 → IsNumber (pos n) × (pos 0 ≤ℤ pos n)
in_range n small = ((omega (arith, ints), omega (arith, ints)), omega (arith, ints))

bandspace_is_a_name : IsName (codes "bandspace")
bandspace_is_a_name = (refl, (refl, (refl, (refl, (refl, (refl, (refl, (refl, (refl, tt)))))))))

domain_is_a_name : IsName (codes "domain")
domain_is_a_name = (refl, (refl, (refl, (refl, (refl, (refl, tt))))))

length_is_a_name : IsName (codes "length")
length_is_a_name = (refl, (refl, (refl, (refl, (refl, (refl, tt))))))

are_written : AreWritten of_width.tokens
are_written = (
  in_range 20000000 (omega arith),
  (
    tt,
    (
      bandspace_is_a_name,
      (
        tt,
        (
          domain_is_a_name,
          (
            tt,
            (
              tt,
              (
                tt,
                (
                  tt,
                  (
                    length_is_a_name,
                    (
                      tt,
                      (in_range 100000 (omega arith), (tt, (in_range 50000 (omega arith), (tt, tt)))),
                    ),
                  ),
                ),
              ),
            ),
          ),
        ),
      ),
    ),
  ),
)

has_reading : HasReading (text_of_tokens of_width.tokens) width
has_reading = record { tokens = of_width.tokens; spelled = written_has of_width.tokens are_written; is = width_is; low = low }

-- the width is what its text reads as
pub width_is_read : expression_of (text_of width) ≡ Some width
width_is_read = (expression_is (text_of width) width).1 (rewritten_whole (text_of_tokens of_width.tokens) width has_reading)

-- ---- what it mentions

-- what a fold gives of it, from what it gives of its parts
module _ {A : Type 0} (here : Expr-F A → A) where
  of_leaf_number : (n : ℤ) → fold-Expr A here (expr.Number n) ≡ here (form.Number n)
  of_leaf_number n = ap (fold-Expr A here) (sym (expr.rolls-Number n)) ∙ fold-roll-Expr A here (form.Number n)

  of_leaf_length : (s : List ℕ) → fold-Expr A here (expr.DomainLength s) ≡ here (form.DomainLength s)
  of_leaf_length s = ap (fold-Expr A here) (sym (expr.rolls-DomainLength s)) ∙ fold-roll-Expr A here (form.DomainLength s)

  of_call : (code : ℕ) (args : List Expr) → fold-Expr A here (expr.Call code args) ≡ here (form.Call code (map (fold-Expr A here) args))
  of_call code args = ap (fold-Expr A here) (sym (expr.rolls-Call code args)) ∙ fold-roll-Expr A here (form.Call code args)

  of_binary : (o : BinOp) (a b : Expr)
      → fold-Expr A here (expr.Binary o a b) ≡ here (form.Binary o (fold-Expr A here a) (fold-Expr A here b))
  of_binary o a b = ap (fold-Expr A here) (sym (expr.rolls-Binary o a b)) ∙ fold-roll-Expr A here (form.Binary o a b)

  folded : fold-Expr A here width ≡ here (form.Binary op.Mul (here (form.Number (pos 20000000)))
      (here (form.Call 18 (here (form.DomainLength (codes "x")) ∷ here (form.Number (pos 100000)) ∷ here (form.Number (pos 50000)) ∷ []))))
  folded =
      of_binary op.Mul (expr.Number (pos 20000000)) space
      ∙ ap (λ a. here (form.Binary op.Mul a (fold-Expr A here space))) (of_leaf_number (pos 20000000))
      ∙ ap (λ b. here (form.Binary op.Mul (here (form.Number (pos 20000000))) b))
      (of_call 18 (expr.DomainLength (codes "x") ∷ expr.Number (pos 100000) ∷ expr.Number (pos 50000) ∷ [])
      ∙ ap (λ a. here (form.Call 18 (a ∷ fold-Expr A here (expr.Number (pos 100000)) ∷ fold-Expr A here (expr.Number (pos 50000)) ∷ [])))
      (of_leaf_length (codes "x"))
      ∙ ap (λ a. here (form.Call 18 (here (form.DomainLength (codes "x")) ∷ a ∷ fold-Expr A here (expr.Number (pos 50000)) ∷ [])))
      (of_leaf_number (pos 100000))
      ∙ ap (λ a. here (form.Call 18 (here (form.DomainLength (codes "x")) ∷ here (form.Number (pos 100000)) ∷ a ∷ [])))
      (of_leaf_number (pos 50000)))

pub long : has_domain_length width ≡ true
long = folded has_domain_here

pub mentions_parameters : parameters_in width ≡ []
mentions_parameters = folded _

pub mentions_selections : selections_in width ≡ []
mentions_selections = folded _

pub mentions_scales : scales_in width ≡ codes "x" ∷ []
mentions_scales = folded _

-- ---- its text

-- the width as it is written
pub width_text : text_of width ≡ codes "20 * bandspace(domain('x').length, 0.1, 0.05)"
unfolding spelling size_spelling fraction_spelling fraction_digits digits
width_text = ap (λ (w : Written). text_of_tokens w.tokens) (folded written_here)
