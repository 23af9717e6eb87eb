use Rattle.std.proofs.Common.{◌≡◌, ◌++◌, [], take, sym, ap, ◌∙◌, ne_eqb, arith, rules}
use Rattle.std.proofs.lemmas.List.{append-nil}
use Rattle.fixed_num.specs.Decimal.{fraction_spelling, fraction_digits}
use Rattle.fixed_num.proofs.SpellingLemmas.{FirstPlace, FirstPlace-at, fraction_digits_none, one_more}
use Rattle.fixed_num.proofs.decimal.put_fraction.Goals as goal

pub returns-then-fraction-eq0-clause-written : goal.returns-then-fraction-eq0-clause-written
unfolding fraction_spelling
returns-then-fraction-eq0-clause-written c = rw c.if-fraction-eq0.true (sym (append-nil _))

first_place : (c : goal.After-pow-place) → FirstPlace c.loop-rest.places c.loop-rest.rest c.pow-place.result
first_place c = FirstPlace-at _ _ _ (omega arith) c.loop-rest.invariant.below c.pow-place.ensures

pub nonzero_div-buf : goal.nonzero_div-buf
nonzero_div-buf c = (first_place c).above_zero

pub overflow_cast-buf : goal.overflow_cast-buf
overflow_cast-buf c = let first = first_place c in search rules

pub overflow_add-buf : goal.overflow_add-buf
overflow_add-buf c = let first = first_place c in search rules

pub nonzero_rem-rest : goal.nonzero_rem-rest
nonzero_rem-rest c =
    (FirstPlace-at _ _ _ (omega arith) c.loop-rest.invariant.below c.pow-place.ensures).above_zero

pub loop-rest-preserved : goal.loop-rest-preserved
loop-rest-preserved c =
    let first = FirstPlace-at _ _ _ (omega arith) c.loop-rest.invariant.below c.pow-place.ensures in
    record {
      room = omega (arith, first.some);
      below = first.low;
      written = one_more c.loop-rest.buf c.loop-rest.end _ _ _ (omega arith) c.loop-rest.invariant.written _ first.split;
      six = omega arith;
    }

pub returns-clause-written : goal.returns-clause-written
unfolding fraction_spelling
returns-clause-written c =
    let none : fraction_digits c.loop-rest.places c.loop-rest.rest ≡ [] =
    ap (fraction_digits c.loop-rest.places) (omega arith) ∙ fraction_digits_none c.loop-rest.places in
    let text = sym (append-nil (take c.loop-rest.end c.loop-rest.buf)) ∙ ap (λ x. take c.loop-rest.end c.loop-rest.buf ++ x) (sym none)
    ∙ c.loop-rest.invariant.written in
    rw (ne_eqb c.args.fraction 0 (λ e. absurd (omega arith))) text
