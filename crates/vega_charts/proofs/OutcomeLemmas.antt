-- Why what is answered is what comes of drawing.
use Rattle.std.proofs.Common.{◌≡◌, ℕ, ◌-◌, ◌^◌, min, nat_lt, false, true, cond, is_some, List, [], Option, Some, None, Result, Ok, Err}
use Rattle.std.proofs.Common.{refl, sym, ap, ◌∙◌, subst, arith}
use Rattle.std.proofs.lemmas.Bool.Decides.{nat_tests}
use Rattle.std.proofs.lemmas.Option.{same_Some}
use Rattle.std.specs.Option.{option_map}
use Rattle.cell_value.specs.State.{Dataset}
use Rattle.cell_value.specs.declared.state.Named.{Named}
use Rattle.expr_eval.specs.Answers.{Evaluates}
use Rattle.expr_eval.specs.Values.{Values}
use Rattle.expr_eval.specs.declared.error.EvalError.{EvalError}
use Rattle.expr_eval.specs.declared.error.EvalError.TheVariants.{Overflow, Memory}
use Rattle.scene_tree.specs.Outcome.{Outcome, Panels, ◌>>=◌, in_reach}
use Rattle.vega_charts.specs.declared.charts.DrawError.{DrawError}
use Rattle.vega_lists.specs.Held.{scope_read}
use Rattle.vega_lists.specs.Inside.{no_rows}
use Rattle.vega_signals.specs.Settling.{Valued}
use Rattle.vega_spec.specs.declared.spec.VgSpec.{VgSpec}
use Rattle.vega_charts.specs.Answers.{Comes}
use Rattle.vega_charts.specs.Charts.{drawn_from, drawing_of}
use Rattle.vega_charts.specs.Panels.{most_panels, with_panels}
use Rattle.vega_copies.specs.Outlines.{Object}
use Rattle.vega_copies.specs.Scopes.{Names, names_with, settled_in, names_at_top}
use Rattle.vega_copies.specs.inner.Levels.{parts_over}
use Rattle.vega_charts.specs.inner.Outcomes.{stopped, answered, with_counted, drawn_within}
use Rattle.vega_charts.specs.inner.Topped.{top_of}
use Rattle.vega_charts.proofs.TopLemmas.{outline_is}

pub comes : {X : Type 0} (o : Option X) (r : Result X EvalError) → Evaluates r o → Comes (in_reach o) (answered r)
comes o (Ok x) is = ap in_reach is
comes o (Err Overflow) is = ap in_reach is
comes o (Err Memory) is = tt

-- what is out of range stops all
pub not_named : {N X : Type 0} (e : EvalError) (o : Option N) (f : N → Outcome X) → Evaluates {X = N} (Err e) o → Comes (in_reach o >>= f) (Err (stopped e))
not_named Overflow o f none = ap (λ n. in_reach n >>= f) none
not_named Memory o f none = tt

pub named : {N X : Type 0} (r : Result X DrawError) (o : Option N) (f : N → Outcome X) (n : N) → o ≡ Some n → Comes (f n) r → Comes (in_reach o >>= f) r
named r o f n is h = subst (λ o. Comes (in_reach o >>= f) r) (sym is) h

-- ---- the count of plots in facets

pub is_counted : (found : Option ℕ) (n : ℕ) → option_map (λ n. min n (2 ^ 64 - 1)) found ≡ Some n → is_some found ≡ true
is_counted None n e = absurd (cc)
is_counted (Some k) n e = refl

-- where plots can be counted, nothing that is made of them is out of range
pub none_stopped : {X : Type 0} (found : Option ℕ) (e : EvalError) → is_some found ≡ true → Evaluates {X = ℕ} (Err e) found
    → (o : Option X) → Evaluates {X = X} (Err e) o
none_stopped found Memory can stops o = tt
none_stopped None Overflow can stops o = absurd (cc)
none_stopped (Some n) Overflow can stops o = absurd (cc)

abbrev most : ℕ
most = 2 ^ 64 - 1

same_test : (n : ℕ) → nat_lt most_panels n ≡ nat_lt most_panels (min n most)
same_test n = grind (arith, nat_tests)

with_most : {X : Type 0} (n : ℕ) (drawn : Outcome X) → with_panels n drawn ≡ with_counted (min n most) drawn
with_most n drawn = ap (λ b. cond b (Panels (min n most)) drawn) (same_test n)

module _ {X : Type 0} (drawn : Outcome X) where
  pub after_count : (found : Option ℕ) (plots : ℕ) (r : Result X DrawError) → option_map (λ n. min n most) found ≡ Some plots
      → Comes (with_counted plots drawn) r → Comes (in_reach found >>= λ n. with_panels n drawn) r
  after_count None plots r is h = absurd (cc)
  after_count (Some n) plots r is h =
      subst (λ o. Comes o r) (sym (with_most n drawn ∙ ap (λ n. with_counted n drawn) (same_Some (min n most) plots is))) h

  pub not_counted : (found : Option ℕ) (e : EvalError) → Evaluates {X = ℕ} (Err e) (option_map (λ n. min n most) found)
      → Comes (in_reach found >>= λ n. with_panels n drawn) (Err (stopped e))
  not_counted None Overflow none = refl
  not_counted None Memory none = tt
  not_counted (Some n) Overflow none = absurd (cc)
  not_counted (Some n) Memory none = tt

  pub too_many : (n : ℕ) → nat_lt most_panels n ≡ true → with_counted n drawn ≡ Panels n
  too_many n many = ap (λ b. cond b (Panels n) drawn) many

  pub few_enough : (n : ℕ) → nat_lt most_panels n ≡ false → with_counted n drawn ≡ drawn
  few_enough n few = ap (λ b. cond b (Panels n) drawn) few

-- ---- the top by its members

pub from_top : (stores : Values) (g : VgSpec) (params : Valued) (sources : List Dataset)
    → drawing_of g stores params sources ≡ (in_reach (names_at_top stores params sources (top_of g).object) >>= drawn_within sources g)
from_top stores g params sources = ap (λ top. drawn_from g top stores params sources) (outline_is g)

-- what names stand for at the top, where these are parts of lists
abbrev pub names_round : Values → List Dataset → List Named → Valued → Object → Option Names
names_round stores sources parts params o =
    let around : Names = record { lists = scope_read (parts_over parts no_rows); values = stores } in
    names_with sources around o (settled_in sources around params o)

-- the top has none
pub named_by : (stores : Values) (sources : List Dataset) (parts : List Named) (params : Valued) (o : Object) → parts ≡ []
    → names_round stores sources parts params o ≡ names_at_top stores params sources o
named_by stores sources parts params o none = ap (λ parts. names_round stores sources parts params o) none
