-- That the ends of a domain of time are instants in range.
use Rattle.std.proofs.Common.{◌≡◌, ℤ, Bool, true, false, Option, Some, None, IsTrue, IfSome, subst}
use Rattle.std.specs.Option.{option_map, option_map_or}
use Rattle.std.proofs.lemmas.Bool.{false≢true}
use Rattle.fixed_num.specs.Ranges.{◌>>=◌}
use Rattle.expr_syntax.specs.declared.expr.Expr.{Expr}
use Rattle.expr_eval.specs.Plain.{null_row}
use Rattle.expr_eval.specs.Value.{value_of}
use Rattle.expr_eval.specs.Values.{Values}
use Rattle.scale_kit.specs.Scale.{AreInstants}
use Rattle.domain_kit.specs.declared.counting.Counting.TheVariants.{Instants}
use Rattle.domain_kit.specs.Counting.{extent_among, pair_in, widened_as_asked}
use Rattle.domain_kit.proofs.TimeLemmas.{instants_in_time, listed_instants_in_time, pair_in_time, widened_in_time}
use Rattle.vega_spec.specs.declared.domains.Domain.{Domain}
use Rattle.vega_spec.specs.declared.domains.Domain.TheVariants as domain
use Rattle.vega_spec.specs.declared.scales.Scale.{Scale}
use Rattle.vega_lists.specs.Scopes.{Scope}
use Rattle.vega_scales.specs.Domains.{cells_of_domain, raw_domain, extent_of_domain, widened_domain, continuous_domain}
use Rattle.vega_scales.specs.Scales.{is_time, is_set, takes_zero, numbers_of_scale}

pub then_in_time : (o : Option (ℤ × ℤ)) (f : ℤ × ℤ → Option (ℤ × ℤ)) → IfSome o AreInstants
    → ((ends : ℤ × ℤ) → AreInstants ends → IfSome (f ends) AreInstants) → IfSome (o >>= f) AreInstants
then_in_time None f h each = tt
then_in_time (Some ends) f h each = each ends h

pub mapped_in_time : {X Y : Type 0} (P : Y → Type 0) (f : X → Y) → ((x : X) → P (f x)) → (o : Option X) → IfSome (option_map f o) P
mapped_in_time P f each None = tt
mapped_in_time P f each (Some x) = each x

pub given_in_time : (given : Option (Option (ℤ × ℤ))) (rest : Option (ℤ × ℤ)) → IfSome given (λ found. IfSome found AreInstants)
    → IfSome rest AreInstants → IfSome (given >>= λ found. option_map_or Some found rest) AreInstants
given_in_time None rest h i = tt
given_in_time (Some None) rest h i = i
given_in_time (Some (Some ends)) rest h i = h

module _ (values : Values) where
  pub raw_in_time : (raw : Option Expr) → IfSome (raw_domain values true raw) (λ found. IfSome found AreInstants)
  raw_in_time None = tt
  raw_in_time (Some e) =
      mapped_in_time (λ (found : Option (ℤ × ℤ)). IfSome found AreInstants) (pair_in Instants) pair_in_time (value_of null_row values e)

  extent_in_time : (scope : Scope) (d : Domain) → IfSome (extent_of_domain values scope true d) AreInstants
  extent_in_time scope (domain.Cells cells) = listed_instants_in_time cells
  extent_in_time scope (domain.Signal e) =
      mapped_in_time AreInstants (extent_among Instants) instants_in_time (cells_of_domain values scope (domain.Signal e))
  extent_in_time scope (domain.Field f) =
      mapped_in_time AreInstants (extent_among Instants) instants_in_time (cells_of_domain values scope (domain.Field f))
  extent_in_time scope (domain.Fields f) =
      mapped_in_time AreInstants (extent_among Instants) instants_in_time (cells_of_domain values scope (domain.Fields f))

  domain_in_time : (scope : Scope) (of_time : Bool) (raw : Option Expr) (takes_zero is_nice : Bool) (d : Domain) → of_time ≡ true
      → IfSome (continuous_domain values scope of_time raw takes_zero is_nice d) AreInstants
  domain_in_time scope false raw takes_zero is_nice d h = absurd (false≢true h)
  domain_in_time scope true raw takes_zero is_nice d h =
      given_in_time (raw_domain values true raw) (widened_domain values scope true takes_zero is_nice d) (raw_in_time raw)
      (then_in_time (extent_of_domain values scope true d) (widened_as_asked true takes_zero is_nice) (extent_in_time scope d)
      (widened_in_time takes_zero is_nice))

-- the numbers of a time scale are instants in range
pub numbers_in_time : (values : Values) (scope : Scope) (s : Scale) (ends : ℤ × ℤ) → numbers_of_scale values scope s ≡ Some ends
    → IsTrue (is_time s) → AreInstants ends
numbers_in_time values scope s ends e h =
    subst (λ (o : Option (ℤ × ℤ)). IfSome o AreInstants) e
    (domain_in_time values scope (is_time s) s.domain_raw (takes_zero s) (is_set s.nice) s.domain h)
