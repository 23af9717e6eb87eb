-- Why what is known of the cells of its references gives the domain of a scale.
use Rattle.std.proofs.Common.{◌≡◌, ℕ, ℤ, Bool, true, false, if◌then◌else◌, Option, Some, None, List, [], ◌∷◌, reverse, IsTrue, IfSome, refl}
use Rattle.std.proofs.Common.{sym, ap, ◌∙◌, subst}
use Rattle.std.specs.Prelude.{filter_map}
use Rattle.std.specs.Option.{option_map, option_map_or}
use Rattle.std.proofs.lemmas.Bool.{false≢true}
use Rattle.fixed_num.specs.Ranges.{◌>>=◌}
use Rattle.cell_value.specs.declared.cell.Cell.{Cell}
use Rattle.expr_syntax.specs.declared.expr.Expr.{Expr}
use Rattle.expr_eval.specs.Plain.{null_row}
use Rattle.expr_eval.specs.Value.{value_of}
use Rattle.expr_eval.specs.Values.{Values}
use Rattle.scale_kit.specs.Scale.{AreInstants}
use Rattle.domain_kit.specs.declared.counting.Counting.TheVariants.{Instants}
use Rattle.domain_kit.specs.declared.keyed.Entry.{Entry}
use Rattle.domain_kit.specs.Counting.{counted, extent_among, ends_of, extent_between, widened_as_asked}
use Rattle.domain_kit.specs.Orders.{in_direction, all_ranked, by_rank}
use Rattle.domain_kit.specs.Laws.{AreSameNumbers, AreSameCells}
use Rattle.domain_kit.proofs.TimeLemmas.{instants_in_time, listed_instants_in_time, widened_in_time}
use Rattle.domain_kit.proofs.CountLemmas.{ends_give_the_extent, same_numbers_end_alike, same_cells_stand_alike}
use Rattle.vega_spec.specs.declared.domains.Domain.{Domain}
use Rattle.vega_spec.specs.declared.domains.Domain.TheVariants as domain
use Rattle.vega_spec.specs.declared.domains.DomainOrder.{DomainOrder}
use Rattle.vega_spec.specs.declared.domains.DomainOrder.TheVariants as order
use Rattle.vega_spec.specs.declared.domains.Reference.{Reference}
use Rattle.vega_spec.specs.declared.orders.Order.{Order}
use Rattle.vega_spec.specs.declared.scales.Scale.{Scale}
use Rattle.vega_lists.specs.Scopes.{Scope}
use Rattle.vega_scales.specs.declared.scaled.Scaled.TheVariants.{Cells}
use Rattle.vega_scales.specs.Domains.{cells_in, reference_of, cells_referred, entries_referred, in_order, discrete_domain, counting_in, raw_domain}
use Rattle.vega_scales.specs.Domains.{extent_of_domain}
use Rattle.vega_scales.specs.Scales.{is_time, is_set, takes_zero, cells_of_scale, numbers_of_scale, between}
use Rattle.vega_scales.specs.Known.{references_of, sort_of, falls, extent_by, widened_by, numbers_by, in_order_asked, cells_by}
use Rattle.vega_scales.specs.Laws.{NumbersGiveTheDomain, StandFor, CellsGiveTheDomain, RanksGiveTheDomain}
use Rattle.vega_scales.proofs.TimeLemmas.{then_in_time, mapped_in_time, given_in_time, raw_in_time}

-- the extent between instants has them as its ends
between_in_time : (given : Option (ℤ × ℤ)) → IfSome given AreInstants → AreInstants (extent_between given)
between_in_time None h = (refl, refl)
between_in_time (Some ends) h = h

module _ (values : Values) (given : Option (ℤ × ℤ)) (h : IfSome given AreInstants) where
  extent_in_time : (d : Domain) → IfSome (extent_by values given true d) AreInstants
  extent_in_time (domain.Cells cells) = listed_instants_in_time cells
  extent_in_time (domain.Signal e) =
      mapped_in_time AreInstants (extent_among Instants) instants_in_time (option_map cells_in (value_of null_row values e))
  extent_in_time (domain.Field f) = between_in_time given h
  extent_in_time (domain.Fields f) = between_in_time given h

  by_time : (of_time : Bool) (raw : Option Expr) (zero nice : Bool) (d : Domain) → of_time ≡ true
      → IfSome (raw_domain values of_time raw >>= λ found. option_map_or Some found (widened_by values given of_time zero nice d)) AreInstants
  by_time false raw zero nice d e = absurd (false≢true e)
  by_time true raw zero nice d e =
      given_in_time (raw_domain values true raw) (widened_by values given true zero nice d) (raw_in_time values raw)
      (then_in_time (extent_by values given true d) (widened_as_asked true zero nice) (extent_in_time d) (widened_in_time zero nice))

-- the numbers of a time scale are instants in range where those that are known are
pub known_in_time : (values : Values) (given : Option (ℤ × ℤ)) (s : Scale) (ends : ℤ × ℤ) → (IsTrue (is_time s) → IfSome given AreInstants)
    → numbers_by values given s ≡ Some ends → IsTrue (is_time s) → AreInstants ends
known_in_time values given s ends within e h =
    subst (λ (o : Option (ℤ × ℤ)). IfSome o AreInstants) e
    (by_time values given (within h) (is_time s) s.domain_raw (takes_zero s) (is_set s.nice) s.domain h)

-- the ends of the numbers of its references give the extent of a domain
extents : (values : Values) (scope : Scope) (of_time : Bool) (d : Domain) (ns : List ℤ)
    → AreSameNumbers ns (filter_map (counted (counting_in of_time d)) (cells_referred scope (references_of d)))
    → extent_by values (ends_of ns) of_time d ≡ extent_of_domain values scope of_time d
extents values scope of_time (domain.Cells cells) ns same = refl
extents values scope of_time (domain.Signal e) ns same = refl
extents values scope of_time (domain.Field f) ns same =
    let all = filter_map (counted (counting_in of_time (domain.Field f))) (cells_referred scope (reference_of f ∷ [])) in
    ap Some (ap extent_between (same_numbers_end_alike ns all same) ∙ ends_give_the_extent all)
extents values scope of_time (domain.Fields f) ns same =
    let all = filter_map (counted (counting_in of_time (domain.Fields f))) (cells_referred scope f.fields) in
    ap Some (ap extent_between (same_numbers_end_alike ns all same) ∙ ends_give_the_extent all)

pub numbers_give_the_domain : NumbersGiveTheDomain
numbers_give_the_domain values scope s ns other same =
    ap (λ (extent : Option (ℤ × ℤ)). option_map between (raw_domain values (is_time s) s.domain_raw
    >>= λ given. option_map_or Some given (extent >>= widened_as_asked (is_time s) (takes_zero s) (is_set s.nice))))
    (extents values scope (is_time s) s.domain ns same)
    ∙ ap (λ (b : Bool). if b then option_map Cells (cells_of_scale values scope s) else option_map between (numbers_of_scale values scope s))
    (sym other)

-- cells that are the same stand alike in a direction
directed : (b : Bool) (cells all : List Cell) → AreSameCells cells all → in_direction b cells ≡ in_direction b all
directed true cells all same = ap reverse (same_cells_stand_alike cells all same)
directed false cells all same = same_cells_stand_alike cells all same

-- cells that stand for those of references give the cells in order
ordered : (scope : Scope) (references : List Reference) (sort : Option DomainOrder) (cells : List Cell)
    → StandFor sort cells (cells_referred scope references) → Some (in_order_asked sort cells) ≡ in_order scope references sort
ordered scope references None cells stand = ap Some stand
ordered scope references (Some order.True) cells stand = ap Some (directed false cells (cells_referred scope references) stand)
ordered scope references (Some (order.Cells direction)) cells stand =
    ap Some (directed (falls (Some (order.Cells direction))) cells (cells_referred scope references) stand)
ordered scope references (Some (order.Operation direction op field)) cells stand = absurd stand

discrete : (values : Values) (scope : Scope) (d : Domain) (cells : List Cell)
    → StandFor (sort_of d) cells (cells_referred scope (references_of d)) → cells_by values cells d ≡ discrete_domain values scope d
discrete values scope (domain.Cells given) cells stand = refl
discrete values scope (domain.Signal e) cells stand = refl
discrete values scope (domain.Field f) cells stand = ordered scope (reference_of f ∷ []) f.sort cells stand
discrete values scope (domain.Fields f) cells stand = ordered scope f.fields f.sort cells stand

pub cells_give_the_domain : CellsGiveTheDomain
cells_give_the_domain values scope s cells is stand =
    ap (option_map Cells) (discrete values scope s.domain cells stand)
    ∙ ap (λ (b : Bool). if b then option_map Cells (cells_of_scale values scope s) else option_map between (numbers_of_scale values scope s))
    (sym is)

-- ranked cells in the direction of an order by an operation
ranked_in : (scope : Scope) (references : List Reference) (direction : Option Order) (op : ℕ) (field : List ℕ) (sort : Option DomainOrder)
    → sort ≡ Some (order.Operation direction op field)
    → option_map (by_rank (falls sort)) (all_ranked op (entries_referred scope field references)) ≡ in_order scope references sort
ranked_in scope references direction op field sort e =
    subst (λ (o : Option DomainOrder). option_map (by_rank (falls o)) (all_ranked op (entries_referred scope field references))
    ≡ in_order scope references o) (sym e) refl

by_ranks : (values : Values) (scope : Scope) (d : Domain) (direction : Option Order) (op : ℕ) (field : List ℕ)
    → sort_of d ≡ Some (order.Operation direction op field)
    → option_map (by_rank (falls (sort_of d))) (all_ranked op (entries_referred scope field (references_of d)))
    ≡ discrete_domain values scope d
by_ranks values scope (domain.Cells cells) direction op field e = cc
by_ranks values scope (domain.Signal x) direction op field e = cc
by_ranks values scope (domain.Field f) direction op field e = ranked_in scope (reference_of f ∷ []) direction op field f.sort e
by_ranks values scope (domain.Fields f) direction op field e = ranked_in scope f.fields direction op field f.sort e

-- cells that are made into a domain, in one step and in two
made_so : (f : List Entry → List Cell) (ranks : Option (List Entry))
    → option_map (λ (r : List Entry). Cells (f r)) ranks ≡ option_map Cells (option_map f ranks)
made_so f None = refl
made_so f (Some r) = refl

pub ranks_give_the_domain : RanksGiveTheDomain
ranks_give_the_domain values scope s direction op field is sorted =
    made_so (by_rank (falls (sort_of s.domain))) (all_ranked op (entries_referred scope field (references_of s.domain)))
    ∙ ap (option_map Cells) (by_ranks values scope s.domain direction op field sorted)
    ∙ ap (λ (b : Bool). if b then option_map Cells (cells_of_scale values scope s) else option_map between (numbers_of_scale values scope s))
    (sym is)
