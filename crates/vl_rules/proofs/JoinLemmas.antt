-- The faults of units and of views, one after the other.
use Rattle.std.proofs.Common.{◌≡◌, List, ◌++◌, Option, flat_map, take, ap, ◌∙◌, arith, ◌<◌, ◌≤◌}
use Rattle.json_exact.specs.declared.json.Json.{Json}
use Rattle.spec_schema.specs.declared.fault.Fault.{Fault}
use Rattle.spec_schema.specs.Order.{earlier}
use Rattle.vl_trails.specs.declared.fault.RuleFault.{RuleFault}
use Rattle.vl_trails.specs.Faults.{earliest_placed}
use Rattle.vl_trails.proofs.OrderLemmas.{two_lists}
use Rattle.vl_rules.specs.declared.marked.TheConstants.{MOST_UNITS, MOST_FOUND}
use Rattle.vl_rules.specs.Marked.{MarkedAt}
use Rattle.vl_rules.specs.Rules.{faults_of_unit}
use Rattle.vl_rules.specs.Units.{one_too_many}
use Rattle.vl_rules.proofs.CountLemmas.{front_tells}
use Rattle.vl_rules.proofs.FrontLemmas.{take_fewer}

-- by the first 33 units, and the first 32 of these
pub by_first : (tree : Json) (views : List MarkedAt → List RuleFault) (found first all : List MarkedAt) (so_far next last : Option Fault) →
    found ≡ take MOST_FOUND all → first ≡ take MOST_UNITS found →
    next ≡ earlier so_far (earliest_placed tree (one_too_many found)) →
    last ≡ earlier next (earliest_placed tree (flat_map (faults_of_unit tree) first ++ views first)) →
    last ≡ earlier so_far (earliest_placed tree
    (one_too_many all ++ (flat_map (faults_of_unit tree) (take MOST_UNITS all) ++ views (take MOST_UNITS all))))
by_first tree views found first all so_far next last are cut n l =
    let more : MOST_UNITS < MOST_FOUND = omega arith in
    let fewer : MOST_UNITS ≤ MOST_FOUND = omega arith in
    let judged : first ≡ take MOST_UNITS all = cut ∙ ap (take MOST_UNITS) are ∙ take_fewer MOST_UNITS MOST_FOUND all fewer in
    let counted : one_too_many found ≡ one_too_many all = ap one_too_many are ∙ front_tells MOST_FOUND all more in
    two_lists tree so_far next last (one_too_many all) (flat_map (faults_of_unit tree) (take MOST_UNITS all) ++ views (take MOST_UNITS all))
    (n ∙ ap (λ fs. earlier so_far (earliest_placed tree fs)) counted)
    (l ∙ ap (λ us. earlier next (earliest_placed tree (flat_map (faults_of_unit tree) us ++ views us))) judged)
