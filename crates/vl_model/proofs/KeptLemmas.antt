-- What is read without a fault keeps all rules.
use Rattle.std.proofs.Common.{◌≡◌, Bool, true, false, Option, Some, None, refl, sym, ap, ◌∙◌}
use Rattle.std.specs.Prelude.{if◌then◌else◌}
use Rattle.json_exact.specs.declared.json.Json.{Json}
use Rattle.spec_schema.specs.declared.fault.Fault.{Fault}
use Rattle.spec_schema.specs.Order.{is_before, earlier}
use Rattle.vl_spec.specs.declared.spec.VlSpec.{VlSpec}
use Rattle.vl_rules.specs.Kept.{IsKept, WithoutFaultsKept}
use Rattle.vl_model.specs.Faults.{fault_by_form, fault_by_rules, fault_beside}

either_is_some : (b : Bool) (f g : Fault) → (if b then Some f else Some g) ≡ None → ⊥
either_is_some true f g e = absurd cc
either_is_some false f g e = absurd cc

-- where neither of two stands first, there is no second
no_second : (o p : Option Fault) → earlier o p ≡ None → p ≡ None
no_second None p e = e
no_second (Some f) None e = refl
no_second (Some f) (Some g) e = absurd (either_is_some (is_before g.place f.place) g f e)

-- and no first
no_first : (o p : Option Fault) → earlier o p ≡ None → o ≡ None
no_first None p e = refl
no_first (Some f) None e = absurd cc
no_first (Some f) (Some g) e = absurd (either_is_some (is_before g.place f.place) g f e)

pub keeps : WithoutFaultsKept → (tree : Json) (spec : VlSpec) (o : Option Fault) → o ≡ fault_beside tree spec → o ≡ None → IsKept spec
unfolding fault_by_rules
keeps law tree spec o is none =
    let first = fault_by_form tree in
    let all = no_first first (fault_by_rules tree first spec) (sym is ∙ none) in
    (tree, law tree spec (ap (λ f. fault_by_rules tree f spec) (sym all) ∙ no_second first (fault_by_rules tree first spec) (sym is ∙ none)))
