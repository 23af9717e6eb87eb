-- What holds of parts that are found by places holds of parts.
use Rattle.std.proofs.Common.{◌≡◌, ℕ, Bool, List, if◌then◌else◌, ap, ◌∙◌}
use Rattle.std.specs.Prelude.{Vec}
use Rattle.std.specs.declared.alloc.Global.{Global}
use Rattle.std.specs.BTreeMap.{BTreeMap}
use Rattle.vega_parts.specs.declared.part.Part.{Part}
use Rattle.vega_parts.specs.declared.part.GivenName.{GivenName}
use Rattle.vega_rules.specs.Edges.{is_extent}
use Rattle.vega_rules.specs.Cycles.{update_of, fault_place}
use Rattle.vega_rules.specs.inner.Placed.{IsPlaced, place_at}

pub by_extent : (parts : List Part) (places : BTreeMap (Vec ℕ Global) ℕ) (name : GivenName) → IsPlaced places parts
    → (test : Bool) → test ≡ is_extent (place_at places) name
    → (if test then name.at else update_of parts name) ≡ fault_place parts name
by_extent parts places name placed test h =
    ap (λ b. if b then name.at else update_of parts name) (h ∙ ap (λ node. is_extent node name) placed.finds)
