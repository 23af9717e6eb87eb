-- What an index knows of names.
use Rattle.std.proofs.Common.{◌≡◌, ℕ, ◌==◌, List, None, length, if◌then◌else◌}
use Rattle.std.specs.Prelude.{Vec}
use Rattle.std.specs.BTreeMap.{BTreeMap}
use Rattle.std.specs.declared.alloc.Global.{Global}
use Rattle.vl_spec.specs.declared.params.ParamOf.{ParamOf}
use Rattle.vl_names.specs.Known.{param_named, param_names}
use Rattle.vl_names.specs.inner.Index.{IsIndex}
use Rattle.vl_names.specs.inner.Looked.{named_by}

-- what is found of a parameter's name is the first that has it
pub named_is : (params : List ParamOf) (index : BTreeMap (Vec ℕ Global) ℕ) → IsIndex index (param_names params) → named_by index ≡ param_named params
named_is params index h = λ i name. if length name == 0 then None else h.found name i
