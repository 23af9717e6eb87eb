-- The names of parameters differ where no rule of names is broken and no name is empty: rules of names pass over empty ones, which the table of members
-- forbids.
use Rattle.std.specs.Prelude.{◌≡◌, ◌≢◌, [], All}
use Rattle.json_exact.specs.declared.json.Json.{Json}
use Rattle.vl_spec.specs.declared.params.ParamOf.{ParamOf}
use Rattle.vl_spec.specs.declared.spec.VlSpec.{VlSpec}
use Rattle.vl_names.specs.Names.{name_faults}
use Rattle.compiled_rows.specs.Values.{NamesDiffer}

abbrev pub NamesOfParamsDiffer : Type 0
NamesOfParamsDiffer = (tree : Json) (s : VlSpec) → name_faults tree s ≡ [] → All (λ (p : ParamOf). p.name ≢ []) s.params → NamesDiffer s.params
