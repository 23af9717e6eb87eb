-- A specification, by what is kept of it.
use Rattle.std.specs.Prelude.{List}
use Rattle.json_exact.specs.declared.json.Json.{Json}
use Rattle.vl_spec.specs.declared.spec.VlSpec.{VlSpec}
use Rattle.vl_building.specs.declared.data.ParamAt.{ParamAt}
use Rattle.vl_building.specs.declared.naming.Named.{Named}
use Rattle.tree_readers.specs.Parts.{members_of}
use Rattle.vl_building.specs.Spec.{spec_with}
use Rattle.vl_building.specs.inner.Named.{shown}

-- the specification of these parameters, where what is kept goes by places
abbrev pub spec_by : Json → Named → List ParamAt → VlSpec
spec_by tree named params = spec_with tree (members_of tree) named.all (shown named) params
