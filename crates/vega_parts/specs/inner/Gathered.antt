-- What is gathered on a walk.
use Rattle.std.specs.Prelude.{List, []}
use Rattle.json_exact.specs.declared.json.Json.{Json}
use Rattle.spec_schema.specs.declared.schema.Schema.{Schema}
use Rattle.spec_walk.specs.Walk.{seen_in}
use Rattle.vega_schema.specs.declared.codes.TheConstants.{TOP}
use Rattle.vega_parts.specs.declared.part.Part.{Part}
use Rattle.vega_parts.specs.Parts.{parts_at}
use Rattle.vega_parts.specs.Trails.{noted}

-- the parts of a specification, as a walk by a schema gives them
abbrev pub parts_by : Schema → Json → List Part
parts_by schema tree = seen_in schema noted parts_at tree 0 TOP []
