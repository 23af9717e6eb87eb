-- What expressions give.
use Rattle.std.specs.Prelude.{ℕ, Bool, ◌&&◌, not, if◌then◌else◌, Option, Some, None, List, [], ◌∷◌, ◌++◌}
use Rattle.std.specs.Option.{option_map_or}
use Rattle.json_exact.specs.declared.json.Json.{Json, out-Json}
use Rattle.spec_schema.specs.declared.spec_error.SpecKind.TheVariants.{Wrong}
use Rattle.json_exact.specs.Inside.{text_in}
use Rattle.expr_syntax.specs.declared.expr.Expr.{Expr}
use Rattle.expr_syntax.specs.Expressions.{has_domain_length}
use Rattle.expr_reading.specs.Readings.{expression_of}
use Rattle.expr_reading.specs.Mentions.{parameters_in, selections_in, scales_in}
use Rattle.vega_parts.specs.declared.part.Part.{Part}
use Rattle.vega_parts.specs.declared.part.Part.TheVariants as part
use Rattle.vega_parts.specs.declared.part.Used.TheVariants as for_
use Rattle.vega_parts.specs.Trails.{Trail, place_of}
use Rattle.vega_parts.specs.Names.{used_names}

-- the signals, stores and scales that stand in an expression
abbrev pub names_in : Trail → Expr → List Part
names_in trail e = used_names for_.Signal trail (parameters_in e) ++ used_names for_.Store trail (selections_in e)
    ++ used_names for_.Scale trail (scales_in e)

-- a text without a reading is wrong, and so is one with the length of a domain where that may not stand
abbrev pub read_parts : Bool → Trail → Option Expr → List Part
read_parts lengths trail None = part.Fault (place_of trail) Wrong ∷ []
read_parts lengths trail (Some e) = if has_domain_length e && not lengths then part.Fault (place_of trail) Wrong ∷ [] else names_in trail e

-- what an expression gives, by whether lengths of domains may stand in it
abbrev pub expression_parts : Bool → Trail → Json → List Part
expression_parts lengths trail tree =
    option_map_or (λ (text : List ℕ). read_parts lengths trail (expression_of text)) (text_in (out-Json tree)) []
