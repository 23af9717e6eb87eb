-- The trees of scales.
use Rattle.std.specs.Prelude.{List, [], ◌∷◌, option_map, codes}
use Rattle.case_table.specs.Names.{scale_kinds}
use Rattle.json_exact.specs.declared.json.Json.{Json}
use Rattle.vega_writing.specs.declared.slots.Slot.{Slot}
use Rattle.vega_spec.specs.declared.scales.Scale.{Scale}
use Rattle.vega_spec.specs.declared.scales.Range.{Range}
use Rattle.vega_spec.specs.declared.scales.Range.TheVariants as range
use Rattle.vega_writing.specs.Slots.{must, may, object}
use Rattle.vega_writing.specs.Trees.{text_tree, flag_tree, number_tree, cell_tree, list_tree, computed_tree}
use Rattle.vega_writing.specs.Names.{code_tree}
use Rattle.vega_writing.specs.Domains.{domain_tree}

-- the range of a scale
unfoldable pub range_tree : Range → Json
range_tree (range.Cells cells) = list_tree cell_tree cells
range_tree range.Width = text_tree (codes "width")
range_tree range.Height = text_tree (codes "height")
range_tree range.Category = text_tree (codes "category")
range_tree range.Ramp = text_tree (codes "ramp")
range_tree range.Symbol = text_tree (codes "symbol")

-- a scale: its members
unfoldable pub scale_slots : Scale → List Slot
scale_slots s =
    must (codes "name") (text_tree s.name) ∷ must (codes "type") (code_tree scale_kinds s.type_) ∷
    must (codes "domain") (domain_tree s.domain) ∷ may (codes "domainRaw") (option_map computed_tree s.domain_raw) ∷
    must (codes "range") (range_tree s.range) ∷ may (codes "zero") (option_map flag_tree s.zero) ∷
    may (codes "nice") (option_map flag_tree s.nice) ∷ may (codes "reverse") (option_map flag_tree s.reverse) ∷
    may (codes "padding") (option_map number_tree s.padding) ∷
    may (codes "paddingInner") (option_map number_tree s.padding_inner) ∷
    may (codes "paddingOuter") (option_map number_tree s.padding_outer) ∷ []

abbrev pub scale_tree : Scale → Json
scale_tree s = object (scale_slots s)
