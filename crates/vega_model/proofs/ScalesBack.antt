-- Scales are read back.
use Rattle.std.proofs.Common.{◌≡◌, ℕ, List, [], map, refl, ap, ◌∙◌}
use Rattle.std.specs.Option.{unwrap_or}
use Rattle.std.specs.Prelude.{Some, codes}
use Rattle.json_exact.specs.Path.{member_value}
use Rattle.json_exact.specs.declared.json.Json.{out-Json}
use Rattle.json_exact.specs.declared.json.Member.{Member}
use Rattle.vega_spec.specs.declared.scales.Range.{Range}
use Rattle.vega_spec.specs.declared.scales.Scale.{Scale}
use Rattle.vega_building.specs.Domains.{domain_in}
use Rattle.vega_building.specs.Parts.{cell_of}
use Rattle.vega_building.specs.Scales.{range_in, scale_of}
use Rattle.vega_writing.specs.Domains.{domain_tree}
use Rattle.vega_writing.specs.Names.{code_tree}
use Rattle.vega_writing.specs.Scales.{range_tree, scale_slots}
use Rattle.vega_writing.specs.Slots.{present}
use Rattle.vega_writing.specs.Trees.{cell_tree}
use Rattle.case_table.specs.Names.{scale_kinds, index_of}
use Rattle.vega_model.proofs.Back.{opened_text, opened_list, each, map_back, must_found, needed_text_back, may_flag, may_number}
use Rattle.vega_model.proofs.Back.{must_named}
use Rattle.vega_model.proofs.DomainsBack.{domain_reads}
use Rattle.vega_model.proofs.Found.{at_name, found}
use Rattle.vega_model.proofs.Leaves.{cell_back, scale_type_reads, may_signal}
use Rattle.vega_model.specs.RoundTrip.{asked_codes, asked_readings}
use Rattle.vega_model.specs.Codes.{OfScale}
use Rattle.vega_spec.specs.declared.domains.Domain.TheVariants as domain
use Rattle.vega_spec.specs.declared.scales.Range.TheVariants as range

pub range_reads : (x : Range) → range_in (out-Json (range_tree x)) ≡ Some x
unfolding range_tree
range_reads (range.Cells cells) =
    ap range_in (opened_list (map cell_tree cells)) ∙ ap (λ cs. Some (range.Cells cs))
    (map_back cell_of cell_tree cells (each (λ x. cell_of (cell_tree x) ≡ x) cell_back cells))
range_reads range.Width = ap range_in (opened_text (codes "width"))
range_reads range.Height = ap range_in (opened_text (codes "height"))
range_reads range.Category = ap range_in (opened_text (codes "category"))
range_reads range.Ramp = ap range_in (opened_text (codes "ramp"))
range_reads range.Symbol = ap range_in (opened_text (codes "symbol"))

-- a scale is read back
pub scale_back : (s : Scale) → OfScale asked_codes s → OfScale asked_readings s → scale_of (present (scale_slots s)) ≡ s
unfolding scale_slots
scale_back s c r =
    let ms : List Member = present (scale_slots s) in
    let at : (name : List ℕ) → member_value ms name ≡ at_name (scale_slots s) name = λ name. found (scale_slots s) name refl in
    λ j. record {
      name = needed_text_back ms (codes "name") s.name (at (codes "name")) j;
      type_ = ap (λ o. unwrap_or o 0)
          (must_named ms (codes "type") (index_of scale_kinds) (code_tree scale_kinds) s.type_ (at (codes "type"))
          (scale_type_reads s.type_ c.0)) j;
      domain = ap (λ o. unwrap_or o (domain.Cells []))
          (must_found ms (codes "domain") domain_in (domain_tree s.domain) s.domain (at (codes "domain"))
          (domain_reads s.domain c.1 r.1)) j;
      domain_raw = may_signal ms (codes "domainRaw") s.domain_raw (at (codes "domainRaw")) r.2 j;
      range = ap (λ o. unwrap_or o (range.Cells []))
          (must_found ms (codes "range") range_in (range_tree s.range) s.range (at (codes "range")) (range_reads s.range)) j;
      zero = may_flag ms (codes "zero") s.zero (at (codes "zero")) j;
      nice = may_flag ms (codes "nice") s.nice (at (codes "nice")) j;
      reverse = may_flag ms (codes "reverse") s.reverse (at (codes "reverse")) j;
      padding = may_number ms (codes "padding") s.padding (at (codes "padding")) j;
      padding_inner = may_number ms (codes "paddingInner") s.padding_inner (at (codes "paddingInner")) j;
      padding_outer = may_number ms (codes "paddingOuter") s.padding_outer (at (codes "paddingOuter")) j;
    }
