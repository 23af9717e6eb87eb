-- Bars break no rule.
use Rattle.std.proofs.Common.{◌≡◌, ℕ, List, [], None, Ok, Option, ap, ◌∙◌}
use Rattle.json_exact.specs.declared.json.Json.{Json}
use Rattle.spec_schema.specs.Faults.{faults_in, first}
use Rattle.spec_schema.specs.Order.{earlier}
use Rattle.vega_schema.specs.Schema.{vega_schema}
use Rattle.vega_schema.specs.declared.codes.TheConstants.{TOP}
use Rattle.vega_parts.specs.declared.part.Part.{Part}
use Rattle.vega_parts.specs.Parts.{parts_of}
use Rattle.vega_rules.specs.Faults.{sooner, earliest}
use Rattle.vega_rules.specs.Rules.{rule_faults}
use Rattle.vega_rules.specs.Cycles.{first_cycle}
use Rattle.expr_syntax.specs.Writing.{text_of}
use Rattle.vega_writing.specs.Spec.{tree_of}
use Rattle.vega_model.specs.Faults.{first_fault_of, fault_by_members, gathered, judged, with_path}
use Rattle.vega_model.specs.Reading.{read_of, unless_fault}
use Rattle.spec_schema.specs.declared.fault.Fault.{Fault}
use Rattle.vega_spec.specs.declared.spec.VgSpec.{VgSpec}
use Rattle.vega_model.proofs.SpecBack.{built_again}
use Rattle.compiled_bars.specs.Bars.{bars_over, width}
use Rattle.compiled_bars.proofs.Tree.{tree}
use Rattle.compiled_bars.proofs.Members as members
use Rattle.compiled_bars.proofs.Parts.{parts, parts_are}
use Rattle.compiled_bars.proofs.Rules.{no_fault, no_cycle}
use Rattle.compiled_bars.proofs.Width.{width_is_read, long, mentions_parameters, mentions_selections, mentions_scales}
use Rattle.compiled_bars.proofs.Codes.{codes_are, readings_are}
use Rattle.compiled_bars.proofs.Written.{bars_are}

-- a tree without a fault by the table of members or by the rules over its parts has none
fault_free : (t : Json) (ps : List Part) → faults_in vega_schema t TOP ≡ [] → parts_of t ≡ ps → earliest (rule_faults ps) ≡ None →
    first_cycle ps ≡ None → first_fault_of t ≡ None
unfolding first_fault_of fault_by_members gathered judged
fault_free t ps fine are rules needs =
    let by_rules : sooner (earliest (rule_faults (parts_of t))) (first_cycle (parts_of t)) ≡ None =
    ap (λ (p : List Part). sooner (earliest (rule_faults p)) (first_cycle p)) are ∙ ap (λ o. sooner o (first_cycle ps)) rules ∙ needs in
    ap (λ o. earlier o (with_path t (sooner (earliest (rule_faults (parts_of t))) (first_cycle (parts_of t))))) (ap first fine)
    ∙ ap (with_path t) by_rules

pub break_no_rule : (name x y : List ℕ) (values : Json) → first_fault_of (tree_of (bars_over name x y values)) ≡ None
break_no_rule name x y values =
    ap first_fault_of (bars_are name x y values)
    ∙ fault_free (tree name x y values (text_of width)) (parts name) (members.no_fault name x y (text_of width) values)
    (parts_are name x y (text_of width) values width width_is_read long mentions_parameters mentions_selections mentions_scales)
    (no_fault name) (no_cycle name)

unless_none : (o : Option Fault) (g h : VgSpec) → o ≡ None → h ≡ g → unless_fault o h ≡ Ok g
unless_none o g h none same = ap (λ (x : Option Fault). unless_fault x h) none ∙ ap (λ (x : VgSpec). unless_fault None x) same

pub are_read : (name x y : List ℕ) (values : Json) → read_of (tree_of (bars_over name x y values)) ≡ Ok (bars_over name x y values)
are_read name x y values =
    unless_none _ (bars_over name x y values) _ (break_no_rule name x y values)
    (built_again (bars_over name x y values) (codes_are name x y values) (readings_are name x y values))
