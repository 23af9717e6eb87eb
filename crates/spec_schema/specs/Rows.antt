-- Tables of members as rules.
use Rattle.std.specs.Prelude.{ℕ, List, map, Option}
use Rattle.spec_schema.specs.declared.layout.Rule.{Rule}
use Rattle.spec_schema.specs.declared.layout.Layout.{Layout}
use Rattle.spec_schema.specs.declared.layout.Test.{Test}
use Rattle.spec_schema.specs.declared.layout.Test.TheVariants as test
use Rattle.spec_schema.specs.declared.rows.Row.{Row}
use Rattle.spec_schema.specs.declared.rows.When.{When}
use Rattle.spec_schema.specs.declared.rows.When.TheVariants.{Has, Lacks, Says, Any, Leads, Alone, Beyond}

-- the rule that a row stands for
abbrev pub rule_of : Row → Rule
rule_of row = record { name = row.name.now; shape = row.shape; required = row.required }

-- the test that it stands for
abbrev pub test_of : When → Test
test_of (Has name) = test.Has name.now
test_of (Lacks name) = test.Lacks name.now
test_of (Says name text) = test.Says name.now text.now
test_of (Any names) = test.Any names
test_of (Leads names name) = test.Leads names name.now
test_of (Alone names name) = test.Alone names name.now
test_of (Beyond names) = test.Beyond names

-- the layout of an object by its table
abbrev pub layout_by : ℕ → List When → List Row → Option ℕ → Layout
layout_by object whens rows others = record { object = object; when = map test_of whens; rules = map rule_of rows; others = others }

-- the layout of an object by the rules of several tables
abbrev pub layout_of_rules : ℕ → List When → List Rule → Option ℕ → Layout
layout_of_rules object whens rules others = record { object = object; when = map test_of whens; rules = rules; others = others }
