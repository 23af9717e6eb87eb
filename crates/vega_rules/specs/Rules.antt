-- All faults that the rules find.
use Rattle.std.specs.Prelude.{List, ◌++◌, flat_map}
use Rattle.vega_parts.specs.declared.part.Part.{Part}
use Rattle.vega_rules.specs.declared.fault.PlacedFault.{PlacedFault}
use Rattle.vega_rules.specs.Faults.{shown_by}
use Rattle.vega_rules.specs.Twice.{twice}
use Rattle.vega_rules.specs.Unknown.{unknown}
use Rattle.vega_rules.specs.Sized.{sized}
use Rattle.vega_rules.specs.Below.{below}
use Rattle.vega_rules.specs.Limits.{limits}
use Rattle.vega_rules.specs.Folds.{folds}
use Rattle.vega_rules.specs.Intervals.{intervals}

-- the faults that show where they stand
abbrev pub shown : List Part → List PlacedFault
shown parts = flat_map shown_by parts

-- the faults of all rules
abbrev pub rule_faults : List Part → List PlacedFault
rule_faults parts = shown parts ++ twice parts ++ unknown parts ++ sized parts ++ below parts ++ limits parts ++ folds parts
    ++ intervals parts
