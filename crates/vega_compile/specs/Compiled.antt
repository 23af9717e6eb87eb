-- The compiled specification of one of Vega-Lite.
use Rattle.vega_spec.specs.declared.spec.VgSpec.{VgSpec}
use Rattle.vl_spec.specs.declared.spec.VlSpec.{VlSpec}
use Rattle.chart_plan.specs.Plan.{plan_of}
use Rattle.vega_assemble.specs.Assembled.{written}

-- its plan written down
abbrev pub assembled : VlSpec → VgSpec
assembled s = written s (plan_of s)
