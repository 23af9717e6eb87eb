-- Numbered parameters.
use Rattle.std.specs.Prelude.{ℕ}
use Rattle.vl_spec.specs.declared.params.ParamOf.{ParamOf}

-- the number of a parameter
abbrev pub number_of : ℕ × ParamOf → ℕ
number_of param = param.0
