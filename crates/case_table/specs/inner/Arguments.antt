-- The numbers of arguments as the code's table has them. No public clause cites this.
use Rattle.std.specs.Prelude.{ℕ, Bool}
use Rattle.case_table.specs.declared.arguments.Arguments.{Arguments}
use Rattle.case_table.specs.Arguments.{lies_between}

-- so many arguments are admitted
abbrev pub lets_pass : ℕ → Arguments → Bool
lets_pass count a = lies_between count (a.least, a.most)
