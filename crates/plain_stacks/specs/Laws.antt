-- What holds of stacks with a greatest whole that is handed in.
use Rattle.std.specs.Prelude.{◌≡◌, ◌≢◌, ℤ, Option, List}
use Rattle.cell_value.specs.Datum.{Datum}
use Rattle.plain_rows.specs.declared.transforms.StackOf.{StackOf}
use Rattle.plain_rows.specs.declared.transforms.Offset.TheVariants.{Center}
use Rattle.plain_stacks.specs.Stacks.{greatest_whole, data_stacked_with, data_stacked}

-- with that of the partitions of the rows they are the stacks of the rows
abbrev pub OwnGreatestGivesTheStacks : Type 0
OwnGreatestGivesTheStacks = (s : StackOf) (rows : List Datum) → data_stacked_with s (greatest_whole s rows) rows ≡ data_stacked s rows

-- stacks that aren't centred are the same with any
abbrev pub OnlyCentresNeedIt : Type 0
OnlyCentresNeedIt =
    (s : StackOf) (rows : List Datum) (g h : Option ℤ) → s.offset ≢ Center → data_stacked_with s g rows ≡ data_stacked_with s h rows
