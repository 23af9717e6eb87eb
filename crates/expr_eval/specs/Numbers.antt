-- The kinds of cells, what cells of a kind hold, and the numbers that cells stand for.
use Rattle.std.specs.Prelude.{ℤ, pos, ℕ, List, Bool, true, false, Option, Some, None, if◌then◌else◌}
use Rattle.fixed_num.specs.Number.{million}
use Rattle.fixed_num.specs.JsonNumber.{decimal_value}
use Rattle.expr_syntax.specs.NumberText.{parts_of}
use Rattle.cell_value.specs.declared.cell.Cell.{Cell}
use Rattle.cell_value.specs.declared.cell.Cell.TheVariants.{Null, Flag, Number, Text, Pair}
use Rattle.fixed_num.specs.Ranges.{◌>>=◌, in_range}

-- whether a cell is of a kind
abbrev pub is_null : Cell → Bool
is_null Null = true
is_null (Flag b) = false
is_null (Number n) = false
is_null (Text t) = false
is_null (Pair a b) = false

abbrev pub is_flag : Cell → Bool
is_flag Null = false
is_flag (Flag b) = true
is_flag (Number n) = false
is_flag (Text t) = false
is_flag (Pair a b) = false

abbrev pub is_number : Cell → Bool
is_number Null = false
is_number (Flag b) = false
is_number (Number n) = true
is_number (Text t) = false
is_number (Pair a b) = false

abbrev pub is_text : Cell → Bool
is_text Null = false
is_text (Flag b) = false
is_text (Number n) = false
is_text (Text t) = true
is_text (Pair a b) = false

abbrev pub is_pair : Cell → Bool
is_pair Null = false
is_pair (Flag b) = false
is_pair (Number n) = false
is_pair (Text t) = false
is_pair (Pair a b) = true

-- the number, the text and the two numbers that a cell is
abbrev pub the_number : Cell → Option ℤ
the_number Null = None
the_number (Flag b) = None
the_number (Number n) = Some n
the_number (Text t) = None
the_number (Pair a b) = None

abbrev pub the_text : Cell → Option (List ℕ)
the_text Null = None
the_text (Flag b) = None
the_text (Number n) = None
the_text (Text t) = Some t
the_text (Pair a b) = None

abbrev pub the_pair : Cell → Option (ℤ × ℤ)
the_pair Null = None
the_pair (Flag b) = None
the_pair (Number n) = None
the_pair (Text t) = None
the_pair (Pair a b) = Some (a, b)

-- what is made of something; null where there is nothing, as of a cell of another kind
abbrev pub else_null : {X : Type 0} → Option X → (X → Option Cell) → Option Cell
else_null None f = Some Null
else_null (Some x) f = f x

-- a number as a cell, null where there is none
abbrev pub number_or_null : Option ℤ → Cell
number_or_null None = Null
number_or_null (Some n) = Number n

-- the number that a text spells: a JSON number in range
unfoldable pub number_in_text : List ℕ → Option ℤ
number_in_text text = parts_of text >>= λ parts. in_range (decimal_value parts)

-- the number that a cell stands for: a flag for 1 or 0, a number for itself, a text for the one that it spells
abbrev pub cell_number : Cell → Option ℤ
cell_number Null = None
cell_number (Flag b) = Some (if b then pos million else pos 0)
cell_number (Number n) = Some n
cell_number (Text t) = number_in_text t
cell_number (Pair a b) = None
