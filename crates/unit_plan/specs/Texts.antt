-- Texts: the words are the display of a cell, or its label by the channel's own `format`; without a text they are empty. A text stands with its middle at its
-- place, unless the mark says otherwise, in a font of 11 pixels.
use Rattle.std.specs.Prelude.{ℕ, ◌*◌, pos, Bool, Option, None, List, [], ◌∷◌, ◌++◌, map, unwrap_or, if◌then◌else◌}
use Rattle.std.specs.Option.{option_and_then}
use Rattle.fixed_num.specs.Number.{million}
use Rattle.cell_value.specs.declared.cell.Cell.TheVariants as cell
use Rattle.vl_normalize.specs.declared.codes.TheConstants.{TEXT}
use Rattle.vl_spec.specs.declared.definitions.Definition.{Definition}
use Rattle.vl_spec.specs.declared.definitions.FieldDefinition.{FieldDefinition}
use Rattle.vl_spec.specs.declared.marks.Align.TheVariants as align
use Rattle.vl_spec.specs.declared.marks.Baseline.TheVariants as baseline
use Rattle.vl_spec.specs.declared.marks.MarkDefinition.{MarkDefinition}
use Rattle.vl_compose.specs.Units.{UnitAt}
use Rattle.plan_kit.specs.declared.cells.CellOf.TheVariants.{Written}
use Rattle.plan_kit.specs.declared.marks.TextLook.{TextLook}
use Rattle.plan_kit.specs.declared.marks.Words.{Words}
use Rattle.plan_kit.specs.declared.marks.WordsWay.{WordsWay}
use Rattle.unit_plan.specs.Branches.{Branch, covers}
use Rattle.unit_plan.specs.Cells.{cell_of}
use Rattle.unit_plan.specs.Filters.{all_hold}
use Rattle.unit_plan.specs.Lanes.{branches_at}
use Rattle.unit_plan.specs.Shows.{field_in}

-- the format that a definition gives its words
abbrev pub format_of : Definition → Option (List ℕ)
format_of d = option_and_then (λ (f : FieldDefinition). f.format) (field_in d)

abbrev pub words_of : Definition → Words
words_of d = record { cell = cell_of TEXT d; format = format_of d }

abbrev pub words_way : (List ℕ → Bool) → Branch → WordsWay
words_way is_selection b = record { test = all_hold is_selection b.tests; gives = words_of b.shows }

-- the empty words
abbrev pub no_words : WordsWay
no_words = record { test = None; gives = record { cell = Written (cell.Text []); format = None } }

-- the words of some branches, and the empty words where none counts
abbrev pub words_by : (List ℕ → Bool) → List Branch → List WordsWay
words_by is_selection branches = map (words_way is_selection) branches ++ (if covers branches then [] else no_words ∷ [])

abbrev pub words_in : (List ℕ → Bool) → UnitAt → List WordsWay
words_in is_selection unit = words_by is_selection (branches_at unit.channels TEXT)

-- how words stand where nothing is said of them
abbrev pub plain_text : TextLook
plain_text = record { align = align.Center; baseline = baseline.Middle; dx = pos 0; dy = pos 0; size = pos (11 * million) }

abbrev pub text_look_said : MarkDefinition → TextLook
text_look_said d = record {
  align = unwrap_or d.align align.Center;
  baseline = unwrap_or d.baseline baseline.Middle;
  dx = unwrap_or d.dx (pos 0);
  dy = unwrap_or d.dy (pos 0);
  size = unwrap_or d.font_size (pos (11 * million));
}
