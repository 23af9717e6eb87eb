-- Legends.
use Rattle.std.specs.Prelude.{◌≡◌, refl, ℕ, ◌+◌, ◌*◌, min, max, false, if◌then◌else◌, List, [], ◌∷◌, ◌++◌, map, length, codes, ℤ, pos, Option, Some, None}
use Rattle.unicode_width.proofs.Computing.{unicode_width}
use Rattle.std.specs.Option.{option_map, option_map_or, is_some}
use Rattle.std.specs.List.{enumerate_from, filter_map}
use Rattle.fixed_num.specs.Ranges.{◌>>=◌, all_found}
use Rattle.cell_value.specs.declared.cell.Cell.{Cell}
use Rattle.scene_tree.specs.declared.scene.Item.{Item}
use Rattle.scene_tree.specs.declared.shape.Anchor.TheVariants.{Start}
use Rattle.scale_kit.specs.declared.scale.Scale.{Scale}
use Rattle.guide_text.specs.declared.labels.Shows.{Shows}
use Rattle.guide_text.specs.Labels.{label_of}
use Rattle.guide_text.specs.Widths.{columns_of, width_of, greatest_size}
use Rattle.guide_kit.specs.declared.entries.Entry.{Entry}
use Rattle.guide_kit.specs.declared.entries.LegendRows.{LegendRows}
use Rattle.guide_kit.specs.declared.legends.LegendOf.{LegendOf}
use Rattle.guide_kit.specs.declared.legends.Block.{Block}
use Rattle.scene_tree.specs.declared.shape.Shape.TheVariants.{Rect}
use Rattle.guide_kit.specs.declared.signs.Sign.{Sign}
use Rattle.guide_kit.specs.declared.signs.Sign.TheVariants as sign_form
use Rattle.guide_kit.specs.declared.signs.SignKind.{SignKind}
use Rattle.guide_kit.specs.declared.signs.SignKind.TheVariants as kind
use Rattle.guide_kit.specs.Axes.{widest}
use Rattle.guide_kit.specs.Items.{filled, words_at, label_style, title_style}
use Rattle.guide_kit.specs.Measures.{pixels, farthest, plus, minus}
use Rattle.guide_kit.specs.Signs.{sign_kind_of, sign_of, sign_at}
use Rattle.guide_kit.specs.Ticks.{cells_shown, shows_of}

-- the rows of a legend in pixels: how high each is, how far its centre is below its top, and where its sign has its centre and its label
-- begins; in a size legend they are larger
abbrev pub rows_of : SignKind → LegendRows
rows_of kind.Color = record { height = 14; centre = 7; sign = 6; label = 16 }
rows_of kind.Opacity = record { height = 14; centre = 7; sign = 6; label = 16 }
rows_of kind.Size = record { height = 22; centre = 11; sign = 11; label = 26 }
rows_of kind.Shape = record { height = 14; centre = 7; sign = 6; label = 16 }

-- the entry of a cell, with its sign if that can be drawn
abbrev pub entry_with : Shows → Option (List ℕ) → Cell → Option Sign → Entry
entry_with shows format v given = record { sign = given; label = label_of shows format v }

-- the entry of a cell; None where its place is out of range
abbrev pub entry_of : SignKind → Scale → Shows → Option (List ℕ) → Cell → Option Entry
entry_of shown s shows format v = option_map (entry_with shows format v) (sign_of shown s v)

-- for how many ticks a legend asks
abbrev pub legend_count : ℕ
legend_count = 5

-- the entries of a legend: those of all cells that its scale shows
abbrev pub entries_of : SignKind → Scale → Option (List ℕ) → Option (List Entry)
entries_of shown s format =
    cells_shown legend_count s >>= λ cells. all_found (map (entry_of shown s (shows_of legend_count s) format) cells)

-- how high a title is with the space below it
abbrev pub title_height : Option (List ℕ) → ℕ
title_height title = if is_some title then 15 else 0

-- the centre of an entry by its number, in pixels below the top
abbrev pub centre_of : LegendRows → ℕ → ℕ → ℤ
centre_of rows top number = pixels (min (top + number * rows.height + rows.centre) farthest)

-- the sign of an entry with its number, if it can be drawn, and the label
abbrev pub sign_item : List ℕ → LegendRows → ℕ → ℕ × Entry → Option Item
sign_item color rows top entry = option_map (sign_at color (pixels rows.sign) (centre_of rows top entry.0)) entry.1.sign

abbrev pub label_item : LegendRows → ℕ → ℕ × Entry → Item
label_item rows top entry =
    words_at (label_style false Start) (pixels rows.label) (plus (centre_of rows top entry.0) (pixels 3)) entry.1.label

-- the title of a legend, with its baseline at 11
abbrev pub title_items : Option (List ℕ) → List Item
title_items title = option_map_or (λ text. words_at (title_style false Start) (pos 0) (pixels 11) text ∷ []) title []

-- the labels of entries
abbrev pub labels_in : List Entry → List (List ℕ)
labels_in = map (λ (entry : Entry). entry.label)

-- how wide the entries are: as far as the widest label goes; nothing without entries
abbrev pub entries_width : LegendRows → List Entry → ℕ
entries_width rows [] = 0
entries_width rows (entry ∷ entries) = rows.label + widest 6 (labels_in (entry ∷ entries))

-- the width and the height of a legend in whole pixels, cut to 10^11
abbrev pub block_width : Option (List ℕ) → LegendRows → List Entry → ℕ
block_width title rows entries = min (max (option_map_or (width_of 7) title 0) (entries_width rows entries)) greatest_size

abbrev pub block_height : Option (List ℕ) → LegendRows → List Entry → ℕ
block_height title rows entries = min (title_height title + length entries * rows.height) greatest_size

-- a legend with these entries: its title, then all signs, then all labels
abbrev pub block_with : LegendOf → LegendRows → List Entry → Block
block_with l rows entries =
    let top = title_height l.title in
    record {
      items = title_items l.title ++ filter_map (sign_item l.colour rows top) (enumerate_from 0 entries)
          ++ map (label_item rows top) (enumerate_from 0 entries);
      width = pixels (block_width l.title rows entries);
      height = pixels (block_height l.title rows entries);
    }

-- a legend of a kind of signs
abbrev pub legend_with : SignKind → LegendOf → Scale → Option Block
legend_with shown l s = option_map (block_with l (rows_of shown)) (entries_of shown s l.format)

-- the legend of a scale; none where a tick or its place is out of range
abbrev pub legend_of : LegendOf → Scale → Option Block
legend_of l s = sign_kind_of l.channel >>= λ shown. legend_with shown l s

-- ---- worked examples

-- a colour legend with two entries
abbrev two_entries : List Entry
two_entries =
    record { sign = Some (sign_form.Painted (codes "#4c78a8")); label = codes "u" }
    ∷ record { sign = Some (sign_form.Painted (codes "#f58518")); label = codes "v" } ∷ []

abbrev title_c : Option (List ℕ)
title_c = Some (codes "c")

abbrev color_legend : LegendOf
color_legend = record { channel = 4; title = title_c; format = None; colour = codes "#000" }

-- a swatch with its upper left corner at a place, and a label at a place
abbrev swatch : List ℕ → ℕ → ℕ → Item
swatch color x y = filled color (pixels 1) (Rect (pixels x) (pixels y) (pixels 10) (pixels 10))

abbrev words : List ℕ → ℕ → ℕ → Item
words text x y = words_at (label_style false Start) (pixels x) (pixels y) text

the_items_of_a_legend : (block_with color_legend (rows_of kind.Color) two_entries).items
    ≡ words_at (title_style false Start) (pos 0) (pixels 11) (codes "c")
    ∷ swatch (codes "#4c78a8") 1 17 ∷ swatch (codes "#f58518") 1 31 ∷ words (codes "u") 16 25 ∷ words (codes "v") 16 39 ∷ []
unfolding plus minus
the_items_of_a_legend = refl

-- an entry whose sign can't be drawn keeps its place and its label
an_entry_without_a_sign : (block_with color_legend (rows_of kind.Color)
    (record { sign = None; label = codes "u" } ∷ record { sign = Some (sign_form.Painted (codes "#f58518")); label = codes "v" } ∷ [])).items
    ≡ words_at (title_style false Start) (pos 0) (pixels 11) (codes "c")
    ∷ swatch (codes "#f58518") 1 31 ∷ words (codes "u") 16 25 ∷ words (codes "v") 16 39 ∷ []
unfolding plus minus
an_entry_without_a_sign = refl

the_size_of_a_legend : (block_width title_c (rows_of kind.Color) two_entries ≡ 22) × (block_height title_c (rows_of kind.Color) two_entries ≡ 43)
    × (block_width None (rows_of kind.Size) two_entries ≡ 32) × (block_height None (rows_of kind.Size) two_entries ≡ 44)
unfolding columns_of unicode_width
the_size_of_a_legend = (refl, refl, refl, refl)

legends_without_entries : (block_width title_c (rows_of kind.Color) [] ≡ 7) × (block_height title_c (rows_of kind.Color) [] ≡ 15)
    × (block_width None (rows_of kind.Color) [] ≡ 0) × (block_height None (rows_of kind.Color) [] ≡ 0)
unfolding columns_of unicode_width
legends_without_entries = (refl, refl, refl, refl)
