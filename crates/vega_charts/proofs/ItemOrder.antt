-- Items have the numbers of their marks, so those of numbered marks stand in the order of their marks.
use Rattle.std.proofs.Common.{◌≡◌, ℕ, suc, ◌≤◌, ◌==◌, nat_lt, Bool, true, false, cond, ℤ, Option, Some, None, List, [], ◌∷◌, ◌++◌, map, option_to_list}
use Rattle.std.proofs.Common.{refl, ap, subst, ◌∙◌, arith}
use Rattle.std.specs.Prelude.{IfSome, unwrap_or}
use Rattle.std.specs.Option.{option_map}
use Rattle.std.specs.Ordering.{nat_cmp, is_lt}
use Rattle.std.specs.declared.cmp.Ordering.TheVariants.{Less, Equal, Greater}
use Rattle.std.specs.List.{All, cons_option, filter_map}
use Rattle.std.proofs.lemmas.Bool.Decides.{nat_tests}
use Rattle.std.proofs.lemmas.List.Elements.{All-nil, All-cons, All-head, All-tail}
use Rattle.fixed_num.specs.Ranges.{◌>>=◌, all_found}
use Rattle.cell_value.specs.declared.state.Key.{Key}
use Rattle.cell_value.specs.Datum.{Datum}
use Rattle.expr_eval.specs.Values.{Values}
use Rattle.plain_orders.specs.Orders.{placed}
use Rattle.scene_tree.specs.declared.scene.Item.{Item}
use Rattle.scene_tree.specs.declared.shape.Point.{Point}
use Rattle.scene_tree.specs.declared.shape.Shape.{Shape}
use Rattle.vega_spec.specs.declared.marks.MarkType.{MarkType}
use Rattle.mark_shapes.specs.declared.looks.Look.{Look}
use Rattle.mark_shapes.specs.declared.runs.PathStop.{PathStop}
use Rattle.mark_shapes.specs.Runs.{points_of}
use Rattle.mark_shapes.specs.Paths.{path_item}
use Rattle.mark_shapes.specs.Items.{item_with}
use Rattle.mark_encode.specs.declared.channels.ChannelName.{ChannelName}
use Rattle.mark_encode.specs.Channels.{ScaledValue, channel_values}
use Rattle.mark_encode.specs.Looks.{default_stroke_width, look_for, looks_of, painted_on}
use Rattle.mark_encode.specs.Orders.{rows_in_order}
use Rattle.mark_encode.specs.Paths.{PathValues, stops_for, path_look_for, path_over, is_closed, path_values_of}
use Rattle.mark_encode.specs.Items.{shape_for, picked_key, items_with, item_for, is_path, items_by}
use Rattle.vega_copies.specs.Outlines.{Marks, NoMarks, AMark, AGroup, PlainMark, numbered}
use Rattle.vega_drawing.specs.Scales.{set_of}
use Rattle.vega_drawing.specs.Frames.{Frame}
use Rattle.vega_charts.specs.Items.{items_in_plot, rows_of_mark}
use Rattle.vega_drawing.specs.Units.{by_unit, in_unit_order}
use Rattle.vega_charts.specs.Laws.{has_no_groups}
use Rattle.vega_charts.specs.OnePlotLaws.{items_of_marks}

-- ---- the items of a mark

module _ (unit : ℕ) where
  -- an item of the mark of this number
  abbrev pub IsOf : Item → Type 0
  IsOf item = item.unit ≡ Some unit

  abbrev AllOf : Option (List Item) → Type 0
  AllOf items = IfSome items (All IsOf)

  shape_of : (key : Option Key) (found : Option Shape) (painted : Option Look) → IfSome (item_with unit key found painted) IsOf
  shape_of key None painted = tt
  shape_of key (Some shape) None = tt
  shape_of key (Some shape) (Some look) = refl

  path_of : (points : List Point) (painted : Option Look) → IfSome (path_item unit points painted) IsOf
  path_of [] painted = tt
  path_of (point ∷ points) None = tt
  path_of (point ∷ points) (Some look) = refl

  before : (o : Option Item) (others : List Item) → IfSome o IsOf → All IsOf others → All IsOf (cons_option o others)
  before None others is all = all
  before (Some item) others is all = All-cons IsOf item others is all

  alone : (o : Option Item) → IfSome o IsOf → All IsOf (option_to_list o)
  alone None is = All-nil IsOf
  alone (Some item) is = All-cons IsOf item [] is (All-nil IsOf)

  path_drawn : (closed : Bool) (stops : Option (List (Option PathStop))) (painted : Option (Option Look))
      → AllOf (stops >>= λ stops. painted >>= λ look. Some (option_to_list (path_item unit (points_of closed stops) look)))
  path_drawn closed None painted = tt
  path_drawn closed (Some stops) None = tt
  path_drawn closed (Some stops) (Some look) = alone (path_item unit (points_of closed stops) look) (path_of (points_of closed stops) look)

  of_path : (default : ℕ) (path : PathValues) (values : Values) (rows : List Datum) → AllOf (path_over unit default path values rows)
  of_path default path values [] = All-nil IsOf
  of_path default path values (first ∷ others) =
      path_drawn path.closed (stops_for path values (first ∷ others)) (path_look_for default path.looks values first.cell)

  of_row : (type : MarkType) (key : Option Key) (found : Option (Option Shape)) (painted : Option (Option Look))
      → IfSome (found >>= λ shape. painted >>= λ look. Some (item_with unit key shape (painted_on type look))) (λ o. IfSome o IsOf)
  of_row type key None painted = tt
  of_row type key (Some shape) None = tt
  of_row type key (Some shape) (Some look) = shape_of key shape (painted_on type look)

  one_more : (o : Option (Option Item)) (rest : Option (List (Option Item))) → IfSome o (λ o. IfSome o IsOf)
      → AllOf (option_map (filter_map (λ found. found)) rest)
      → AllOf (option_map (filter_map (λ found. found)) (o >>= λ x. rest >>= λ xs. Some (x ∷ xs)))
  one_more None rest is all = tt
  one_more (Some x) None is all = tt
  one_more (Some x) (Some xs) is all = before x (filter_map (λ found. found) xs) is all

  of_rows : (item : Datum → Option (Option Item)) → ((row : Datum) → IfSome (item row) (λ o. IfSome o IsOf)) → (rows : List Datum)
      → AllOf (items_with item rows)
  of_rows item each [] = All-nil IsOf
  of_rows item each (row ∷ rows) = one_more (item row) (all_found (map item rows)) (each row) (of_rows item each rows)

  of_mark : (b : Bool) (type : MarkType) (width height : ℤ) (channels : ChannelName → List ScaledValue) (values : Values) (rows : List Datum)
      → AllOf (items_by b type unit width height channels values rows)
  of_mark true type width height channels values rows = of_path (default_stroke_width type) (path_values_of (is_closed type) channels) values rows
  of_mark false type width height channels values rows =
      of_rows (item_for type unit width height channels values)
      (λ row. of_row type (picked_key type row.key) (shape_for type width height channels row.cell values)
      (look_for (default_stroke_width type) row.cell values (looks_of channels))) rows

  in_plot : (frame : Frame) (m : PlainMark) (rows : List Datum) → AllOf (items_in_plot frame unit m rows)
  in_plot frame m rows =
      of_mark (is_path m.type) m.type frame.width frame.height (channel_values (set_of frame.width frame.height frame.scales) m.encode)
      frame.names.values (rows_in_order m.sort rows)

-- ---- numbers that never fall

-- each item belongs to a mark, whose number is no less than those before it
abbrev Rises : ℕ → List Item → Type 0
Rises n [] = Unit {0}
Rises n (item ∷ items) = (unit : ℕ) × (item.unit ≡ Some unit) × (n ≤ unit) × Rises unit items

not_less : (a b : ℕ) → b ≤ a → is_lt (nat_cmp a b) ≡ false
not_less a b h =
    let no : nat_lt a b ≡ false = grind (arith, nat_tests) in
    ap (λ t. is_lt (cond t Less (cond (a == b) Equal Greater))) no ∙ either (a == b)
  where
    either : (t : Bool) → is_lt (cond t Equal Greater) ≡ false
    either true = refl
    either false = refl

first_stays : (unit : ℕ) (item : Item) (items : List Item) → item.unit ≡ Some unit → Rises unit items → placed by_unit item items ≡ item ∷ items
first_stays unit item [] is rise = refl
first_stays unit item (next ∷ items) is rise =
    let after : is_lt (by_unit next item) ≡ false =
    (λ i. is_lt (nat_cmp (unwrap_or (rise.1 i) 0) (unwrap_or (is i) 0))) ∙ not_less rise.0 unit rise.2 in
    ap (λ b. cond b (next ∷ placed by_unit item items) (item ∷ next ∷ items)) after

stay_in_order : (n : ℕ) (items : List Item) → Rises n items → in_unit_order items ≡ items
stay_in_order n [] rise = refl
stay_in_order n (item ∷ items) rise =
    ap (placed by_unit item) (stay_in_order rise.0 items rise.3) ∙ first_stays rise.0 item items rise.1 rise.3

from_less : (n m : ℕ) (items : List Item) → n ≤ m → Rises m items → Rises n items
from_less n m [] h rise = tt
from_less n m (item ∷ items) h rise = (rise.0, rise.1, omega (arith, h, rise.2), rise.3)

and_then : (n unit : ℕ) (own rest : List Item) → n ≤ unit → All (IsOf unit) own → Rises (suc unit) rest → Rises n (own ++ rest)
and_then n unit [] rest h all rise = from_less n (suc unit) rest (omega arith) rise
and_then n unit (item ∷ own) rest h all rise =
    (unit, All-head (IsOf unit) item own all, h, and_then unit unit own rest (omega arith) (All-tail (IsOf unit) item own all) rise)

-- what is found of two is found of both
pub found_both : (a b : Option (List Item)) (items : List Item) → (a >>= λ own. b >>= λ rest. Some (own ++ rest)) ≡ Some items
    → (own : List Item) × (rest : List Item) × (a ≡ Some own) × (b ≡ Some rest) × (own ++ rest ≡ items)
found_both None b items e = absurd (cc)
found_both (Some own) None items e = absurd (cc)
found_both (Some own) (Some rest) items e = let same : Some (own ++ rest) ≡ Some items = e in (own, rest, refl, refl, cc)

marks_rise : (unit number : ℕ) (marks : Marks) (frame : Frame) (items : List Item) → has_no_groups (numbered unit number marks) ≡ true
    → items_of_marks frame (numbered unit number marks) ≡ Some items → Rises unit items
marks_rise unit number NoMarks frame items none e = subst (λ o. IfSome o (Rises unit)) e tt
marks_rise unit number (AMark old m others) frame items none e =
    let rows = rows_of_mark frame.names.lists m.from in
    let (own, rest, first, behind, joined) =
    found_both (items_in_plot frame unit m rows) (items_of_marks frame (numbered (suc unit) number others)) items e in
    let here : All (IsOf unit) own = subst (λ o. IfSome o (All (IsOf unit))) first (in_plot unit frame m rows) in
    let there : Rises (suc unit) rest = marks_rise (suc unit) number others frame rest none behind in
    subst (Rises unit) joined (and_then unit unit own rest (omega arith) here there)
marks_rise unit number (AGroup o inside others) frame items none e = absurd (cc)

-- the items of numbered marks stand in the order of their marks
pub in_order_already : (all marks : Marks) (frame : Frame) (items : List Item) → numbered 0 1 all ≡ marks → has_no_groups marks ≡ true
    → items_of_marks frame marks ≡ Some items → in_unit_order items ≡ items
in_order_already all marks frame items e none found =
    stay_in_order 0 items (marks_rise 0 1 all frame items (ap has_no_groups e ∙ none) (ap (items_of_marks frame) e ∙ found))
