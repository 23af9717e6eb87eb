-- What is drawn behind references, as definitions see it.
use Rattle.std.specs.Prelude.{◌≡◌, ℕ, suc, ℤ, ◌+ℤ◌, Option, Some, None, List, ◌∷◌, All, map, Result, Ok, Err, if◌then◌else◌}
use Rattle.std.specs.Option.{option_map}
use Rattle.std.specs.Borrow.{Bor}
use Rattle.cell_value.specs.declared.cell.Cell.{Cell}
use Rattle.fixed_num.specs.Ranges.{◌>>=◌, all_found, in_range}
use Rattle.expr_eval.specs.declared.error.EvalError.{EvalError}
use Rattle.expr_eval.specs.declared.error.EvalError.TheVariants as error
use Rattle.mark_encode.specs.declared.channels.ChannelName.{ChannelName}
use Rattle.vega_spec.specs.declared.spec.Group.{Group, out-Group}
use Rattle.vega_spec.specs.declared.spec.VgMark.{VgMark, VgMark-F, out-VgMark}
use Rattle.vega_scales.specs.declared.scaled.Scaled.{Scaled}
use Rattle.vega_signals.specs.Extents.{Settled}
use Rattle.plot_scenes.specs.Axes.{IsAxisShown}
use Rattle.plot_scenes.specs.Legends.{IsLegendShown}
use Rattle.vega_copies.specs.declared.facts.CopyFacts.{CopyFacts, out-CopyFacts}
use Rattle.vega_copies.specs.declared.facts.MarkFacts.{MarkFacts}
use Rattle.vega_copies.specs.declared.facts.Step.{Step}
use Rattle.vega_copies.specs.Outlines.{Object}
use Rattle.vega_copies.specs.inner.Kept.{KeepsMarks}
use Rattle.vega_copies.specs.Facts.{Found, CopyFound}
use Rattle.vega_copies.specs.inner.FactsSeen.{ListsOnPaths, copy_seen, copies_seen, marks_seen, FactsFit, MarksFit}
use Rattle.vega_copies.specs.inner.Outlined.{marks_in, marks_of, marks_from, is_group, plain_of, group_object}
use Rattle.vega_drawing.specs.declared.frames.Frame.{Frame as HeldFrame}
use Rattle.vega_drawing.specs.declared.inside.Inside.{Inside as HeldInside}
use Rattle.vega_drawing.specs.Scales.{and_outer, own_scales}
use Rattle.vega_drawing.specs.Frames.{Frame, encoded_number, of_no_chart, placed_at, moved_copy}
use Rattle.vega_drawing.specs.Insides.{ItemsOfMarks, Inside, and_inside, all_inside, items_inside, with_guides, drawn_in}
use Rattle.vega_drawing.specs.inner.Framed.{values_of, frame_seen, cells_seen}
use Rattle.vega_drawing.specs.inner.Levels.{values_over}

-- what is held of what marks draw
abbrev pub inside_seen : HeldInside → Inside
inside_seen i = record { axes = i.axes; legends = i.legends; items = i.items }

-- each axis and each legend is over a scale such as its drawing asks for
pub record IsInside (i : HeldInside) : Type 0 where
  pub axes : All IsAxisShown i.axes
  pub legends : All IsLegendShown i.legends

-- What was drawn stands behind what there was; it is `Overflow` exactly where nothing is drawn, unless memory was refused.
abbrev pub DrawsMore : {X : Type 0} → Result X EvalError → HeldInside → HeldInside → Option Inside → Type 0
DrawsMore (Ok x) old new drawn = option_map (and_inside (inside_seen old)) drawn ≡ Some (inside_seen new)
DrawsMore (Err error.Overflow) old new drawn = drawn ≡ None
DrawsMore (Err error.Memory) old new drawn = Unit {0}

-- marks that keep the rules, with facts that fit them
pub record MayShow (marks : List VgMark) (found : List MarkFacts) : Type 0 where
  pub kept : KeepsMarks (marks_of marks)
  pub fit : MarksFit (marks_of marks) found

-- the facts of a copy of a group fit it
abbrev pub CopyFits : VgMark-F Group VgMark → CopyFacts → Type 0
CopyFits m c = FactsFit (group_object 0 m) (marks_of (marks_in (out-Group m.group))) c

-- what was found of the copy to which a step leads
abbrev pub copy_in_frame : ListsOnPaths → HeldFrame → Step → CopyFacts → CopyFound
copy_in_frame lists f step copy = copy_seen lists copy (step ∷ f.path.now) (values_of f)

-- what was found of the copies of the mark at a place, from a number on
abbrev pub copies_from : ListsOnPaths → HeldFrame → ℕ → ℕ → List CopyFacts → List CopyFound
copies_from lists f place n copies = copies_seen lists f.path.now (values_of f) place n copies

-- ---- what a copy of a group draws, step by step

-- marks in a copy of a group, which has this number
abbrev pub drawn_inside : ItemsOfMarks → ℕ → ℕ → VgMark-F Group VgMark → Found → Frame → Option Inside
drawn_inside items unit number m found here =
    option_map (with_guides (group_object number m) here)
    (drawn_in items (marks_from unit (suc number) (marks_in (out-Group m.group))) found here)

-- how far a copy of a group is moved along a channel of its place, where the copy round it is moved so far
abbrev pub placed_from : Frame → Object → ChannelName → ℤ → Option ℤ
placed_from frame o c from = encoded_number frame o c >>= λ by. in_range (from +ℤ by)

abbrev pub drawn_framed : ItemsOfMarks → Frame → ℕ → ℕ → VgMark-F Group VgMark → Found → Option Inside
drawn_framed items frame unit number m found = placed_at (group_object number m) frame >>= drawn_inside items unit number m found

-- the same before its own scales are
abbrev pub drawn_scaled : ItemsOfMarks → Frame → ℕ → ℕ → VgMark-F Group VgMark → List Scaled → Found → Option Inside
drawn_scaled items named unit number m domains found =
    drawn_framed items (record named { scales = and_outer named.scales (own_scales of_no_chart (group_object 0 m).scales domains) }) unit number m found

-- a copy in another to which these steps lead, where these are the levels of signals and the cells of the facets round it
abbrev pub entered : ListsOnPaths → HeldFrame → List Step → List (Bor Settled) → Option (Bor (List (List ℕ × Cell))) → Frame
entered lists outer path levels cells =
    record (frame_seen lists outer) { names = record { lists = lists path; values = values_over outer.values.stores.now levels }; cells = cells_seen cells }

-- what it draws
abbrev pub drawn_entered : ItemsOfMarks → ListsOnPaths → HeldFrame → List Step → List (Bor Settled) → Option (Bor (List (List ℕ × Cell))) → ℕ → ℕ
    → VgMark-F Group VgMark → CopyFacts → Option Inside
drawn_entered items lists outer path levels cells unit number m copy =
    drawn_scaled items (entered lists outer path levels cells) unit number m (out-CopyFacts copy).domains
    (marks_seen lists path (values_over outer.values.stores.now levels) 0 (out-CopyFacts copy).inside)

abbrev pub drawn_copy : ItemsOfMarks → Frame → ℕ → ℕ → VgMark-F Group VgMark → CopyFound → Option Inside
drawn_copy items outer unit number m copy = moved_copy outer (group_object number m) copy.facts >>= drawn_inside items unit number m copy.inside

abbrev pub drawn_group : ItemsOfMarks → Frame → ℕ → ℕ → VgMark-F Group VgMark → List CopyFound → Option Inside
drawn_group items frame unit number m copies = option_map all_inside (all_found (map (drawn_copy items frame unit number m) copies))

-- what one mark draws, a group with these copies
abbrev pub drawn_one : ItemsOfMarks → Frame → ℕ → ℕ → VgMark → List CopyFound → Option Inside
drawn_one items frame unit number m copies =
    if is_group (out-VgMark m) then drawn_group items frame unit number (out-VgMark m) copies
    else option_map items_inside (items unit (plain_of (out-VgMark m)) frame)
