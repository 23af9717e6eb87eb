-- What a copy of a group draws, step by step.
use Rattle.std.proofs.Common.{◌≡◌, ℕ, ◌+◌, ◌<◌, ◌^◌, true, Option, Some, None, List, [], ◌∷◌, ◌++◌, map, length, drop, get_or, refl, sym}
use Rattle.std.proofs.Common.{ap, ◌∙◌, arith, subst, append-nil}
use Rattle.std.specs.Prelude.{All, Result, Ok, Err, ℤ, ◌+ℤ◌}
use Rattle.std.specs.List.{filter}
use Rattle.std.specs.Option.{option_map}
use Rattle.std.specs.Borrow.{Bor}
use Rattle.std.proofs.lemmas.List.Elements.{All-head, All-tail}
use Rattle.fixed_num.specs.Ranges.{◌>>=◌, all_found, in_range}
use Rattle.cell_value.specs.declared.cell.Cell.{Cell}
use Rattle.expr_eval.specs.declared.error.EvalError.{EvalError}
use Rattle.expr_eval.specs.declared.error.EvalError.TheVariants as error
use Rattle.mark_encode.specs.declared.channels.ChannelName.TheVariants as channel
use Rattle.vega_scales.specs.declared.scaled.Scaled.{Scaled}
use Rattle.vega_signals.specs.Extents.{Settled}
use Rattle.vega_signals.specs.Settling.{values_inside}
use Rattle.vega_spec.specs.declared.spec.Group.{Group}
use Rattle.vega_spec.specs.declared.spec.VgMark.{VgMark, VgMark-F, out-VgMark}
use Rattle.vega_copies.specs.declared.facts.CopyFacts.{CopyFacts, out-CopyFacts}
use Rattle.vega_copies.specs.declared.facts.MarkFacts.{MarkFacts, out-MarkFacts}
use Rattle.vega_copies.specs.declared.facts.Step.{Step}
use Rattle.vega_copies.specs.Outlines.{Object}
use Rattle.vega_copies.specs.Facts.{Found}
use Rattle.vega_copies.specs.inner.FactsSeen.{ListsOnPaths, marks_seen}
use Rattle.vega_copies.specs.inner.Outlined.{is_group, group_object, AreFew}
use Rattle.vega_copies.proofs.MadeLemmas.{at_place}
use Rattle.vega_copies.proofs.OutlineLemmas.{group_grouped}
use Rattle.vega_copies.proofs.SeenFacts.{copy_opened, group_fits}
use Rattle.vega_drawing.specs.declared.frames.Frame.{Frame as HeldFrame}
use Rattle.vega_drawing.specs.declared.inside.Inside.{Inside as HeldInside}
use Rattle.vega_drawing.specs.Scales.{ScaleHere, and_outer, own_scales}
use Rattle.vega_drawing.specs.Frames.{Frame, encoded_number, more_cells, of_no_chart}
use Rattle.vega_drawing.specs.Insides.{ItemsOfMarks, Inside, and_inside, all_inside, nothing_inside, with_guides}
use Rattle.vega_drawing.specs.Guides.{axes_over, own_axes, legends_in}
use Rattle.vega_drawing.specs.inner.Framed.{frame_seen, cells_seen, values_of, IsFrame}
use Rattle.vega_drawing.specs.inner.Levels.{values_over}
use Rattle.vega_drawing.specs.inner.Drawn.{inside_seen, IsInside, DrawsMore, MayShow, CopyFits, copies_from, copy_in_frame}
use Rattle.vega_drawing.specs.inner.Drawn.{placed_from, drawn_inside, drawn_framed, drawn_scaled, drawn_entered, drawn_copy, drawn_group}
use Rattle.vega_drawing.proofs.DrawnLemmas.{nothing_last, joined, and_rest, behind_both, none_behind, none_drawn}
use Rattle.vega_drawing.proofs.ValueLemmas.{values_entered}

-- a group has a number below the greatest
pub group_numbered : (unit number : ℕ) (m : VgMark) → is_group (out-VgMark m) ≡ true → AreFew unit number (m ∷ []) → number + 1 < 2 ^ 32
group_numbered unit number m e few = omega (arith, few.numbers, group_grouped m [] e)

-- ---- what holds of a copy that differs in a part

pub moved_frame : (f : HeldFrame) (x y : ℤ) → IsFrame f → IsFrame (record f { x = x; y = y })
moved_frame f x y is =
    record { scales = is.scales; set = is.set; sound = is.sound; axes = is.axes; width = is.width; height = is.height }

pub entered_frame : (outer : HeldFrame) (path : Bor (List Step)) (levels : Bor (List (Bor Settled))) (cells : Option (Bor (List (List ℕ × Cell))))
    → IsFrame outer
    → IsFrame (record outer { path = path; values = record { stores = outer.values.stores; levels = levels }; cells = cells })
entered_frame outer path levels cells is =
    record { scales = is.scales; set = is.set; sound = is.sound; axes = is.axes; width = is.width; height = is.height }

-- ---- a copy that is entered

module _ (items : ItemsOfMarks) (lists : ListsOnPaths) (outer : HeldFrame) (unit number : ℕ) (m : VgMark-F Group VgMark) (copy : CopyFacts) (step : Step) where
  pub copy_entered : (path : List Step) (levels : List (Bor Settled)) (cells : Option (Bor (List (List ℕ × Cell)))) → path ≡ step ∷ outer.path.now
      → map (λ l. l.now) levels ≡ (out-CopyFacts copy).signals ∷ map (λ l. l.now) outer.values.levels.now
      → cells_seen cells ≡ more_cells (cells_seen outer.cells) (out-CopyFacts copy).cells
      → drawn_entered items lists outer path levels cells unit number m copy
      ≡ drawn_copy items (frame_seen lists outer) unit number m (copy_in_frame lists outer step copy)
  copy_entered path levels cells there more both =
      let values : values_over outer.values.stores.now levels ≡ values_inside (out-CopyFacts copy).signals (values_of outer) =
      values_entered outer.values.stores.now levels outer.values.levels.now (out-CopyFacts copy).signals more in
      (λ i. drawn_scaled items (record (frame_seen lists outer) {
        names = record { lists = lists (there i); values = values i };
        cells = both i;
      })
      unit number m (out-CopyFacts copy).domains (marks_seen lists (there i) (values i) 0 (out-CopyFacts copy).inside))
      ∙ sym (ap (drawn_copy items (frame_seen lists outer) unit number m) (copy_opened lists copy (step ∷ outer.path.now) (values_of outer)))

-- ---- a copy at the place that it encodes

nowhere : (Y : Type 0) (o : Option ℤ) → ◌≡◌ {A = Option Y} (o >>= λ x. None) None
nowhere Y None = refl
nowhere Y (Some x) = refl

module _ {Y : Type 0} (f g : ℤ → Option ℤ) (h : ℤ → ℤ → Frame) (k : Frame → Option Y) where
  both_places : (p q : Option ℤ) → ((p >>= λ x. q >>= λ y. Some (h x y)) >>= k) ≡ (p >>= λ x. q >>= λ y. k (h x y))
  both_places None q = refl
  both_places (Some x) None = refl
  both_places (Some x) (Some y) = refl

  placed_then : (a b : Option ℤ) → ((a >>= λ dx. b >>= λ dy. f dx >>= λ x. g dy >>= λ y. Some (h x y)) >>= k)
      ≡ ((a >>= f) >>= λ x. (b >>= g) >>= λ y. k (h x y))
  placed_then None b = refl
  placed_then (Some dx) None = sym (nowhere Y (f dx))
  placed_then (Some dx) (Some dy) = both_places (f dx) (g dy)

module _ (items : ItemsOfMarks) (frame : Frame) (unit number : ℕ) (m : VgMark-F Group VgMark) (found : Found) where
  abbrev here_x : Option ℤ
  here_x = placed_from frame (group_object 0 m) channel.X frame.x

  abbrev here_y : Option ℤ
  here_y = placed_from frame (group_object 0 m) channel.Y frame.y

  abbrev drawn_at : ℤ → ℤ → Option Inside
  drawn_at x y = drawn_inside items unit number m found (record frame { x = x; y = y })

  framed_is : drawn_framed items frame unit number m found ≡ (here_x >>= λ x. here_y >>= λ y. drawn_at x y)
  framed_is =
      placed_then (λ dx. in_range (frame.x +ℤ dx)) (λ dy. in_range (frame.y +ℤ dy)) (λ x y. record frame { x = x; y = y })
      (drawn_inside items unit number m found) (encoded_number frame (group_object number m) channel.X)
      (encoded_number frame (group_object number m) channel.Y)

  pub no_x : here_x ≡ None → drawn_framed items frame unit number m found ≡ None
  no_x e = framed_is ∙ ap (λ o. o >>= λ x. here_y >>= λ y. drawn_at x y) e

  pub no_y : here_y ≡ None → drawn_framed items frame unit number m found ≡ None
  no_y e = framed_is ∙ ap (λ o. here_x >>= λ x. o >>= λ y. drawn_at x y) e ∙ nowhere Inside here_x

  pub framed_at : (x y : ℤ) → here_x ≡ Some x → here_y ≡ Some y
      → drawn_framed items frame unit number m found ≡ drawn_inside items unit number m found (record frame { x = x; y = y })
  framed_at x y at_x at_y =
      framed_is ∙ ap (λ o. o >>= λ x. here_y >>= λ y. drawn_at x y) at_x ∙ ap (λ o. o >>= λ y. drawn_at x y) at_y

-- what is drawn behind the guides of a copy
guides_first : (o : Object) (here : Frame) (i : Inside) → and_inside (with_guides o here nothing_inside) i ≡ with_guides o here i
guides_first o here i = λ j. record {
  axes = append-nil (axes_over here.width here.height (own_axes o here)) j ++ i.axes;
  legends = append-nil (legends_in o here) j ++ i.legends;
  items = i.items;
}

pub behind_guides : (result : Result (Unit {0}) EvalError) (old mid new : HeldInside) (o : Object) (here : Frame) (drawn : Option Inside)
    → inside_seen mid ≡ and_inside (inside_seen old) (with_guides o here nothing_inside)
    → DrawsMore {X = Unit {0}} result mid new drawn → DrawsMore {X = Unit {0}} result old new (option_map (with_guides o here) drawn)
behind_guides (Ok x) old mid new o here None guides draws = cc
behind_guides (Ok x) old mid new o here (Some i) guides draws =
    ap Some (ap (and_inside (inside_seen old)) (sym (guides_first o here i))
    ∙ sym (joined (inside_seen old) (with_guides o here nothing_inside) i) ∙ ap (λ a. and_inside a i) (sym guides))
    ∙ draws
behind_guides (Err error.Overflow) old mid new o here drawn guides draws = ap (option_map (with_guides o here)) draws
behind_guides (Err error.Memory) old mid new o here drawn guides draws = tt

-- ---- a copy with its own scales

all_pass : {X : Type 0} (xs : List X) → filter (λ x. true) xs ≡ xs
all_pass [] = refl
all_pass (x ∷ xs) = ap (λ l. x ∷ l) (all_pass xs)

-- an object without scales has those round it
pub none_hidden : (outer own : List ScaleHere) → own ≡ [] → outer ≡ and_outer outer own
none_hidden outer own none = sym (all_pass outer) ∙ ap (and_outer outer) (sym none)

-- with all scales that have names in it
pub scaled_with : (items : ItemsOfMarks) (named : Frame) (unit number : ℕ)
    (m : VgMark-F Group VgMark) (domains : List Scaled) (found : Found) (scales : List ScaleHere)
    → scales ≡ and_outer named.scales (own_scales of_no_chart (group_object 0 m).scales domains)
    → drawn_framed items (record named { scales = scales }) unit number m found ≡ drawn_scaled items named unit number m domains found
scaled_with items named unit number m domains found scales is = ap (λ s. drawn_framed items (record named { scales = s }) unit number m found) is

-- ---- copies that are left to be drawn, and what comes of them behind what there is

pub record CopiesLeft (items : ItemsOfMarks) (lists : ListsOnPaths) (f : HeldFrame)
    (begun : HeldInside) (whole : Option Inside) (unit number place : ℕ) (m : VgMark)
    (n : ℕ) (copies : List CopyFacts) (out : HeldInside) : Type 0 where
  pub fits : All (CopyFits (out-VgMark m)) copies
  pub draws : option_map (and_inside (inside_seen out))
      (drawn_group items (frame_seen lists f) unit number (out-VgMark m) (copies_from lists f place n copies)) ≡ whole
  pub kept : IsInside begun → IsInside out

one_and_rest : (a : Option Inside) (rest : Option (List Inside))
    → option_map all_inside (a >>= λ x. rest >>= λ xs. Some (x ∷ xs)) ≡ and_rest a (option_map all_inside rest)
one_and_rest None rest = refl
one_and_rest (Some x) None = refl
one_and_rest (Some x) (Some xs) = refl

module _ (items : ItemsOfMarks) (lists : ListsOnPaths) (f : HeldFrame) (begun : HeldInside)
    (whole : Option Inside) (unit number place : ℕ) (m : VgMark) (n : ℕ) where
  abbrev all_drawn : ℕ → List CopyFacts → Option Inside
  all_drawn n copies = drawn_group items (frame_seen lists f) unit number (out-VgMark m) (copies_from lists f place n copies)

  pub no_copies_left : (copies : List CopyFacts) (out : HeldInside) → copies ≡ [] → CopiesLeft items lists f begun whole unit number place m n copies out
      → whole ≡ Some (inside_seen out)
  no_copies_left copies out none left =
      sym left.draws ∙ ap (λ cs. option_map (and_inside (inside_seen out)) (all_drawn n cs)) none ∙ ap Some (nothing_last (inside_seen out))

  module _ (all : List CopyFacts) (copy : CopyFacts) (out : HeldInside) (within : n < length all) (is : copy ≡ get_or all n copy)
      (left : CopiesLeft items lists f begun whole unit number place m n (drop n all) out) where
    abbrev rest : List CopyFacts
    rest = drop (n + 1) all

    next_left : CopiesLeft items lists f begun whole unit number place m n (copy ∷ rest) out
    next_left = subst (λ cs. CopiesLeft items lists f begun whole unit number place m n cs out) (at_place all n copy within is) left

    pub next_copy : CopyFits (out-VgMark m) copy
    next_copy = All-head (CopyFits (out-VgMark m)) copy rest next_left.fits

    abbrev one_drawn : Option Inside
    one_drawn = drawn_copy items (frame_seen lists f) unit number (out-VgMark m) (copy_in_frame lists f (record { mark = place; copy = n }) copy)

    all_is : option_map (and_inside (inside_seen out)) (and_rest one_drawn (all_drawn (n + 1) rest)) ≡ whole
    all_is =
        ap (option_map (and_inside (inside_seen out)))
        (sym (one_and_rest one_drawn
        (all_found (map (drawn_copy items (frame_seen lists f) unit number (out-VgMark m)) (copies_from lists f place (n + 1) rest)))))
        ∙ next_left.draws

    pub copy_drawn : (new : HeldInside) → option_map (and_inside (inside_seen out)) one_drawn ≡ Some (inside_seen new) → (IsInside out → IsInside new)
        → CopiesLeft items lists f begun whole unit number place m (n + 1) rest new
    copy_drawn new drawn keeps = record {
      fits = All-tail (CopyFits (out-VgMark m)) copy rest next_left.fits;
      draws = behind_both (inside_seen out) one_drawn (all_drawn (n + 1) rest) (inside_seen new) drawn ∙ all_is;
      kept = λ inside. keeps (next_left.kept inside);
    }

    pub copy_ends : (e : EvalError) (after before new : HeldInside) (old : Inside) (all : Option Inside) → whole ≡ option_map (and_inside old) all
        → DrawsMore {X = Unit {0}} (Err e) out after one_drawn → DrawsMore {X = Unit {0}} (Err e) before new all
    copy_ends error.Overflow after before new old all is none =
        none_drawn old all (sym is ∙ sym all_is ∙ none_behind (inside_seen out) one_drawn (all_drawn (n + 1) rest) none)
    copy_ends error.Memory after before new old all is none = tt

-- the copies that were found
pub copies_begun : (items : ItemsOfMarks) (lists : ListsOnPaths) (f : HeldFrame) (out : HeldInside) (unit number place : ℕ) (m : VgMark) (found : MarkFacts)
    (copies : List CopyFacts) → copies ≡ (out-MarkFacts found).copies → is_group (out-VgMark m) ≡ true → MayShow (m ∷ []) (found ∷ [])
    → CopiesLeft items lists f out (option_map (and_inside (inside_seen out)) (drawn_group items (frame_seen lists f) unit number (out-VgMark m)
    (copies_from lists f place 0 (out-MarkFacts found).copies))) unit number place m 0 copies out
copies_begun items lists f out unit number place m found copies is e show = record {
  fits = subst (All (CopyFits (out-VgMark m))) (sym is) (group_fits m found e show.fit);
  draws =
      ap (λ cs. option_map (and_inside (inside_seen out))
      (drawn_group items (frame_seen lists f) unit number (out-VgMark m) (copies_from lists f place 0 cs))) is;
  kept = λ inside. inside;
}
