-- What is drawn in a plot, one after the other.
use Rattle.std.proofs.Common.{◌≡◌, ℕ, suc, ◌+◌, ◌<◌, ◌^◌, Bool, true, false, cond, Option, Some, None, List, [], ◌∷◌, ◌++◌, map, length}
use Rattle.std.proofs.Common.{length-drop, drop, get_or, refl, sym, ap, ◌∙◌, arith, subst, append_assoc, append-nil}
use Rattle.std.specs.Prelude.{Err}
use Rattle.std.specs.Option.{option_map}
use Rattle.fixed_num.specs.Ranges.{◌>>=◌, all_found}
use Rattle.expr_eval.specs.Answers.{Evaluates}
use Rattle.expr_eval.specs.declared.error.EvalError.{EvalError}
use Rattle.expr_eval.specs.declared.error.EvalError.TheVariants as error
use Rattle.scene_tree.specs.declared.scene.Item.{Item}
use Rattle.vega_spec.specs.declared.spec.Group.{out-Group}
use Rattle.vega_spec.specs.declared.spec.VgMark.{VgMark, out-VgMark}
use Rattle.plot_scenes.specs.declared.axes.AxisShown.{AxisShown}
use Rattle.plot_scenes.specs.declared.legends.LegendShown.{LegendShown}
use Rattle.vega_copies.specs.declared.facts.MarkFacts.{MarkFacts, out-MarkFacts}
use Rattle.vega_copies.specs.Outlines.{Marks, count_marks, count_groups}
use Rattle.vega_copies.specs.Facts.{Found, CopyFound, first_copies, behind_first}
use Rattle.vega_copies.specs.inner.FactsSeen.{ListsOnPaths}
use Rattle.vega_copies.specs.inner.Outlined.{marks_in, is_group, marks_of, marks_from, plain_of, AreFew}
use Rattle.vega_copies.proofs.MadeLemmas.{at_place}
use Rattle.vega_copies.proofs.OutlineLemmas.{plain_from, group_from, plain_counted, group_counted, plain_grouped, group_grouped}
use Rattle.vega_copies.proofs.SeenFacts.{marks_first, copies_in_gathered}
use Rattle.vega_copies.proofs.StandLemmas.{few_first, few_rest}
use Rattle.vega_drawing.specs.declared.frames.Frame.{Frame as HeldFrame}
use Rattle.vega_drawing.specs.declared.inside.Inside.{Inside as HeldInside}
use Rattle.vega_drawing.specs.Frames.{Frame}
use Rattle.vega_drawing.specs.Insides.{ItemsOfMarks, Inside, and_inside, all_inside, nothing_inside, items_inside, drawn_in}
use Rattle.vega_drawing.specs.inner.Framed.{frame_seen, found_in_frame, values_of}
use Rattle.vega_drawing.specs.inner.Drawn.{inside_seen, IsInside, DrawsMore, MayShow, copies_from, drawn_copy, drawn_group, drawn_one}
use Rattle.vega_drawing.proofs.ShownLemmas.{some_facts, show_first, show_rest}

-- ---- one after the other

pub nothing_last : (a : Inside) → and_inside a nothing_inside ≡ a
nothing_last a = λ i. record { axes = append-nil a.axes i; legends = append-nil a.legends i; items = append-nil a.items i }

pub joined : (a b c : Inside) → and_inside (and_inside a b) c ≡ and_inside a (and_inside b c)
joined a b c = λ i. record {
  axes = append_assoc a.axes b.axes c.axes i;
  legends = append_assoc a.legends b.legends c.legends i;
  items = append_assoc a.items b.items c.items i;
}

-- what some draw, and then others
abbrev pub and_rest : Option Inside → Option Inside → Option Inside
and_rest a b = a >>= λ x. b >>= λ y. Some (and_inside x y)

pub nothing_behind : (o : Option Inside) → and_rest o (Some nothing_inside) ≡ o
nothing_behind None = refl
nothing_behind (Some a) = ap Some (nothing_last a)

nothing_before : (o : Option Inside) → and_rest (Some nothing_inside) o ≡ o
nothing_before None = refl
nothing_before (Some a) = refl

-- some behind what there is, and then others
pub behind_both : (old : Inside) (a b : Option Inside) (mid : Inside) → option_map (and_inside old) a ≡ Some mid
    → option_map (and_inside mid) b ≡ option_map (and_inside old) (and_rest a b)
behind_both old None b mid e = cc
behind_both old (Some x) None mid e = refl
behind_both old (Some x) (Some y) mid e =
    let is : Some (and_inside (and_inside old x) y) ≡ Some (and_inside mid y) = ap (option_map (λ m. and_inside m y)) e in
    sym is ∙ ap Some (joined old x y)

pub none_behind : (old : Inside) (a b : Option Inside) → a ≡ None → option_map (and_inside old) (and_rest a b) ≡ None
none_behind old a b e = ap (λ o. option_map (and_inside old) (and_rest o b)) e

pub none_drawn : (old : Inside) (o : Option Inside) → option_map (and_inside old) o ≡ None → o ≡ None
none_drawn old None e = refl
none_drawn old (Some x) e = cc

-- ---- what a step that stops leaves undrawn

pub stops_drawing : {Y : Type 0} (e : EvalError) (o : Option Y) (drawn : Option Inside) (old new : HeldInside) → Evaluates {X = Y} (Err e) o
    → (o ≡ None → drawn ≡ None) → DrawsMore {X = Unit {0}} (Err e) old new drawn
stops_drawing error.Overflow o drawn old new none leads = leads none
stops_drawing error.Memory o drawn old new none leads = tt

-- ---- what a mark and the guides of a copy add

pub adds_items : (old : HeldInside) (items grown : List Item) (o : Option (List Item)) → o ≡ Some items → grown ≡ old.items ++ items
    → option_map (and_inside (inside_seen old)) (option_map items_inside o) ≡ Some (inside_seen (record old { items = grown }))
adds_items old items grown o e adds =
    ap (λ found. option_map (and_inside (inside_seen old)) (option_map items_inside found)) e
    ∙ ap Some (λ i. record { axes = append-nil old.axes i; legends = append-nil old.legends i; items = sym adds i })

pub adds_guides : (old : HeldInside) (axes : List AxisShown) (legends : List LegendShown) (a : List AxisShown) (l : List LegendShown)
    → axes ≡ old.axes ++ a → legends ≡ old.legends ++ l
    → inside_seen (record old { axes = axes; legends = legends })
    ≡ and_inside (inside_seen old) (record { axes = a ++ []; legends = l ++ []; items = [] })
adds_guides old axes legends a l more_axes more_legends = λ i. record {
  axes = (more_axes ∙ ap (λ x. old.axes ++ x) (sym (append-nil a))) i;
  legends = (more_legends ∙ ap (λ x. old.legends ++ x) (sym (append-nil l))) i;
  items = sym (append-nil old.items) i;
}

-- ---- marks, the first and then the others

copies_behind : (o : Option (List Inside)) (rest : Option Inside)
    → (o >>= λ copies. rest >>= λ others. Some (and_inside (all_inside copies) others)) ≡ and_rest (option_map all_inside o) rest
copies_behind None rest = refl
copies_behind (Some copies) rest = refl

items_behind : (o : Option (List Item)) (rest : Option Inside)
    → (o >>= λ own. rest >>= λ others. Some (and_inside (items_inside own) others)) ≡ and_rest (option_map items_inside o) rest
items_behind None rest = refl
items_behind (Some own) rest = refl

same_count : (unit inside whole : ℕ) → whole ≡ inside + 0 → unit + inside ≡ unit + whole
same_count unit inside whole e = omega arith

same_groups : (number inside whole : ℕ) → whole ≡ suc (inside + 0) → suc number + inside ≡ number + whole
same_groups number inside whole e = omega arith

one_mark : (unit whole : ℕ) → whole ≡ suc 0 → suc unit ≡ unit + whole
one_mark unit whole e = omega arith

no_group : (number whole : ℕ) → whole ≡ 0 → number ≡ number + whole
no_group number whole e = omega arith

module _ (items : ItemsOfMarks) (frame : Frame) where
  -- what a group draws, and the marks behind it
  group_and_rest : (unit number : ℕ) (m : VgMark) (ms : List VgMark) (found : Found) → is_group (out-VgMark m) ≡ true
      → (let inside = marks_of (marks_in (out-Group (out-VgMark m).group)) in
      drawn_in items (marks_from unit number (m ∷ ms)) found frame
      ≡ and_rest (drawn_group items frame unit number (out-VgMark m) (first_copies found))
      (drawn_in items (marks_from (unit + count_marks inside) (suc number + count_groups inside) ms) (behind_first found) frame))
  group_and_rest unit number m ms found e =
      let inside : Marks = marks_of (marks_in (out-Group (out-VgMark m).group)) in
      ap (λ marks. drawn_in items marks found frame) (group_from unit number m ms e)
      ∙ copies_behind (all_found (map (drawn_copy items frame unit number (out-VgMark m)) (first_copies found)))
      (drawn_in items (marks_from (unit + count_marks inside) (suc number + count_groups inside) ms) (behind_first found) frame)

  plain_and_rest : (unit number : ℕ) (m : VgMark) (ms : List VgMark) (found : Found) → is_group (out-VgMark m) ≡ false
      → drawn_in items (marks_from unit number (m ∷ ms)) found frame
      ≡ and_rest (option_map items_inside (items unit (plain_of (out-VgMark m)) frame))
      (drawn_in items (marks_from (suc unit) number ms) (behind_first found) frame)
  plain_and_rest unit number m ms found e =
      ap (λ marks. drawn_in items marks found frame) (plain_from unit number m ms e)
      ∙ items_behind (items unit (plain_of (out-VgMark m)) frame) (drawn_in items (marks_from (suc unit) number ms) (behind_first found) frame)

  -- one mark is a group or another
  abbrev by_kind : ℕ → ℕ → VgMark → List CopyFound → Bool → Option Inside
  by_kind unit number m copies b =
      cond b (drawn_group items frame unit number (out-VgMark m) copies) (option_map items_inside (items unit (plain_of (out-VgMark m)) frame))

  pub group_one : (unit number : ℕ) (m : VgMark) (copies : List CopyFound) → is_group (out-VgMark m) ≡ true
      → drawn_one items frame unit number m copies ≡ drawn_group items frame unit number (out-VgMark m) copies
  group_one unit number m copies e = ap (by_kind unit number m copies) e

  pub plain_one : (unit number : ℕ) (m : VgMark) (copies : List CopyFound) → is_group (out-VgMark m) ≡ false
      → drawn_one items frame unit number m copies ≡ option_map items_inside (items unit (plain_of (out-VgMark m)) frame)
  plain_one unit number m copies e = ap (by_kind unit number m copies) e

  pub first_and_rest : (unit number : ℕ) (m : VgMark) (ms : List VgMark) (found : Found)
      → drawn_in items (marks_from unit number (m ∷ ms)) found frame
      ≡ and_rest (drawn_one items frame unit number m (first_copies found))
      (drawn_in items (marks_from (unit + count_marks (marks_of (m ∷ []))) (number + count_groups (marks_of (m ∷ []))) ms) (behind_first found) frame)
  first_and_rest unit number m ms found = by_type (is_group (out-VgMark m)) refl
    where
      by_type : (b : Bool) → is_group (out-VgMark m) ≡ b
          → drawn_in items (marks_from unit number (m ∷ ms)) found frame
          ≡ and_rest (drawn_one items frame unit number m (first_copies found))
          (drawn_in items (marks_from (unit + count_marks (marks_of (m ∷ []))) (number + count_groups (marks_of (m ∷ []))) ms) (behind_first found) frame)
      by_type true e =
          let inside : Marks = marks_of (marks_in (out-Group (out-VgMark m).group)) in
          let units : unit + count_marks inside ≡ unit + count_marks (marks_of (m ∷ [])) =
          same_count unit (count_marks inside) (count_marks (marks_of (m ∷ []))) (group_counted m [] e) in
          let numbers : suc number + count_groups inside ≡ number + count_groups (marks_of (m ∷ [])) =
          same_groups number (count_groups inside) (count_groups (marks_of (m ∷ []))) (group_grouped m [] e) in
          group_and_rest unit number m ms found e
          ∙ (λ i. and_rest (sym (group_one unit number m (first_copies found) e) i)
          (drawn_in items (marks_from (units i) (numbers i) ms) (behind_first found) frame))
      by_type false e =
          let units : suc unit ≡ unit + count_marks (marks_of (m ∷ [])) = one_mark unit (count_marks (marks_of (m ∷ []))) (plain_counted m [] e) in
          let numbers : number ≡ number + count_groups (marks_of (m ∷ [])) =
          no_group number (count_groups (marks_of (m ∷ []))) (plain_grouped m [] e) in
          plain_and_rest unit number m ms found e
          ∙ (λ i. and_rest (sym (plain_one unit number m (first_copies found) e) i)
          (drawn_in items (marks_from (units i) (numbers i) ms) (behind_first found) frame))

-- ---- marks that are left to be drawn in a copy, and what comes of them behind what there is

pub record MarksLeft (items : ItemsOfMarks) (lists : ListsOnPaths) (f : HeldFrame) (begun : HeldInside) (whole : Option Inside) (unit number at : ℕ)
    (marks : List VgMark) (found : List MarkFacts) (out : HeldInside) : Type 0 where
  pub show : MayShow marks found
  pub few : AreFew unit number marks
  pub draws : option_map (and_inside (inside_seen out))
      (drawn_in items (marks_from unit number marks) (found_in_frame lists f at found) (frame_seen lists f)) ≡ whole
  pub kept : IsInside begun → IsInside out

-- what was found of a mark, and of those behind it
module _ (lists : ListsOnPaths) (f : HeldFrame) (at : ℕ) (one : MarkFacts) (more : List MarkFacts) where
  pub first_are : first_copies (found_in_frame lists f at (one ∷ more)) ≡ copies_from lists f at 0 (out-MarkFacts one).copies
  first_are =
      ap first_copies (marks_first lists f.path.now (values_of f) at one more) ∙ copies_in_gathered (copies_from lists f at 0 (out-MarkFacts one).copies)

  pub behind_are : behind_first (found_in_frame lists f at (one ∷ more)) ≡ found_in_frame lists f (at + 1) more
  behind_are = ap behind_first (marks_first lists f.path.now (values_of f) at one more)

module _ (items : ItemsOfMarks) (lists : ListsOnPaths) (f : HeldFrame) (begun : HeldInside) (whole : Option Inside) (unit number at : ℕ) where
  pub nothing_left : (marks : List VgMark) (found : List MarkFacts) (out : HeldInside) → marks ≡ []
      → MarksLeft items lists f begun whole unit number at marks found out → whole ≡ Some (inside_seen out)
  nothing_left marks found out none left =
      sym left.draws
      ∙ ap (λ ms. option_map (and_inside (inside_seen out))
      (drawn_in items (marks_from unit number ms) (found_in_frame lists f at found) (frame_seen lists f))) none
      ∙ ap Some (nothing_last (inside_seen out))

  module _ (all : List VgMark) (index : ℕ) (m : VgMark) (every : List MarkFacts) (out : HeldInside) (within : index < length all) (is : m ≡ get_or all index m)
      (left : MarksLeft items lists f begun whole unit number at (drop index all) (drop at every) out) where
    marks_here : drop index all ≡ m ∷ drop (index + 1) all
    marks_here = at_place all index m within is

    -- what was found of the next mark is there
    pub facts_within : at < length every
    facts_within =
        let some = some_facts m (drop (index + 1) all) (drop at every) (subst (λ ms. MayShow ms (drop at every)) marks_here left.show) in
        let size = length-drop at every in
        omega (arith, some, size)

    module _ (one : MarkFacts) (one_is : one ≡ get_or every at one) where
      here : MarksLeft items lists f begun whole unit number at (m ∷ drop (index + 1) all) (one ∷ drop (at + 1) every) out
      here =
          subst (λ found. MarksLeft items lists f begun whole unit number at (m ∷ drop (index + 1) all) found out)
          (at_place every at one facts_within one_is)
          (subst (λ marks. MarksLeft items lists f begun whole unit number at marks (drop at every) out) marks_here left)

      pub next_shows : MayShow (m ∷ []) (one ∷ [])
      next_shows = show_first m (drop (index + 1) all) one (drop (at + 1) every) here.show

      pub next_few : AreFew unit number (m ∷ [])
      next_few = few_first unit number m (drop (index + 1) all) here.few

      pub marks_fit : count_marks (marks_of (m ∷ [])) < 2 ^ 32
      marks_fit = omega (arith, next_few.units)

      pub groups_fit : count_groups (marks_of (m ∷ [])) < 2 ^ 32
      groups_fit = omega (arith, next_few.numbers)

      pub unit_fits : (n : ℕ) → n ≡ count_marks (marks_of (m ∷ [])) → unit + n < 2 ^ 32
      unit_fits n is = omega (arith, next_few.units, is)

      pub number_fits : (n : ℕ) → n ≡ count_groups (marks_of (m ∷ [])) → number + n < 2 ^ 32
      number_fits n is = omega (arith, next_few.numbers, is)

      abbrev drawn_here : Option Inside
      drawn_here = drawn_one items (frame_seen lists f) unit number m (copies_from lists f at 0 (out-MarkFacts one).copies)

      abbrev others_in : Found → Option Inside
      others_in found =
          drawn_in items
          (marks_from (unit + count_marks (marks_of (m ∷ []))) (number + count_groups (marks_of (m ∷ []))) (drop (index + 1) all)) found (frame_seen lists f)

      abbrev others : Option Inside
      others = others_in (found_in_frame lists f (at + 1) (drop (at + 1) every))

      whole_is : option_map (and_inside (inside_seen out)) (and_rest drawn_here others) ≡ whole
      whole_is =
          ap (option_map (and_inside (inside_seen out)))
          (sym (first_and_rest items (frame_seen lists f) unit number m (drop (index + 1) all) (found_in_frame lists f at (one ∷ drop (at + 1) every))
          ∙ (λ i. and_rest (drawn_one items (frame_seen lists f) unit number m (first_are lists f at one (drop (at + 1) every) i))
          (others_in (behind_are lists f at one (drop (at + 1) every) i)))))
          ∙ here.draws

      pub next_drawn : (new : HeldInside) (units numbers : ℕ) → option_map (and_inside (inside_seen out)) drawn_here ≡ Some (inside_seen new)
          → (IsInside out → IsInside new) → units ≡ count_marks (marks_of (m ∷ [])) → numbers ≡ count_groups (marks_of (m ∷ []))
          → MarksLeft items lists f begun whole (unit + units) (number + numbers) (at + 1) (drop (index + 1) all) (drop (at + 1) every) new
      next_drawn new units numbers drawn keeps counted grouped =
          let made : MarksLeft items lists f begun whole (unit + count_marks (marks_of (m ∷ []))) (number + count_groups (marks_of (m ∷ []))) (at + 1)
          (drop (index + 1) all) (drop (at + 1) every) new
          = record {
            show = show_rest m (drop (index + 1) all) one (drop (at + 1) every) here.show;
            few = few_rest unit number m (drop (index + 1) all) here.few;
            draws = behind_both (inside_seen out) drawn_here others (inside_seen new) drawn ∙ whole_is;
            kept = λ inside. keeps (here.kept inside);
          } in
          subst (λ n. MarksLeft items lists f begun whole (unit + units) (number + n) (at + 1) (drop (index + 1) all) (drop (at + 1) every) new) (sym grouped)
          (subst (λ u. MarksLeft items lists f begun whole (unit + u)
          (number + count_groups (marks_of (m ∷ []))) (at + 1) (drop (index + 1) all) (drop (at + 1) every) new)
          (sym counted) made)

      pub next_stops : (e : EvalError) (after : HeldInside) (old : Inside) (drawn : Option Inside) → whole ≡ option_map (and_inside old) drawn
          → DrawsMore {X = Unit {0}} (Err e) out after drawn_here → (new : HeldInside) (before : HeldInside) → DrawsMore {X = Unit {0}} (Err e) before new drawn
      next_stops error.Overflow after old drawn is none new before =
          none_drawn old drawn (sym is ∙ sym whole_is ∙ none_behind (inside_seen out) drawn_here others none)
      next_stops error.Memory after old drawn is none new before = tt
