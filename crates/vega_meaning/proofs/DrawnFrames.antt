-- The copies of objects as they are drawn have the facets and the scales that are round them in the text.
use Rattle.std.proofs.Common.{◌≡◌, ℕ, ◌&&◌, not, Bool, true, false, cond, Option, Some, None, List, [], ◌∷◌, map, IsTrue, refl, sym, ap, ap₂, subst, ◌∙◌, arith}
use Rattle.std.specs.Prelude.{find, filter, is_some, ℤ, pos, ◌*◌, ◌^◌}
use Rattle.std.specs.Int.{int_min, int_max}
use Rattle.std.proofs.lemmas.Int.{ints, clamps}
use Rattle.std.specs.Option.{option_map, option_map_or, option_or}
use Rattle.std.specs.List.{All, AllZip, list_any}
use Rattle.std.specs.Str.{bytes_eq}
use Rattle.std.proofs.lemmas.List.Elements.{All-head, All-tail}
use Rattle.std.proofs.lemmas.List.Folds.{find-append}
use Rattle.std.proofs.lemmas.Slice.Eq.{bytes_eq-Decides}
use Rattle.fixed_num.specs.Number.{million}
use Rattle.fixed_num.specs.Ranges.{◌>>=◌}
use Rattle.cell_value.specs.declared.cell.Cell.{Cell}
use Rattle.expr_eval.specs.Numbers.{the_number}
use Rattle.scale_kit.specs.Scale.{IsPixel}
use Rattle.vega_spec.specs.declared.scales.Scale.{Scale as VegaScale}
use Rattle.vega_spec.specs.declared.spec.Size.{Size}
use Rattle.vega_spec.specs.declared.spec.Size.TheVariants as size
use Rattle.vega_scales.specs.declared.scaled.Scaled.{Scaled}
use Rattle.vega_scales.specs.Scales.{is_built, FitsScale, KeepsBounds}
use Rattle.vega_copies.specs.Outlines.{Object}
use Rattle.vega_copies.specs.Facts.{Facts}
use Rattle.vega_copies.specs.inner.Kept.{KeepsObject, IsSizeKept}
use Rattle.vega_drawing.specs.declared.spots.Grid.{Grid}
use Rattle.vega_drawing.specs.declared.spots.GridSpot.{GridSpot}
use Rattle.vega_drawing.specs.Sizes.{size_in, size_of}
use Rattle.vega_drawing.specs.Scales.{ScaleHere, name_of, own_scale, own_scales, has_scale, and_outer, past, axis_past, spot_of}
use Rattle.vega_drawing.specs.Frames.{Frame, more_cells, encoded_number, inside_of, as_grid, of_no_chart, sizing_values}
use Rattle.vega_drawing.specs.Grids.{frame_past, size_cut, sized, with_size, cell_copy, cell_at}
use Rattle.vega_drawing.specs.Tops.{of_chart, round_top, sized_top, top_frame}
use Rattle.mark_encode.specs.declared.channels.ChannelName.TheVariants as channel
use Rattle.vega_meaning.specs.Times.{has_name, scales_of_top}
use Rattle.vega_meaning.proofs.Stretches.{Round, more_fields, own_fields, inside_round}
use Rattle.vega_meaning.proofs.DrawnFacts.{Each, each-append, fields_of_cells, FactsAre}
use Rattle.selection_events.proofs.FieldLemmas.{field_of}
use Rattle.std.proofs.lemmas.List.{map-append, append-nil}
use Rattle.expr_eval.specs.Plain.{null_row}
use Rattle.expr_eval.specs.Value.{value_of}

-- ---- looking up

pub find_kept : {X : Type 0} (p q : X → Bool) → ((x : X) → p x ≡ true → q x ≡ true) → (xs : List X) → find p (filter q xs) ≡ find p xs
find_kept p q says [] = refl
find_kept p q says (x ∷ xs) = by_tests (p x) (q x) refl refl (find_kept p q says xs)
  where
    by_tests : (a b : Bool) → p x ≡ a → q x ≡ b → find p (filter q xs) ≡ find p xs
        → find p (cond (q x) (x ∷ filter q xs) (filter q xs)) ≡ cond (p x) (Some x) (find p xs)
    by_tests true true is kept rest = rw (kept, is) refl
    by_tests true false is kept rest = absurd (cc (sym kept ∙ says x is))
    by_tests false true is kept rest = rw (kept, is) rest
    by_tests false false is kept rest = rw (kept, is) rest

pub each-filter : {X : Type 0} (P : X → Type 0) (q : X → Bool) (xs : List X) → Each P xs → Each P (filter q xs)
each-filter P q [] h = tt
each-filter P q (x ∷ xs) h = by_test (q x) (each-filter P q xs h.1)
  where
    by_test : (b : Bool) → Each P (filter q xs) → Each P (cond b (x ∷ filter q xs) (filter q xs))
    by_test true rest = (h.0, rest)
    by_test false rest = rest

pub each_found : {X : Type 0} (P : X → Type 0) (p : X → Bool) (xs : List X) (x : X) → Each P xs → find p xs ≡ Some x → P x
each_found P p [] x h is = absurd (cc is)
each_found P p (y ∷ ys) x h is = by_test (p y) is (λ e. each_found P p ys x h.1 e)
  where
    by_test : (b : Bool) → cond b (Some y) (find p ys) ≡ Some x → (find p ys ≡ Some x → P x) → P x
    by_test true e rest = let same : y ≡ x = cc e in subst P same h.0
    by_test false e rest = rest e

or-map : {X Y : Type 0} (f : X → Y) (a b : Option X) → option_map f (option_or a b) ≡ option_or (option_map f a) (option_map f b)
or-map f None b = refl
or-map f (Some x) b = refl

-- ---- scales

-- what is asked of a scale that has a name at an object
pub record IsKeptHere (s : ScaleHere) : Type 0 where
  pub built : IsTrue (is_built s.scale)
  pub bounds : KeepsBounds s.scale
  pub fits : FitsScale s.scale s.domain

abbrev pub named : List ℕ → ScaleHere → Bool
named name s = bytes_eq s.scale.name name

-- of a name, and not of the whole chart
abbrev pub named_here : List ℕ → ScaleHere → Bool
named_here name s = not s.is_of_chart && named name s

abbrev pub of_specification : ScaleHere → VegaScale
of_specification s = s.scale

-- the scale of a name among those of a copy, or else of the whole chart
abbrev pub scale_among : List ScaleHere → List ScaleHere → List ℕ → Option VegaScale
scale_among chart scales name =
    option_or (option_map of_specification (find (named_here name) scales)) (option_map of_specification (find (named name) chart))

-- a copy has these fields and these scales round it
pub record FrameIs (chart : List ScaleHere) (r : Round) (frame : Frame) : Type 0 where
  pub cells : fields_of_cells frame.cells ≡ r.facet
  pub scales : (name : List ℕ) → scale_among chart frame.scales name ≡ find (has_name name) r.scales
  pub kept : Each IsKeptHere frame.scales

-- the scales of an object itself are kept
own_kept : (of : VegaScale → Bool) (scales : List VegaScale) (domains : List Scaled) → All (λ s. IsTrue (is_built s)) scales → All KeepsBounds scales
    → AllZip FitsScale scales domains → Each IsKeptHere (own_scales of scales domains)
own_kept of [] [] built bounds fits = tt
own_kept of [] (d ∷ ds) built bounds fits = absurd fits
own_kept of (s ∷ ss) [] built bounds fits = absurd fits
own_kept of (s ∷ ss) (d ∷ ds) built bounds fits = (
  record { built = All-head (λ s. IsTrue (is_built s)) s ss built; bounds = All-head KeepsBounds s ss bounds; fits = fits.0 },
  own_kept of ss ds (All-tail (λ s. IsTrue (is_built s)) s ss built) (All-tail KeepsBounds s ss bounds) fits.1,
)

-- those that aren't of the whole chart, by their names
own_here : (of : VegaScale → Bool) (name : List ℕ) (scales : List VegaScale) (domains : List Scaled) → AllZip FitsScale scales domains
    → option_map of_specification (find (named_here name) (own_scales of scales domains)) ≡ find (has_name name) (filter (λ s. not (of s)) scales)
own_here of name [] [] fits = refl
own_here of name [] (d ∷ ds) fits = absurd fits
own_here of name (s ∷ ss) [] fits = absurd fits
own_here of name (s ∷ ss) (d ∷ ds) fits = by_tests (of s) (bytes_eq s.name name) refl refl (own_here of name ss ds fits.1)
  where
    by_tests : (a b : Bool) → of s ≡ a → bytes_eq s.name name ≡ b
        → option_map of_specification (find (named_here name) (own_scales of ss ds)) ≡ find (has_name name) (filter (λ s. not (of s)) ss)
        → option_map of_specification (cond (not (of s) && bytes_eq s.name name) (Some (own_scale of (s, d))) (find (named_here name) (own_scales of ss ds)))
        ≡ find (has_name name) (cond (not (of s)) (s ∷ filter (λ s. not (of s)) ss) (filter (λ s. not (of s)) ss))
    by_tests true b is named rest = rw is rest
    by_tests false true is named rest = rw (is, named) refl
    by_tests false false is named rest = rw (is, named) rest

-- those that are
own_of_chart : (of : VegaScale → Bool) (name : List ℕ) (scales : List VegaScale) (domains : List Scaled) → AllZip FitsScale scales domains
    → option_map of_specification (find (named name) (filter (λ (s : ScaleHere). s.is_of_chart) (own_scales of scales domains)))
    ≡ find (has_name name) (filter of scales)
own_of_chart of name [] [] fits = refl
own_of_chart of name [] (d ∷ ds) fits = absurd fits
own_of_chart of name (s ∷ ss) [] fits = absurd fits
own_of_chart of name (s ∷ ss) (d ∷ ds) fits = by_tests (of s) (bytes_eq s.name name) refl refl (own_of_chart of name ss ds fits.1)
  where
    by_tests : (a b : Bool) → of s ≡ a → bytes_eq s.name name ≡ b
        → option_map of_specification (find (named name) (filter (λ (s : ScaleHere). s.is_of_chart) (own_scales of ss ds)))
        ≡ find (has_name name) (filter of ss)
        → option_map of_specification (find (named name) (cond (of s) (own_scale of (s, d) ∷ filter (λ (s : ScaleHere). s.is_of_chart) (own_scales of ss ds))
        (filter (λ (s : ScaleHere). s.is_of_chart) (own_scales of ss ds))))
        ≡ find (has_name name) (cond (of s) (s ∷ filter of ss) (filter of ss))
    by_tests false b is named rest = rw is rest
    by_tests true true is named rest = rw (is, named) refl
    by_tests true false is named rest = rw (is, named) rest

all_pass : {X : Type 0} (xs : List X) → filter (λ x. true) xs ≡ xs
all_pass [] = refl
all_pass (x ∷ xs) = ap (λ rest. x ∷ rest) (all_pass xs)

-- where none of an object's own has a name, none is found
no_own : (name : List ℕ) (scales : List VegaScale) (domains : List Scaled) → AllZip FitsScale scales domains
    → option_map of_specification (find (named_here name) (own_scales of_no_chart scales domains)) ≡ None
    → has_scale (own_scales of_no_chart scales domains) name ≡ false
no_own name [] [] fits none = refl
no_own name [] (d ∷ ds) fits none = absurd fits
no_own name (s ∷ ss) [] fits none = absurd fits
no_own name (s ∷ ss) (d ∷ ds) fits none = by_test (bytes_eq s.name name) refl none (λ e. no_own name ss ds fits.1 e)
  where
    by_test : (b : Bool) → bytes_eq s.name name ≡ b
        → option_map of_specification
        (cond (bytes_eq s.name name) (Some (own_scale of_no_chart (s, d))) (find (named_here name) (own_scales of_no_chart ss ds))) ≡ None
        → (option_map of_specification (find (named_here name) (own_scales of_no_chart ss ds)) ≡ None → has_scale (own_scales of_no_chart ss ds) name ≡ false)
        → list_any (λ (x : ScaleHere). bytes_eq (name_of x) name) (own_scale of_no_chart (s, d) ∷ own_scales of_no_chart ss ds) ≡ false
    by_test true is e rest =
        absurd (cc (sym (ap (λ b.
        option_map of_specification (cond b (Some (own_scale of_no_chart (s, d))) (find (named_here name) (own_scales of_no_chart ss ds)))) is) ∙ e))
    by_test false is e rest =
        rw is (rest (sym (ap (λ b.
        option_map of_specification (cond b (Some (own_scale of_no_chart (s, d))) (find (named_here name) (own_scales of_no_chart ss ds)))) is) ∙ e))

both_true : (a b : Bool) → (a && b) ≡ true → b ≡ true
both_true true b e = e
both_true false b e = absurd (cc e)

-- the scales of a copy inside another
module _ (chart outer : List ScaleHere) (o : Object) (domains : List Scaled) (fits : AllZip FitsScale o.scales domains) (name : List ℕ) where
  abbrev own : List ScaleHere
  own = own_scales of_no_chart o.scales domains

  own_first : option_map of_specification (find (named_here name) own) ≡ find (has_name name) o.scales
  own_first = own_here of_no_chart name o.scales domains fits ∙ ap (find (has_name name)) (all_pass o.scales)

  -- an outer one of the name isn't hidden where no own one has it
  not_hidden : has_scale own name ≡ false → (s : ScaleHere) → named_here name s ≡ true → not (has_scale own (name_of s)) ≡ true
  not_hidden none s is =
      let same : s.scale.name ≡ name = (bytes_eq-Decides s.scale.name name).0 (both_true (not s.is_of_chart) (named name s) is) in
      ap (λ n. not (has_scale own n)) same ∙ ap not none

  by_own : (o1 : Option VegaScale) → option_map of_specification (find (named_here name) own) ≡ o1
      → option_or (option_or o1 (option_map of_specification (find (named_here name) (filter (λ s. not (has_scale own (name_of s))) outer))))
      (option_map of_specification (find (named name) chart))
      ≡ option_or o1 (scale_among chart outer name)
  by_own (Some s) is = refl
  by_own None is =
      ap (λ x. option_or (option_map of_specification x) (option_map of_specification (find (named name) chart)))
      (find_kept (named_here name) (λ s. not (has_scale own (name_of s))) (not_hidden (no_own name o.scales domains fits is)) outer)

  inner_scale : scale_among chart (and_outer outer own) name ≡ option_or (find (has_name name) o.scales) (scale_among chart outer name)
  inner_scale =
      ap (λ x. option_or (option_map of_specification x) (option_map of_specification (find (named name) chart)))
      (find-append (named_here name) own (filter (λ s. not (has_scale own (name_of s))) outer))
      ∙ ap (λ x. option_or x (option_map of_specification (find (named name) chart)))
      (or-map of_specification (find (named_here name) own) (find (named_here name) (filter (λ s. not (has_scale own (name_of s))) outer)))
      ∙ by_own (option_map of_specification (find (named_here name) own)) refl
      ∙ ap (λ x. option_or x (scale_among chart outer name)) own_first

-- the fields of cells
cells_more : (outer own : Option (List (List ℕ × Cell))) → fields_of_cells (more_cells outer own) ≡ more_fields (fields_of_cells outer) (fields_of_cells own)
cells_more None None = refl
cells_more (Some outer) None = refl
cells_more None (Some inner) = refl
cells_more (Some outer) (Some inner) = ap Some (map-append field_of outer inner)

module _ (chart : List ScaleHere) (r : Round) where
  -- a copy inside another
  pub inner_is : (outer : Frame) (o : Object) (facts : Facts) → KeepsObject o → FactsAre o facts → FrameIs chart r outer
      → FrameIs chart (inside_round o r) (inside_of of_no_chart outer o facts)
  inner_is outer o facts keeps are h = record {
    cells = cells_more outer.cells facts.cells ∙ ap₂ more_fields h.cells are.cells;
    scales = λ name.
        inner_scale chart outer.scales o facts.domains are.domains name
        ∙ ap (option_or (find (has_name name) o.scales)) (h.scales name) ∙ sym (find-append (has_name name) o.scales r.scales);
    kept =
        each-append IsKeptHere (own_scales of_no_chart o.scales facts.domains)
        (filter (λ s. not (has_scale (own_scales of_no_chart o.scales facts.domains) (name_of s))) outer.scales)
        (own_kept of_no_chart o.scales facts.domains keeps.scales keeps.bounds are.domains)
        (each-filter IsKeptHere (λ s. not (has_scale (own_scales of_no_chart o.scales facts.domains) (name_of s))) outer.scales h.kept);
  }

  past_found : (spot : GridSpot) (name : List ℕ) (scales : List ScaleHere)
      → option_map of_specification (find (named_here name) (map (past spot) scales)) ≡ option_map of_specification (find (named_here name) scales)
  past_found spot name [] = refl
  past_found spot name (s ∷ ss) = by_test (named_here name s) (past_found spot name ss)
    where
      by_test : (b : Bool)
          → option_map of_specification (find (named_here name) (map (past spot) ss)) ≡ option_map of_specification (find (named_here name) ss)
          → option_map of_specification (cond b (Some (past spot s)) (find (named_here name) (map (past spot) ss)))
          ≡ option_map of_specification (cond b (Some s) (find (named_here name) ss))
      by_test true rest = refl
      by_test false rest = rest

  past_kept : (spot : GridSpot) (scales : List ScaleHere) → Each IsKeptHere scales → Each IsKeptHere (map (past spot) scales)
  past_kept spot [] h = tt
  past_kept spot (s ∷ ss) h = (record { built = h.0.built; bounds = h.0.bounds; fits = h.0.fits }, past_kept spot ss h.1)

  -- what stands round a copy that passes a spot
  past_is : (o : Object) (spot : GridSpot) (outer : Frame) → FrameIs chart r outer → FrameIs chart r (frame_past o spot outer)
  past_is o spot outer h = by_facet (is_some o.facet)
    where
      by_facet : (b : Bool) → FrameIs chart r (cond b (record outer { scales = map (past spot) outer.scales; axes = map (axis_past spot) outer.axes }) outer)
      by_facet true = record {
        cells = h.cells;
        scales = λ name.
            ap (λ x. option_or x (option_map of_specification (find (named name) chart))) (past_found spot name outer.scales) ∙ h.scales name;
        kept = past_kept spot outer.scales h.kept;
      }
      by_facet false = h

-- ---- sizes

-- a plot has a size that plots may have
abbrev pub HasPixels : Frame → Type 0
HasPixels frame = IsPixel frame.width × IsPixel frame.height

cut_is_pixel : (n : ℤ) → IsPixel (int_max (pos 0) (int_min n (pos (10 ^ 11 * million))))
cut_is_pixel n = (omega (arith, ints, clamps), omega (arith, ints, clamps))

by_number : (o : Option ℤ) → IsPixel (option_map_or (λ n. int_max (pos 0) (int_min n (pos (10 ^ 11 * million)))) o (pos 0))
by_number None = (omega (arith, ints), omega (arith, ints))
by_number (Some n) = cut_is_pixel n

size_is_pixel : (c : Cell) → IsPixel (size_in c)
size_is_pixel c = by_number (the_number c)

valued_size : (o : Option Cell) (n : ℤ) → option_map size_in o ≡ Some n → IsPixel n
valued_size None n e = absurd (cc e)
valued_size (Some c) n e = let same : size_in c ≡ n = cc e in subst IsPixel same (size_is_pixel c)

written_size : (frame : Frame) (s : Option Size) (n : ℤ) → IsSizeKept s → size_of (sizing_values frame) s ≡ Some n → IsPixel n
written_size frame None n kept e = let same : pos 0 ≡ n = cc e in subst IsPixel same (by_number None)
written_size frame (Some (size.Number m)) n kept e = let same : m ≡ n = cc e in subst IsPixel same kept
written_size frame (Some (size.Signal x)) n kept e = valued_size (value_of null_row (sizing_values frame) x) n e

-- a copy of a size
resized : {A : Type 0} (P : Frame → Type 0) (width height : Option A) (make : A → A → Frame) (here : Frame)
    → ((w h : A) → width ≡ Some w → height ≡ Some h → P (make w h)) → (width >>= λ w. height >>= λ h. Some (make w h)) ≡ Some here → P here
resized P None height make here says e = absurd (cc e)
resized P (Some w) None make here says e = absurd (cc e)
resized P (Some w) (Some h) make here says e = let same : make w h ≡ here = cc e in subst P same (says w h refl refl)

module _ (chart : List ScaleHere) (r : Round) where
  -- what is asked of a copy of an object
  pub record IsCopyOf (o : Object) (frame : Frame) : Type 0 where
    pub is : FrameIs chart r frame
    pub pixels : is_some o.layout ≡ false → HasPixels frame

  same_frame : (a b : Frame) → a.cells ≡ b.cells → a.scales ≡ b.scales → FrameIs chart r a → FrameIs chart r b
  same_frame a b cells scales h = record {
    cells = ap fields_of_cells (sym cells) ∙ h.cells;
    scales = λ name. ap (λ ss. scale_among chart ss name) (sym scales) ∙ h.scales name;
    kept = subst (Each IsKeptHere) scales h.kept;
  }

  with_size_is : (o : Object) (frame here : Frame) → FrameIs chart r frame → with_size o frame ≡ Some here → IsCopyOf o here
  with_size_is o frame here h e = by_layout (is_some o.layout) refl e
    where
      by_layout : (b : Bool) → is_some o.layout ≡ b → cond b (Some (as_grid o frame)) (sized o frame) ≡ Some here → IsCopyOf o here
      by_layout true is f =
          let same : as_grid o frame ≡ here = cc f in
          subst (IsCopyOf o) same (record { is = same_frame frame (as_grid o frame) refl refl h; pixels = λ none. absurd (cc (sym is ∙ none)) })
      by_layout false is f =
          resized (IsCopyOf o) (encoded_number frame o channel.Width) (encoded_number frame o channel.Height)
          (λ w h. record frame { width = size_cut w; height = size_cut h }) here
          (λ w k given other. record {
            is = same_frame frame (record frame { width = size_cut w; height = size_cut k }) refl refl h;
            pixels = λ none. (cut_is_pixel w, cut_is_pixel k);
          }) f

-- a copy of a group that is a cell of a grid
pub cell_is : (chart : List ScaleHere) (r : Round) (outer : Frame) (grid : Grid) (o : Object) (index : ℕ) (facts : Facts) (here : Frame) → KeepsObject o
    → FactsAre o facts → FrameIs chart r outer → cell_at outer grid o index facts ≡ Some here → IsCopyOf chart (inside_round o r) o here
cell_is chart r outer grid o index facts here keeps are h e =
    let spot = spot_of grid.columns grid.cells index in
    let inner = inner_is chart r (frame_past o spot outer) o facts keeps are (past_is chart r o spot outer h) in
    with_size_is chart (inside_round o r) o (cell_copy outer o spot facts) here
    (same_frame chart (inside_round o r) (inside_of of_no_chart (frame_past o spot outer) o facts) (cell_copy outer o spot facts) refl refl inner) e

-- ---- the top

abbrev pub top_round : Object → Round
top_round o = record { facet = None; scales = scales_of_top o }

-- the scales that belong to the whole chart
abbrev pub chart_scales : List ScaleHere → List ScaleHere
chart_scales scales = filter (λ (s : ScaleHere). s.is_of_chart) scales

-- what is asked of the top
pub record IsTop (o : Object) (here : Frame) : Type 0 where
  pub copy : IsCopyOf (chart_scales here.scales) (top_round o) o here
  pub pixels : HasPixels here

module _ (o : Object) (facts : Facts) (keeps : KeepsObject o) (are : FactsAre o facts) (none : own_fields o ≡ None) where
  abbrev tops : List ScaleHere
  tops = own_scales (of_chart o.layout) o.scales facts.domains

  cells_of_top : fields_of_cells (more_cells None facts.cells) ≡ None
  cells_of_top = by_cells facts.cells (are.cells ∙ none)
    where
      by_cells : (cells : Option (List (List ℕ × Cell))) → fields_of_cells cells ≡ None → fields_of_cells (more_cells None cells) ≡ None
      by_cells None e = refl
      by_cells (Some cells) e = absurd (cc e)

  top_scale : (name : List ℕ) → scale_among (chart_scales tops) tops name ≡ find (has_name name) (scales_of_top o)
  top_scale name =
      ap₂ option_or (own_here (of_chart o.layout) name o.scales facts.domains are.domains)
      (own_of_chart (of_chart o.layout) name o.scales facts.domains are.domains)
      ∙ sym (find-append (has_name name) (filter (λ s. not (of_chart o.layout s)) o.scales) (filter (of_chart o.layout) o.scales))

  abbrev bare_top : Frame
  bare_top = inside_of (of_chart o.layout) (round_top facts.names) o facts

  tops_alone : bare_top.scales ≡ tops
  tops_alone = append-nil tops

  top_of : (here : Frame) → here.cells ≡ bare_top.cells → here.scales ≡ bare_top.scales → FrameIs (chart_scales here.scales) (top_round o) here
  top_of here cells scales =
      let all : tops ≡ here.scales = sym (scales ∙ tops_alone) in
      record {
        cells = ap fields_of_cells cells ∙ cells_of_top;
        scales = λ name. ap (λ ss. scale_among (chart_scales ss) ss name) (sym all) ∙ top_scale name;
        kept = subst (Each IsKeptHere) all (own_kept (of_chart o.layout) o.scales facts.domains keeps.scales keeps.bounds are.domains);
      }

  pub top_frame_is : (width height : Option Size) (here : Frame) → IsSizeKept width
      → IsSizeKept height → top_frame width height o facts ≡ Some here → IsTop o here
  top_frame_is width height here w h e = by_layout (is_some o.layout) refl e
    where
      by_layout : (b : Bool) → is_some o.layout ≡ b → cond b (Some (as_grid o bare_top)) (sized_top width height bare_top) ≡ Some here → IsTop o here
      by_layout true is f =
          let same : as_grid o bare_top ≡ here = cc f in
          subst (IsTop o) same (record {
            copy = record { is = top_of (as_grid o bare_top) refl refl; pixels = λ none. absurd (cc (sym is ∙ none)) };
            pixels = (by_number None, by_number None);
          })
      by_layout false is f =
          resized (IsTop o) (size_of (sizing_values bare_top) width) (size_of (sizing_values bare_top) height)
          (λ x y. record bare_top { width = x; height = y }) here
          (λ x y given other. record {
            copy = record {
              is = top_of (record bare_top { width = x; height = y }) refl refl;
              pixels = λ none. (written_size bare_top width x w given, written_size bare_top height y h other);
            };
            pixels = (written_size bare_top width x w given, written_size bare_top height y h other);
          }) f
