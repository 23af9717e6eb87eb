-- Why a form that can be drawn has a chart.
use Rattle.std.proofs.Common.{◌≡◌, ℕ, suc, ◌+◌, ◌*◌, ◌≤◌, ◌^◌, ℤ, pos, ◌≤ℤ◌, ◌-ℤ◌, Bool, true, false, if◌then◌else◌, List, [], ◌∷◌}
use Rattle.std.proofs.Common.{length, map, Option, Some, None, unsigned_abs, arith, refl, sym, ap, subst, ◌∙◌}
use Rattle.std.specs.Option.{option_map}
use Rattle.std.specs.Result.{result_ok}
use Rattle.std.specs.Int.{int_min, int_max}
use Rattle.std.specs.Str.{bytes_eq}
use Rattle.std.specs.List.{All, filter_map}
use Rattle.std.specs.declared.cmp.Ordering.{Ordering}
use Rattle.std.specs.declared.cmp.Ordering.TheVariants.{Less, Equal, Greater}
use Rattle.std.proofs.lemmas.Int.{ints, clamps}
use Rattle.std.proofs.lemmas.List.{length-map}
use Rattle.std.proofs.lemmas.List.Elements.{All-nil, All-cons, All-head, All-tail}
use Rattle.fixed_num.specs.Number.{million, IsNumber}
use Rattle.fixed_num.specs.Ranges.{◌>>=◌, in_range, all_found}
use Rattle.cell_value.specs.declared.cell.Cell.{Cell}
use Rattle.cell_value.specs.Cell.{cell_cmp}
use Rattle.cell_value.specs.Datum.{id_name}
use Rattle.scene_tree.specs.declared.scene.Item.{Item}
use Rattle.scene_tree.specs.declared.scene.Scene.{Scene}
use Rattle.scene_tree.specs.declared.shape.Shape.TheVariants.{Rect}
use Rattle.scene_tree.specs.Outcome.{outcome_map, in_reach}
use Rattle.svg_text.specs.SceneText.{svg_of}
use Rattle.tick_kit.specs.Domains.{placed_in, ascending, least, greatest, extent_of, with_zero}
use Rattle.tick_kit.specs.Steps.{nice_of}
use Rattle.scale_kit.specs.Bands.{width_of_band}
use Rattle.scale_kit.specs.Places.{place_of, base_of}
use Rattle.plot_scenes.specs.OnePlot.{plain_scene}
use Rattle.first_form.specs.declared.form.FirstForm.{FirstForm}
use Rattle.first_form.specs.declared.form.Value.{Value}
use Rattle.first_form.specs.Bars.{with_ids, Reading, reading_of, readings_of, amounts_of, categories_of, pixels, default_color}
use Rattle.first_form.specs.Bars.{plot_width, plot_height}
use Rattle.first_form.specs.Bars.{x_scale, y_domain, y_scale, bar_over, bar_of, scene_of}
use Rattle.first_form.specs.Drawable.{IsDrawable, IsDrawableAmount}
use Rattle.first_form.specs.Laws.{ChartsAreDrawn}
use Rattle.first_form.proofs.RangeLemmas.{in_range_at_number, size_of_above}
use Rattle.first_form.proofs.NiceLemmas.{nice_from_zero}
use Rattle.first_form.proofs.PlaceLemmas.{usual_bands, placed, IsPlace, place_to, place_within, base_within, place_in_range}

-- an amount that can be drawn, as it is read
abbrev pub IsAmount : ℤ → Type 0
IsAmount m = (pos 0 ≤ℤ m) × (m ≤ℤ pos (10 ^ 15))

amount_read : (b : Bool) (id : ℕ) (v : Value) → id ≤ 1001 → IsDrawableAmount v → IsAmount (if b then pos (id * million) else v.amount)
amount_read true id v h is = (omega (arith, ints), omega (arith, ints))
amount_read false id v h is = is

module _ (x y : List ℕ) where
  abbrev readings_from : ℕ → List Value → List Reading
  readings_from id values = map (reading_of x y) (with_ids id values)

  amounts_read : (id : ℕ) (values : List Value) → id + length values ≤ 1001 → All IsDrawableAmount values
      → All IsAmount (amounts_of (readings_from id values))
  amounts_read id [] h all = All-nil IsAmount
  amounts_read id (v ∷ vs) h all =
      let here = amount_read (bytes_eq y id_name) id v (omega arith) (All-head IsDrawableAmount v vs all) in
      All-cons IsAmount (reading_of x y (id, v)).amount (amounts_of (readings_from (suc id) vs)) here
      (amounts_read (suc id) vs (omega arith) (All-tail IsDrawableAmount v vs all))

  as_many : (id : ℕ) (values : List Value) → length (readings_from id values) ≡ length values
  as_many id [] = refl
  as_many id (v ∷ vs) = ap suc (as_many (suc id) vs)

least_above : (a : ℤ) (ms : List ℤ) → IsAmount a → All IsAmount ms → pos 0 ≤ℤ least a ms
least_above a [] h all = h.0
least_above a (b ∷ bs) h all =
    let rest = least_above b bs (All-head IsAmount b bs all) (All-tail IsAmount b bs all) in omega (arith, ints, clamps)

greatest_within : (a : ℤ) (ms : List ℤ) → IsAmount a → All IsAmount ms
    → (greatest a ms ≤ℤ pos (10 ^ 15)) × (a ≤ℤ greatest a ms) × All (λ b. b ≤ℤ greatest a ms) ms
greatest_within a [] h all = (h.1, omega (arith, ints), All-nil (λ b. b ≤ℤ a))
greatest_within a (b ∷ bs) h all =
    let rest = greatest_within b bs (All-head IsAmount b bs all) (All-tail IsAmount b bs all) in (
      omega (arith, ints, clamps, h),
      omega (arith, ints, clamps),
      All-cons (λ c. c ≤ℤ int_max a (greatest b bs)) b bs (omega (arith, ints, clamps))
          (λ k d l. omega (arith, ints, clamps, rest.2 k d l)),
    )

-- the domain of amounts with zero
domain_of : (amounts : List ℤ) → All IsAmount amounts
    → (m : ℕ) × (with_zero (extent_of amounts) ≡ (pos 0, pos m)) × (m ≤ 10 ^ 15) × All (λ a. a ≤ℤ pos m) amounts
domain_of [] all = (million, refl, omega arith, All-nil (λ a. a ≤ℤ pos million))
domain_of (a ∷ ms) all =
    let low = least_above a ms (All-head IsAmount a ms all) (All-tail IsAmount a ms all) in
    let high = greatest_within a ms (All-head IsAmount a ms all) (All-tail IsAmount a ms all) in
    let g = int_max (greatest a ms) (pos 0) in
    let zero : int_min (least a ms) (pos 0) ≡ pos 0 = omega (arith, ints, clamps) in
    let whole : g ≡ pos (unsigned_abs g) = size_of_above g (omega (arith, ints, clamps)) in
    let small : unsigned_abs g ≤ 10 ^ 15 = omega (arith, ints, clamps) in (
      unsigned_abs g,
      (λ i. (zero i, whole i)),
      small,
      All-cons (λ b. b ≤ℤ pos (unsigned_abs g)) a ms (omega (arith, ints, clamps)) (λ k d l. omega (arith, ints, clamps, high.2 k d l)),
    )

-- a domain has no more cells than were given
ordering_cases : {P : Type 0} (o : Ordering) → (o ≡ Less → P) → (o ≡ Equal → P) → (o ≡ Greater → P) → P
ordering_cases Less less same more = less refl
ordering_cases Equal less same more = same refl
ordering_cases Greater less same more = more refl

length-placed_in : {X : Type 0} (order : X → X → Ordering) (c : X) (ds : List X) → length (placed_in order c ds) ≤ length ds + 1
length-placed_in order c [] = omega arith
length-placed_in order c (d ∷ ds) =
    ordering_cases (order c d) (λ h. rw h (omega arith)) (λ h. rw h (omega arith)) (λ h. rw h (omega (arith, length-placed_in order c ds)))

length-ascending : {X : Type 0} (order : X → X → Ordering) (cs : List X) → length (ascending order cs) ≤ length cs
length-ascending order [] = omega arith
length-ascending order (c ∷ cs) = omega (arith, length-placed_in order c (ascending order cs), length-ascending order cs)

-- the bar of a reading from its height to the base over a place, so high
abbrev bar_over_place : ℕ → ℤ → ℤ → ℤ → ℤ → ℤ → Item
bar_over_place id width base end height x = record {
  shape = Rect x (int_min end base) width height;
  fill = Some default_color;
  stroke = None;
  stroke_width = pixels 1;
  opacity = pixels 1;
  unit = Some 0;
  key = Some (record { id = id; branch = 0 });
}

-- the same, if its band has a place
abbrev pub bar_at : ℕ → ℤ → ℤ → ℤ → Option ℤ → Option Item
bar_at id width base end x = option_map (bar_over_place id width base end (pos (unsigned_abs (base -ℤ end)))) x

-- what is known of the bar of a reading
pub record IsBar (domain : List Cell) (n : ℕ) (r : Reading) : Type 0 where
  pub x : Option ℤ
  pub x_known : result_ok (place_of (x_scale domain) r.category) ≡ Some x
  pub end_known : IsPlace (place_to n r.amount)

pub is_bar : (domain : List Cell) (n : ℕ) (r : Reading) → length domain ≤ 1000 → IsAmount r.amount → r.amount ≤ℤ pos n → IsBar domain n r
is_bar domain n r few is below =
    let place = placed domain r.category few in
    let whole : r.amount ≡ pos (unsigned_abs r.amount) = size_of_above r.amount is.0 in
    record {
      x = place.0;
      x_known = place.1;
      end_known = subst (λ a. IsPlace (place_to n a)) (sym whole) (place_within n (unsigned_abs r.amount) (omega (arith, ints)));
    }

-- the height of a bar is in range
pub height_known : (base end : ℤ) → IsPlace base → IsPlace end
    → in_range (pos (unsigned_abs (base -ℤ end))) ≡ Some (pos (unsigned_abs (base -ℤ end)))
height_known base end b e =
    let within : IsNumber (pos (unsigned_abs (base -ℤ end))) = (omega (arith, ints), omega (arith, ints)) in
    in_range_at_number (pos (unsigned_abs (base -ℤ end))) within

over_drawn : (id : ℕ) (width base end : ℤ) (x : Option ℤ) → IsPlace base → IsPlace end
    → bar_over id width base end x ≡ Some (bar_at id width base end x)
over_drawn id width base end None b e = refl
over_drawn id width base end (Some x) b e =
    ap (λ o. o >>= (λ height. Some (Some (bar_over_place id width base end height x)))) (height_known base end b e)

module _ (domain : List Cell) (n : ℕ) where
  abbrev pub width : ℤ
  width = width_of_band (usual_bands (length domain))

  abbrev pub base : ℤ
  base = base_of (y_scale (pos 0, pos n))

  pub bar_drawn : (r : Reading) (is : IsBar domain n r)
      → bar_of (x_scale domain) (pos 0, pos n) r ≡ Some (bar_at r.id width base (place_to n r.amount) is.x)
  bar_drawn r is =
      let end = place_to n r.amount in
      ap (λ o. o >>= (λ x. in_range end >>= (λ end. bar_over r.id width base end x))) is.x_known
      ∙ ap (λ o. o >>= (λ end. bar_over r.id width base end is.x)) (place_in_range end is.end_known)
      ∙ over_drawn r.id width base end is.x (base_within n) is.end_known

-- what is known of the scene of readings: the end of their nice domain, and each of their bars
pub record IsScene (rs : List Reading) : Type 0 where
  pub end : ℕ
  pub domain : y_domain (amounts_of rs) ≡ Some (pos 0, pos end)
  pub few : length (categories_of rs) ≤ 1000
  pub bars : All (IsBar (categories_of rs) end) rs

bars_of_readings : (domain : List Cell) (n : ℕ) (rs : List Reading) → length domain ≤ 1000 → All IsAmount (amounts_of rs)
    → All (λ a. a ≤ℤ pos n) (amounts_of rs) → All (IsBar domain n) rs
bars_of_readings domain n [] few all below = All-nil (IsBar domain n)
bars_of_readings domain n (r ∷ rs) few all below =
    let others = amounts_of rs in
    let first = is_bar domain n r few (All-head IsAmount r.amount others all) (All-head (λ a. a ≤ℤ pos n) r.amount others below) in
    All-cons (IsBar domain n) r rs first
    (bars_of_readings domain n rs few (All-tail IsAmount r.amount others all) (All-tail (λ a. a ≤ℤ pos n) r.amount others below))

scene_known : (rs : List Reading) → length rs ≤ 1000 → All IsAmount (amounts_of rs) → IsScene rs
scene_known rs few all =
    let amounts = amounts_of rs in
    let cells = map (λ (r : Reading). r.category) rs in
    let domain = domain_of amounts all in
    let nice = nice_from_zero domain.0 domain.2 in
    let n = nice.0 in
    let below : All (λ a. a ≤ℤ pos n) amounts = λ k d l. omega (arith, ints, domain.3 k d l, nice.2) in
    let bands : length (categories_of rs) ≤ 1000 =
    omega (arith, length-ascending cell_cmp cells, length-map rs (λ (r : Reading). r.category)) in
    record {
      end = n;
      domain = ap (nice_of 10) domain.1 ∙ nice.1;
      few = bands;
      bars = bars_of_readings (categories_of rs) n rs bands all below;
    }

-- the scene of a form that can be drawn is known
pub form_scene : (form : FirstForm) → IsDrawable form → IsScene (readings_of form)
form_scene form drawable =
    let few = drawable.few in
    let long = as_many form.x form.y 1 form.values in
    scene_known (readings_of form) (omega arith) (amounts_read form.x form.y 1 form.values (omega arith) drawable.amounts)

-- all bars are drawn
pub bars_drawn : (domain : List Cell) (n : ℕ) (rs : List Reading) → All (IsBar domain n) rs
    → (bars : List (Option Item)) × (all_found (map (bar_of (x_scale domain) (pos 0, pos n)) rs) ≡ Some bars)
bars_drawn domain n [] all = ([], refl)
bars_drawn domain n (r ∷ rs) all =
    let is = All-head (IsBar domain n) r rs all in
    let bar = bar_at r.id (width domain n) (base domain n) (place_to n r.amount) is.x in
    let rest = bars_drawn domain n rs (All-tail (IsBar domain n) r rs all) in
    (bar ∷ rest.0, λ i. bar_drawn domain n r is i >>= (λ x. rest.1 i >>= (λ xs. Some (x ∷ xs))))

-- a scene over a nice domain and with its bars
abbrev scene_with_bars : List Reading → ℤ × ℤ → Option Scene
scene_with_bars rs domain =
    all_found (map (bar_of (x_scale (categories_of rs)) domain) rs) >>= (λ bars.
    Some (plain_scene (pixels 5) (plot_width (length (categories_of rs))) plot_height (Some 0) (filter_map (λ bar. bar) bars)))

-- the scene of readings with these bars
pub scene_from : (rs : List Reading) (is : IsScene rs) (bars : List (Option Item))
    → all_found (map (bar_of (x_scale (categories_of rs)) (pos 0, pos is.end)) rs) ≡ Some bars
    → scene_of rs ≡ Some (plain_scene (pixels 5) (plot_width (length (categories_of rs))) plot_height (Some 0) (filter_map (λ bar. bar) bars))
scene_from rs is bars drawn =
    ap (λ o. o >>= scene_with_bars rs) is.domain
    ∙ ap (λ o. o >>= (λ bars. Some (plain_scene (pixels 5) (plot_width (length (categories_of rs))) plot_height (Some 0)
    (filter_map (λ bar. bar) bars)))) drawn

scene_drawn : (rs : List Reading) → IsScene rs → (scene : Scene) × (scene_of rs ≡ Some scene)
scene_drawn rs is =
    let bars = bars_drawn (categories_of rs) is.end rs is.bars in (
      plain_scene (pixels 5) (plot_width (length (categories_of rs))) plot_height (Some 0) (filter_map (λ bar. bar) bars.0),
      scene_from rs is bars.0 bars.1,
    )

pub chart_drawn : ChartsAreDrawn
chart_drawn form drawable =
    let scene = scene_drawn (readings_of form) (form_scene form drawable) in
    (svg_of scene.0, ap (λ o. outcome_map svg_of (in_reach o)) scene.1)
