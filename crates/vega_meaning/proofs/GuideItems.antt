-- Items of guides have no keys.
use Rattle.std.proofs.Common.{◌≡◌, ℕ, Bool, true, false, Option, Some, None, List, [], ◌∷◌, ◌++◌, map, refl, subst}
use Rattle.std.specs.Prelude.{ℤ, filter, filter_map, unwrap_or, if◌then◌else◌}
use Rattle.std.specs.Option.{option_map, option_map_or}
use Rattle.std.specs.List.{cons_option, enumerate_from}
use Rattle.fixed_num.specs.Ranges.{◌>>=◌}
use Rattle.scale_kit.specs.declared.scale.Scale.{Scale}
use Rattle.scene_tree.specs.declared.scene.Item.{Item}
use Rattle.guide_kit.specs.declared.axes.AxisOf.{AxisOf}
use Rattle.guide_kit.specs.declared.axes.Guide.{Guide}
use Rattle.guide_kit.specs.declared.frames.AxisFrame.{AxisFrame as Sides}
use Rattle.guide_kit.specs.declared.legends.Block.{Block}
use Rattle.guide_kit.specs.declared.signs.Sign.{Sign}
use Rattle.guide_kit.specs.declared.signs.Sign.TheVariants as sign
use Rattle.guide_kit.specs.Axes.{grid_line, axis_line, tick_line, tick_label, axis_title, line_part, tick_part, label_part, title_part}
use Rattle.guide_kit.specs.Axes.{axis_with, axis_ticks, axis_of, extent_of}
use Rattle.guide_kit.specs.Items.{line_between}
use Rattle.guide_kit.specs.Legends.{block_with, entries_of, sign_item, label_item, legend_with, rows_of, title_height}
use Rattle.guide_kit.specs.Legends as legends
use Rattle.guide_kit.specs.Measures.{pixels}
use Rattle.guide_kit.specs.Sides.{frame_of, are_turned}
use Rattle.guide_kit.specs.Signs.{sign_at, sign_kind_of}
use Rattle.guide_kit.specs.Ticks.{count_for}
use Rattle.plain_orders.specs.Orders.{in_order}
use Rattle.plot_scenes.specs.declared.axes.Axes.{Axes}
use Rattle.plot_scenes.specs.declared.axes.AxisShown.{AxisShown}
use Rattle.plot_scenes.specs.declared.extents.Extents.{Extents}
use Rattle.plot_scenes.specs.declared.headers.Header.{Header}
use Rattle.plot_scenes.specs.declared.legends.LegendShown.{LegendShown}
use Rattle.plot_scenes.specs.Axes.{no_axes, and_then, one_axis, axis_outside, axes_outside, axes_at, runs_along}
use Rattle.plot_scenes.specs.Extents.{no_extents, at_side}
use Rattle.plot_scenes.specs.Headers.{header_items, with_header}
use Rattle.plot_scenes.specs.Legends.{block_shown, blocks_of, legend_order}
use Rattle.plot_scenes.specs.Titles.{title_items}
use Rattle.vega_meaning.proofs.DrawnFacts.{Each, each-append, each-map, each_of_all, all_given}

-- an item has no key
abbrev pub IsKeyless : Item → Type 0
IsKeyless item = item.key ≡ None

-- ---- small parts

keyless_if : (b : Bool) (x y : Item) → IsKeyless x → IsKeyless y → IsKeyless (if b then x else y)
keyless_if true x y h k = h
keyless_if false x y h k = k

each_if : {X : Type 0} (P : X → Type 0) (b : Bool) (xs : List X) → Each P xs → Each P (if b then xs else [])
each_if P true xs h = h
each_if P false xs h = tt

each_kept : {X Y : Type 0} (P : Y → Type 0) (f : X → Option Y) → ((x : X) (y : Y) → f x ≡ Some y → P y) → (xs : List X) → Each P (filter_map f xs)
each_kept {X} {Y} P f says [] = tt
each_kept {X} {Y} P f says (x ∷ xs) = by_found (f x) refl (each_kept P f says xs)
  where
    by_found : (o : Option Y) → f x ≡ o → Each P (filter_map f xs) → Each P (cons_option o (filter_map f xs))
    by_found None is rest = rest
    by_found (Some y) is rest = (says x y is, rest)

first_some : {A B : Type 0} (o : Option A) (f : A → Option B) (b : B) → (o >>= f) ≡ Some b → (a : A) × (o ≡ Some a) × (f a ≡ Some b)
first_some None f b e = absurd (cc e)
first_some (Some a) f b e = (a, refl, e)

made_some : {A B : Type 0} (o : Option A) (f : A → B) (b : B) → option_map f o ≡ Some b → (a : A) × (o ≡ Some a) × (f a ≡ b)
made_some None f b e = absurd (cc e)
made_some (Some a) f b e = (a, refl, cc e)

-- ---- axes

-- a guide without keys
abbrev IsBare : Guide → Type 0
IsBare g = Each IsKeyless g.grid × Each IsKeyless g.items

abbrev pub AreBare : Axes → Type 0
AreBare a = Each IsKeyless a.grids × Each IsKeyless a.items

line_bare : (along : Bool) (color : List ℕ) (a b c d : ℤ) → IsKeyless (line_between along color a b c d)
line_bare along color a b c d = refl

axis_bare : (a : AxisOf) (s : Scale) (width height offset : ℤ) (g : Guide) → axis_of a s width height offset ≡ Some g → IsBare g
axis_bare a s width height offset g e =
    let f = frame_of a.side width height offset in
    let made = made_some (axis_ticks a s (unwrap_or a.count (count_for f.size))) (axis_with a f) g e in
    let ticks = made.0 in
    subst IsBare made.2 (
      each_if IsKeyless a.grid (map (grid_line f) ticks) (each-map IsKeyless (grid_line f) ticks (each_of_all _ (λ tick. refl) ticks)),
      each-append IsKeyless (line_part a f ++ tick_part a f ticks ++ label_part a f ticks) (title_part a f (extent_of a f ticks))
          (each-append IsKeyless (line_part a f ++ tick_part a f ticks) (label_part a f ticks)
          (each-append IsKeyless (line_part a f) (tick_part a f ticks)
          (each_if IsKeyless a.line (axis_line f ∷ []) (refl, tt))
          (each_if IsKeyless a.ticks (map (tick_line f) ticks)
          (each-map IsKeyless (tick_line f) ticks (each_of_all _ (λ tick. keyless_if f.plan.far _ _ refl refl) ticks))))
          (each_if IsKeyless a.labels (map (tick_label f (are_turned f a.turned) a.ticks) ticks)
          (each-map IsKeyless (tick_label f (are_turned f a.turned) a.ticks) ticks (each_of_all _ (λ tick. keyless_if f.plan.along_x _ _ refl refl) ticks))))
          (title_bare a.title f (extent_of a f ticks)),
    )
  where
    title_bare : (title : Option (List ℕ)) (f : Sides) (extent : ℕ) → Each IsKeyless (option_map_or (λ text. axis_title f extent text ∷ []) title [])
    title_bare None f extent = tt
    title_bare (Some text) f extent = (keyless_if f.plan.along_x _ _ refl refl, tt)

one_bare : (width height : ℤ) (before : Extents) (a : AxisShown) (x : Axes) → axis_outside width height before a ≡ Some x → AreBare x
one_bare width height before a x e =
    let made = made_some (axis_of a.axis a.scale width height (at_side a.axis.side before)) (one_axis a.axis.side before) x e in
    subst AreBare made.2 (axis_bare a.axis a.scale width height (at_side a.axis.side before) made.0 made.1)

both_bare : (a b : Axes) → AreBare a → AreBare b → AreBare (and_then a b)
both_bare a b h k = (each-append IsKeyless a.grids b.grids h.0 k.0, each-append IsKeyless a.items b.items h.1 k.1)

axes_bare : (width height : ℤ) (before : Extents) (axes : List AxisShown) (x : Axes) → axes_outside width height before axes ≡ Some x → AreBare x
axes_bare width height before [] x e = let same : no_axes before ≡ x = cc e in subst AreBare same (tt, tt)
axes_bare width height before (a ∷ others) x e =
    let first = first_some (axis_outside width height before a) (λ first. option_map (and_then first) (axes_outside width height first.extents others)) x e in
    let rest = made_some (axes_outside width height first.0.extents others) (and_then first.0) x first.2 in
    subst AreBare rest.2
    (both_bare first.0 rest.0 (one_bare width height before a first.0 first.1) (axes_bare width height first.0.extents others rest.0 rest.1))

pub all_axes_bare : (width height : ℤ) (axes : List AxisShown) (x : Axes) → axes_at width height axes ≡ Some x → AreBare x
all_axes_bare width height axes x e =
    let first = first_some (axes_outside width height no_extents (filter (runs_along true) axes)) (λ across.
    option_map (and_then across) (axes_outside width height across.extents (filter (runs_along false) axes))) x e in
    let rest = made_some (axes_outside width height first.0.extents (filter (runs_along false) axes)) (and_then first.0) x first.2 in
    subst AreBare rest.2
    (both_bare first.0 rest.0 (axes_bare width height no_extents (filter (runs_along true) axes) first.0 first.1)
    (axes_bare width height first.0.extents (filter (runs_along false) axes) rest.0 rest.1))

-- ---- headers and titles

pub headers_bare : (width height : ℤ) (e : Extents) (headers : List Header) → Each IsKeyless (header_items width height e headers)
headers_bare width height e [] = tt
headers_bare width height e (h ∷ others) = (keyless_if h.is_beside _ _ refl refl, headers_bare width height (with_header e h) others)

pub titles_bare : (title : Option (List ℕ)) (width : ℤ) (e : Extents) → Each IsKeyless (title_items title width e)
titles_bare None width e = tt
titles_bare (Some text) width e = (refl, tt)

-- ---- legends

abbrev pub IsBlockBare : Block → Type 0
IsBlockBare b = Each IsKeyless b.items

sign_bare : (color : List ℕ) (x y : ℤ) (s : Sign) → IsKeyless (sign_at color x y s)
sign_bare color x y (sign.Painted own) = refl
sign_bare color x y (sign.Faded opacity) = refl
sign_bare color x y (sign.Sized radius) = refl
sign_bare color x y (sign.Shaped form) = refl

legend_title_bare : (title : Option (List ℕ)) → Each IsKeyless (legends.title_items title)
legend_title_bare None = tt
legend_title_bare (Some text) = (refl, tt)

block_bare : (l : LegendShown) (b : Block) → block_shown l ≡ Some b → IsBlockBare b
block_bare l b e =
    let first = first_some (sign_kind_of l.legend.channel) (λ shown. legend_with shown l.legend l.scale) b e in
    let made = made_some (entries_of first.0 l.scale l.legend.format) (block_with l.legend (rows_of first.0)) b first.2 in
    let rows = rows_of first.0 in
    let top = title_height l.legend.title in
    subst IsBlockBare made.2
    (each-append IsKeyless (legends.title_items l.legend.title ++ filter_map (sign_item l.legend.colour rows top) (enumerate_from 0 made.0))
    (map (label_item rows top) (enumerate_from 0 made.0))
    (each-append IsKeyless (legends.title_items l.legend.title) (filter_map (sign_item l.legend.colour rows top) (enumerate_from 0 made.0))
    (legend_title_bare l.legend.title)
    (each_kept IsKeyless (sign_item l.legend.colour rows top) (λ entry item is.
    let drawn = made_some entry.1.sign (sign_at l.legend.colour (pixels rows.sign) (legends.centre_of rows top entry.0)) item is in
    subst IsKeyless drawn.2 (sign_bare l.legend.colour (pixels rows.sign) (legends.centre_of rows top entry.0) drawn.0)) (enumerate_from 0 made.0)))
    (each-map IsKeyless (label_item rows top) (enumerate_from 0 made.0) (each_of_all _ (λ entry. refl) (enumerate_from 0 made.0))))

pub blocks_bare : (legends : List LegendShown) (blocks : List Block) → blocks_of legends ≡ Some blocks → Each IsBlockBare blocks
blocks_bare legends blocks e =
    all_given block_shown (λ l. Unit {0}) IsBlockBare (λ l of b is. block_bare l b is) (in_order legend_order legends)
    (each_of_all (λ l. Unit {0}) (λ l. tt) (in_order legend_order legends)) blocks e
