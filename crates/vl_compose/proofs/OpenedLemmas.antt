-- Views by what is in them.
use Rattle.std.proofs.Common.{◌≡◌, ℕ, true, false, Option, Some, None, List, [], ◌∷◌, ◌++◌, refl, sym, ap, ◌∙◌}
use Rattle.std.specs.Option.{option_and_then, option_map_or}
use Rattle.std.specs.List.{last_or}
use Rattle.vl_spec.specs.declared.marks.Mark.{Mark}
use Rattle.vl_spec.specs.declared.views.Faceted.{Faceted, fold-Faceted, fold_out-Faceted}
use Rattle.vl_spec.specs.declared.views.Joined.{Joined, fold-Joined, fold_out-Joined}
use Rattle.vl_spec.specs.declared.views.Layer.{Layer, fold-Layer, fold_out-Layer}
use Rattle.vl_spec.specs.declared.views.Unit.{Unit as UnitView}
use Rattle.vl_spec.specs.declared.views.View.{View, out-View, fold_out-View}
use Rattle.vl_spec.specs.declared.views.ViewKind.{ViewKind, ViewKind-F, out-ViewKind, out-roll-ViewKind, map-ViewKind, fold-ViewKind, fold_out-ViewKind}
use Rattle.vl_spec.specs.declared.views.ViewKind.TheVariants as kind
use Rattle.vl_spec.specs.declared.views.ViewKind.TheVariants.{rolls-Unit, rolls-Layer, rolls-Facet, rolls-Joined}
use Rattle.vl_spec.specs.declared.views.ViewKind.TheOpen as level
use Rattle.vl_compose.specs.Rounds.{ViewAt, Round, Inside, Opened, view_at, with_inside, view_here, kind_here, layer_here, faceted_here, joined_here, rounds_in}
use Rattle.vl_compose.specs.Shown.{kind_at, kind_of}
use Rattle.vl_compose.specs.Units.{is_unit, mark_in, ends_in_unit, mark_of}
use Rattle.vl_compose.specs.inner.Opened.{inside_at, inside_of}

-- ---- what a view brings

opened_kind : ViewKind → Opened
opened_kind = fold-ViewKind Opened Opened Opened Opened Inside kind_here faceted_here joined_here layer_here view_here

opened_faceted : Faceted → Opened
opened_faceted = fold-Faceted Opened Opened Opened Opened Inside kind_here faceted_here joined_here layer_here view_here

opened_joined : Joined → Opened
opened_joined = fold-Joined Opened Opened Opened Opened Inside kind_here faceted_here joined_here layer_here view_here

opened_layer : Layer → Opened
opened_layer = fold-Layer Opened Opened Opened Opened Inside kind_here faceted_here joined_here layer_here view_here

by_level : (o : ViewKind-F ViewKind Faceted Joined Layer View) →
    kind_here (map-ViewKind ViewKind Faceted Joined Layer View Opened Opened Opened Opened
    Inside opened_kind opened_faceted opened_joined opened_layer rounds_in o)
    ≡ record { kind = kind_at o; inside = inside_at o }
unfolding opened_kind opened_faceted opened_joined opened_layer
by_level (level.Unit u) = refl
by_level (level.Layer l) = fold_out-Layer Opened Opened Opened Opened Inside kind_here faceted_here joined_here layer_here view_here l
by_level (level.Facet f) = fold_out-Faceted Opened Opened Opened Opened Inside kind_here faceted_here joined_here layer_here view_here f
by_level (level.Joined j) = fold_out-Joined Opened Opened Opened Opened Inside kind_here faceted_here joined_here layer_here view_here j

kind_opens : (k : ViewKind) → opened_kind k ≡ record { kind = kind_of k; inside = inside_of k }
unfolding opened_kind opened_faceted opened_joined opened_layer
kind_opens k = fold_out-ViewKind Opened Opened Opened Opened Inside kind_here faceted_here joined_here layer_here view_here k ∙ by_level (out-ViewKind k)

-- a view where it stands
abbrev pub here_at : View → ℕ → ℕ → ViewAt
here_at v child number = view_at (out-View v) (kind_of (out-View v).kind) child number

pub view_opens : (v : View) (round : Round) (child number : ℕ) →
    rounds_in v round child number ≡ with_inside (inside_of (out-View v).kind) (round ++ here_at v child number ∷ []) number
unfolding opened_kind
view_opens v round child number =
    ap (λ (f : Inside). f round child number) (fold_out-View Opened Opened Opened Opened Inside kind_here faceted_here joined_here layer_here view_here v)
    ∙ ap (λ (k : Opened). with_inside k.inside (round ++ view_at (out-View v) k.kind child number ∷ []) number) (kind_opens (out-View v).kind)

-- ---- by what it is

unit_level : (k : ViewKind) (u : UnitView) → k ≡ kind.Unit u → out-ViewKind k ≡ level.Unit u
unit_level k u is = ap out-ViewKind (is ∙ sym (rolls-Unit u)) ∙ out-roll-ViewKind (level.Unit u)

layer_level : (k : ViewKind) (l : Layer) → k ≡ kind.Layer l → out-ViewKind k ≡ level.Layer l
layer_level k l is = ap out-ViewKind (is ∙ sym (rolls-Layer l)) ∙ out-roll-ViewKind (level.Layer l)

facet_level : (k : ViewKind) (f : Faceted) → k ≡ kind.Facet f → out-ViewKind k ≡ level.Facet f
facet_level k f is = ap out-ViewKind (is ∙ sym (rolls-Facet f)) ∙ out-roll-ViewKind (level.Facet f)

joined_level : (k : ViewKind) (j : Joined) → k ≡ kind.Joined j → out-ViewKind k ≡ level.Joined j
joined_level k j is = ap out-ViewKind (is ∙ sym (rolls-Joined j)) ∙ out-roll-ViewKind (level.Joined j)

-- ---- the last of some views

last_behind : (o : Option ViewAt) (xs : List ViewAt) (x : ViewAt) → last_or o (xs ++ x ∷ []) ≡ Some x
last_behind o [] x = refl
last_behind o (y ∷ xs) x = last_behind (Some y) xs x

pub ends_as : (outer : Round) (here : ViewAt) → ends_in_unit (outer ++ here ∷ []) ≡ is_unit here.kind
ends_as outer here = ap (λ o. option_map_or (λ (v : ViewAt). is_unit v.kind) o false) (last_behind None outer here)

pub mark_as : (outer : Round) (here : ViewAt) → mark_of (outer ++ here ∷ []) ≡ mark_in here.kind
mark_as outer here = ap (option_and_then (λ (v : ViewAt). mark_in v.kind)) (last_behind None outer here)

-- ---- what each kind of view brings

-- a unit brings itself
pub record BringsItself (v : View) (mark : Option Mark) (outer : Round) (child number : ℕ) : Type 0 where
  pub all : rounds_in v outer child number ≡ (outer ++ here_at v child number ∷ []) ∷ []
  pub ends : ends_in_unit (outer ++ here_at v child number ∷ []) ≡ true
  pub marked : mark_of (outer ++ here_at v child number ∷ []) ≡ mark

pub unit_brings : (v : View) (u : UnitView) (outer : Round) (child number : ℕ) → (out-View v).kind ≡ kind.Unit u → BringsItself v u.mark outer child number
unit_brings v u outer child number is =
    let at = unit_level (out-View v).kind u is in
    record {
      all = view_opens v outer child number ∙ ap (λ o. with_inside (inside_at o) (outer ++ here_at v child number ∷ []) number) at;
      ends = ends_as outer (here_at v child number) ∙ ap (λ o. is_unit (kind_at o)) at;
      marked = mark_as outer (here_at v child number) ∙ ap (λ o. mark_in (kind_at o)) at;
    }

-- another view brings itself and others
pub record Brings (v : View) (inside : List Inside) (outer : Round) (child number : ℕ) : Type 0 where
  pub all : rounds_in v outer child number ≡ with_inside inside (outer ++ here_at v child number ∷ []) number
  pub ends : ends_in_unit (outer ++ here_at v child number ∷ []) ≡ false

brings_by : (v : View) (o : ViewKind-F ViewKind Faceted Joined Layer View) (outer : Round) (child number : ℕ) → out-ViewKind (out-View v).kind ≡ o →
    is_unit (kind_at o) ≡ false → Brings v (inside_at o) outer child number
brings_by v o outer child number at other = record {
  all = view_opens v outer child number ∙ ap (λ o. with_inside (inside_at o) (outer ++ here_at v child number ∷ []) number) at;
  ends = ends_as outer (here_at v child number) ∙ ap (λ o. is_unit (kind_at o)) at ∙ other;
}

pub layer_brings : (v : View) (l : Layer) (outer : Round) (child number : ℕ) → (out-View v).kind ≡ kind.Layer l →
    Brings v (inside_at (level.Layer l)) outer child number
layer_brings v l outer child number is = brings_by v (level.Layer l) outer child number (layer_level (out-View v).kind l is) refl

pub facet_brings : (v : View) (f : Faceted) (outer : Round) (child number : ℕ) → (out-View v).kind ≡ kind.Facet f →
    Brings v (inside_at (level.Facet f)) outer child number
facet_brings v f outer child number is = brings_by v (level.Facet f) outer child number (facet_level (out-View v).kind f is) refl

pub joined_brings : (v : View) (j : Joined) (outer : Round) (child number : ℕ) → (out-View v).kind ≡ kind.Joined j →
    Brings v (inside_at (level.Joined j)) outer child number
joined_brings v j outer child number is = brings_by v (level.Joined j) outer child number (joined_level (out-View v).kind j is) refl
