-- Views as trees, by what stands in them.
use Rattle.std.proofs.Common.{◌≡◌, ℕ, ◌+◌, ◌<◌, ◌≤◌, List, [], ◌∷◌, ◌++◌, map, drop, get_or, length, refl, sym, ap, ◌∙◌}
use Rattle.std.proofs.lemmas.List.{append_assoc, append-nil, drop_all, drop_more}
use Rattle.vl_spec.specs.declared.views.Faceted.{Faceted, out-Faceted, fold_out-Faceted}
use Rattle.vl_spec.specs.declared.views.Joined.{Joined, out-Joined, fold_out-Joined}
use Rattle.vl_spec.specs.declared.views.Layer.{Layer, fold_out-Layer}
use Rattle.vl_spec.specs.declared.views.Unit.{Unit as UnitView}
use Rattle.vl_spec.specs.declared.views.View.{View, out-View, fold_out-View}
use Rattle.vl_spec.specs.declared.views.ViewKind.{ViewKind, ViewKind-F, out-ViewKind, out-roll-ViewKind, map-ViewKind, fold_out-ViewKind}
use Rattle.vl_spec.specs.declared.views.ViewKind.TheVariants as kind
use Rattle.vl_spec.specs.declared.views.ViewKind.TheVariants.{rolls-Unit, rolls-Layer, rolls-Facet, rolls-Joined}
use Rattle.vl_spec.specs.declared.views.ViewKind.TheOpen as level
use Rattle.chart_plan.specs.declared.views.Counted.{Counted}
use Rattle.plan_kit.specs.declared.views.ViewPlan.{ViewPlan}
use Rattle.plan_kit.specs.declared.views.ViewPlan.TheVariants as view
use Rattle.chart_plan.specs.Views.{Tree, and_grid, before_others, in_row, plot_tree, grid_of, grid_tree, kind_here}
use Rattle.chart_plan.specs.Views.{faceted_here, joined_here, layer_here, view_here, tree_of, kind_tree, faceted_tree, joined_tree, layer_tree}

-- ---- what each kind of view is

pub layer_is : (l : Layer) (before : Counted) → layer_tree l before ≡ plot_tree before
layer_is l before = ap (λ (t : Tree). t before) (fold_out-Layer Tree Tree Tree Tree Tree kind_here faceted_here joined_here layer_here view_here l)

pub faceted_is : (f : Faceted) (before : Counted) → faceted_tree f before ≡ grid_tree (tree_of (out-Faceted f).spec ∷ []) before
faceted_is f before = ap (λ (t : Tree). t before) (fold_out-Faceted Tree Tree Tree Tree Tree kind_here faceted_here joined_here layer_here view_here f)

pub joined_is : (j : Joined) (before : Counted) → joined_tree j before ≡ grid_tree (map tree_of (out-Joined j).views) before
joined_is j before = ap (λ (t : Tree). t before) (fold_out-Joined Tree Tree Tree Tree Tree kind_here faceted_here joined_here layer_here view_here j)

-- a view is what it is by its kind
pub view_is : (v : View) (before : Counted) → tree_of v before ≡ kind_tree (out-View v).kind before
view_is v before = ap (λ (t : Tree). t before) (fold_out-View Tree Tree Tree Tree Tree kind_here faceted_here joined_here layer_here view_here v)

-- the tree of a view by its opened kind
abbrev pub tree_at : ViewKind-F ViewKind Faceted Joined Layer View → Tree
tree_at (level.Unit u) = plot_tree
tree_at (level.Layer l) = layer_tree l
tree_at (level.Facet f) = faceted_tree f
tree_at (level.Joined j) = joined_tree j

by_level : (o : ViewKind-F ViewKind Faceted Joined Layer View) →
    kind_here (map-ViewKind ViewKind Faceted Joined Layer View Tree Tree Tree Tree Tree kind_tree faceted_tree joined_tree layer_tree tree_of o) ≡ tree_at o
by_level (level.Unit u) = refl
by_level (level.Layer l) = refl
by_level (level.Facet f) = refl
by_level (level.Joined j) = refl

kind_opens : (k : ViewKind) → kind_tree k ≡ tree_at (out-ViewKind k)
kind_opens k = fold_out-ViewKind Tree Tree Tree Tree Tree kind_here faceted_here joined_here layer_here view_here k ∙ by_level (out-ViewKind k)

pub unit_is : (k : ViewKind) (u : UnitView) (before : Counted) → k ≡ kind.Unit u → kind_tree k before ≡ plot_tree before
unit_is k u before is =
    ap (λ (t : Tree). t before) (kind_opens k ∙ ap tree_at (ap out-ViewKind (is ∙ sym (rolls-Unit u)) ∙ out-roll-ViewKind (level.Unit u)))

pub layered_is : (k : ViewKind) (l : Layer) (before : Counted) → k ≡ kind.Layer l → kind_tree k before ≡ layer_tree l before
layered_is k l before is =
    ap (λ (t : Tree). t before) (kind_opens k ∙ ap tree_at (ap out-ViewKind (is ∙ sym (rolls-Layer l)) ∙ out-roll-ViewKind (level.Layer l)))

pub facet_is : (k : ViewKind) (f : Faceted) (before : Counted) → k ≡ kind.Facet f → kind_tree k before ≡ faceted_tree f before
facet_is k f before is =
    ap (λ (t : Tree). t before) (kind_opens k ∙ ap tree_at (ap out-ViewKind (is ∙ sym (rolls-Facet f)) ∙ out-roll-ViewKind (level.Facet f)))

pub join_is : (k : ViewKind) (j : Joined) (before : Counted) → k ≡ kind.Joined j → kind_tree k before ≡ joined_tree j before
join_is k j before is =
    ap (λ (t : Tree). t before) (kind_opens k ∙ ap tree_at (ap out-ViewKind (is ∙ sym (rolls-Joined j)) ∙ out-roll-ViewKind (level.Joined j)))

-- a faceted view of the tree of its view
pub faceted_made : (f : Faceted) (spec : View) (old mid new : Counted) (plan : ViewPlan) (views : List ViewPlan) → spec ≡ (out-Faceted f).spec →
    mid ≡ and_grid old → (plan, new) ≡ tree_of spec mid → views ≡ plan ∷ [] → (view.Grid old.grids views, new) ≡ faceted_tree f old
faceted_made f spec old mid new plan views same counted made there =
    (λ i. (view.Grid old.grids (there i), new))
    ∙ ap (λ (p : ViewPlan × Counted). (view.Grid old.grids (p.0 ∷ []), p.1)) (made ∙ (λ i. tree_of (same i) (counted i)))
    ∙ sym (faceted_is f old)

-- joined views of their trees
pub joined_made : (j : Joined) (old mid new : Counted) (plans : List ViewPlan) →
    mid ≡ and_grid old → (plans, new) ≡ in_row (map tree_of (out-Joined j).views) mid →
    (view.Grid old.grids plans, new) ≡ joined_tree j old
joined_made j old mid new plans counted made =
    ap (grid_of old.grids) (made ∙ ap (in_row (map tree_of (out-Joined j).views)) counted) ∙ sym (joined_is j old)

-- ---- views behind each other

-- some views, and others behind them
abbrev pub behind : List ViewPlan → List ViewPlan × Counted → List ViewPlan × Counted
behind out rest = (out ++ rest.0, rest.1)

one_behind : (out : List ViewPlan) (plan : ViewPlan) (rest : List ViewPlan × Counted) → behind (out ++ plan ∷ []) rest ≡ behind out (before_others plan rest)
one_behind out plan rest = λ i. (append_assoc out (plan ∷ []) rest.0 i, rest.1)

-- one more
pub one_more : (views : List View) (n : ℕ) (item : View) (out next : List ViewPlan) (plan : ViewPlan) (old new : Counted) (whole : List ViewPlan × Counted) →
    n < length views → item ≡ get_or views n item → (plan, new) ≡ tree_of item old → next ≡ out ++ plan ∷ [] →
    behind out (in_row (map tree_of (drop n views)) old) ≡ whole → behind next (in_row (map tree_of (drop (n + 1) views)) new) ≡ whole
one_more views n item out next plan old new whole within is made grown so_far =
    let rest : Counted → List ViewPlan × Counted = λ c. in_row (map tree_of (drop (n + 1) views)) c in
    ap (λ ps. behind ps (rest new)) grown
    ∙ one_behind out plan (rest new)
    ∙ ap (λ (p : ViewPlan × Counted). behind out (before_others p.0 (rest p.1))) (made ∙ ap (λ v. tree_of v old) is)
    ∙ ap (λ vs. behind out (in_row (map tree_of vs) old)) (sym (drop_more views n item within))
    ∙ so_far

-- none is left
pub all_done : (views : List View) (n : ℕ) (out : List ViewPlan) (c : Counted) (whole : List ViewPlan × Counted) → length views ≤ n →
    behind out (in_row (map tree_of (drop n views)) c) ≡ whole → (out, c) ≡ whole
all_done views n out c whole over so_far =
    (λ i. (sym (append-nil out) i, c)) ∙ ap (λ vs. behind out (in_row (map tree_of vs) c)) (sym (drop_all n views over)) ∙ so_far
