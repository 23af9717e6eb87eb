-- Views by what is in them.
use Rattle.std.proofs.Common.{◌≡◌, ℕ, ◌+◌, ◌<◌, ◌≤◌, List, [], ◌∷◌, ◌++◌, length, drop, get_or, map, refl, sym, ap, ◌∙◌}
use Rattle.std.specs.Prelude.{codes}
use Rattle.std.proofs.lemmas.List.{append_assoc, append-nil, drop_all, drop_more}
use Rattle.vl_spec.specs.declared.views.Faceted.{Faceted, fold-Faceted, fold_out-Faceted, out-Faceted}
use Rattle.vl_spec.specs.declared.views.Joined.{Joined, fold-Joined, fold_out-Joined, out-Joined}
use Rattle.vl_spec.specs.declared.views.Layer.{Layer, fold-Layer, fold_out-Layer, out-Layer}
use Rattle.vl_spec.specs.declared.views.Unit.{Unit as UnitView}
use Rattle.vl_spec.specs.declared.views.View.{View, out-View, fold_out-View}
use Rattle.vl_spec.specs.declared.views.ViewKind.{ViewKind, ViewKind-F, out-ViewKind, out-roll-ViewKind, map-ViewKind, fold-ViewKind, fold_out-ViewKind}
use Rattle.vl_spec.specs.declared.views.ViewKind.TheVariants as kind
use Rattle.vl_spec.specs.declared.views.ViewKind.TheVariants.{rolls-Unit, rolls-Layer, rolls-Facet, rolls-Joined}
use Rattle.vl_spec.specs.declared.views.ViewKind.TheOpen as level
use Rattle.vl_trails.specs.Trails.{Trail, to_item, to_member}
use Rattle.vl_names.specs.Views.{ViewIn, Inside, Opened, list_from, in_list, joined_word, layer_here, faceted_here, joined_here, kind_here}
use Rattle.vl_names.specs.Views.{view_in, view_here, views_in}
use Rattle.vl_names.specs.inner.Shown.{encoding_at, facet_at, view_at}

opened_kind : ViewKind → Opened
opened_kind = fold-ViewKind Opened Opened Opened Opened Inside kind_here faceted_here joined_here layer_here view_here

opened_faceted : Faceted → Opened
opened_faceted = fold-Faceted Opened Opened Opened Opened Inside kind_here faceted_here joined_here layer_here view_here

opened_joined : Joined → Opened
opened_joined = fold-Joined Opened Opened Opened Opened Inside kind_here faceted_here joined_here layer_here view_here

opened_layer : Layer → Opened
opened_layer = fold-Layer Opened Opened Opened Opened Inside kind_here faceted_here joined_here layer_here view_here

-- the views in a view
abbrev pub inside_at : ViewKind-F ViewKind Faceted Joined Layer View → Inside
inside_at (level.Unit u) = λ trail. []
inside_at (level.Layer l) = λ trail. in_list (map views_in (out-Layer l).layer) (to_member trail (codes "layer"))
inside_at (level.Facet f) = λ trail. views_in (out-Faceted f).spec (to_member trail (codes "spec"))
inside_at (level.Joined j) = λ trail. in_list (map views_in (out-Joined j).views) (to_member trail (joined_word (out-Joined j).joining))

by_level : (o : ViewKind-F ViewKind Faceted Joined Layer View) →
    kind_here (map-ViewKind ViewKind Faceted Joined Layer View Opened Opened Opened Opened
    Inside opened_kind opened_faceted opened_joined opened_layer views_in o)
    ≡ record { encoding = encoding_at o; facet = facet_at o; inside = inside_at o }
unfolding opened_kind opened_faceted opened_joined opened_layer
by_level (level.Unit u) = refl
by_level (level.Layer l) = fold_out-Layer Opened Opened Opened Opened Inside kind_here faceted_here joined_here layer_here view_here l
by_level (level.Facet f) = fold_out-Faceted Opened Opened Opened Opened Inside kind_here faceted_here joined_here layer_here view_here f
by_level (level.Joined j) = fold_out-Joined Opened Opened Opened Opened Inside kind_here faceted_here joined_here layer_here view_here j

kind_opens : (k : ViewKind) →
    opened_kind k ≡ record { encoding = encoding_at (out-ViewKind k); facet = facet_at (out-ViewKind k); inside = inside_at (out-ViewKind k) }
unfolding opened_kind opened_faceted opened_joined opened_layer
kind_opens k = fold_out-ViewKind Opened Opened Opened Opened Inside kind_here faceted_here joined_here layer_here view_here k ∙ by_level (out-ViewKind k)

view_opens : (v : View) (trail : Trail) → views_in v trail ≡ view_at v trail ∷ inside_at (out-ViewKind (out-View v).kind) trail
unfolding opened_kind
view_opens v trail =
    ap (λ (f : Inside). f trail) (fold_out-View Opened Opened Opened Opened Inside kind_here faceted_here joined_here layer_here view_here v)
    ∙ ap (λ (k : Opened). view_in (out-View v) k.encoding k.facet trail ∷ k.inside trail) (kind_opens (out-View v).kind)

-- ---- a view and those in it, one after the other

-- a view alone was added, and then those in it
added : (v : View) (trail : Trail) (inside old mid : List ViewIn) → mid ≡ old ++ view_at v trail ∷ []
    → inside ≡ inside_at (out-ViewKind (out-View v).kind) trail → mid ++ inside ≡ old ++ views_in v trail
added v trail inside old mid here is =
    ap (λ (m : List ViewIn). m ++ inside) here ∙ append_assoc old (view_at v trail ∷ []) inside
    ∙ ap (λ (xs : List ViewIn). old ++ (view_at v trail ∷ xs)) is ∙ ap (λ (xs : List ViewIn). old ++ xs) (sym (view_opens v trail))

pub unit_added : (v : View) (u : UnitView) (trail : Trail) (old mid : List ViewIn) → mid ≡ old ++ view_at v trail ∷ []
    → (out-View v).kind ≡ kind.Unit u → mid ≡ old ++ views_in v trail
unit_added v u trail old mid here is =
    let at : out-ViewKind (out-View v).kind ≡ level.Unit u = ap out-ViewKind (is ∙ sym (rolls-Unit u)) ∙ out-roll-ViewKind (level.Unit u) in
    sym (append-nil mid) ∙ added v trail [] old mid here (sym (ap (λ o. inside_at o trail) at))

pub layer_added : (v : View) (l : Layer) (trail : Trail) (views : List View) (old mid : List ViewIn) → mid ≡ old ++ view_at v trail ∷ []
    → (out-View v).kind ≡ kind.Layer l → views ≡ (out-Layer l).layer
    → mid ++ in_list (map views_in views) (to_member trail (codes "layer")) ≡ old ++ views_in v trail
layer_added v l trail views old mid here is same =
    let at : out-ViewKind (out-View v).kind ≡ level.Layer l = ap out-ViewKind (is ∙ sym (rolls-Layer l)) ∙ out-roll-ViewKind (level.Layer l) in
    added v trail (in_list (map views_in views) (to_member trail (codes "layer"))) old mid here
    (ap (λ (vs : List View). in_list (map views_in vs) (to_member trail (codes "layer"))) same ∙ sym (ap (λ o. inside_at o trail) at))

pub facet_added : (v : View) (f : Faceted) (trail : Trail) (view : View) (old mid : List ViewIn) → mid ≡ old ++ view_at v trail ∷ []
    → (out-View v).kind ≡ kind.Facet f → view ≡ (out-Faceted f).spec
    → mid ++ views_in view (to_member trail (codes "spec")) ≡ old ++ views_in v trail
facet_added v f trail view old mid here is same =
    let at : out-ViewKind (out-View v).kind ≡ level.Facet f = ap out-ViewKind (is ∙ sym (rolls-Facet f)) ∙ out-roll-ViewKind (level.Facet f) in
    added v trail (views_in view (to_member trail (codes "spec"))) old mid here
    (ap (λ (x : View). views_in x (to_member trail (codes "spec"))) same ∙ sym (ap (λ o. inside_at o trail) at))

pub joined_added : (v : View) (j : Joined) (trail : Trail) (views : List View) (word : List ℕ) (old mid : List ViewIn)
    → mid ≡ old ++ view_at v trail ∷ [] → (out-View v).kind ≡ kind.Joined j → views ≡ (out-Joined j).views
    → word ≡ joined_word (out-Joined j).joining
    → mid ++ in_list (map views_in views) (to_member trail word) ≡ old ++ views_in v trail
joined_added v j trail views word old mid here is same called =
    let at : out-ViewKind (out-View v).kind ≡ level.Joined j = ap out-ViewKind (is ∙ sym (rolls-Joined j)) ∙ out-roll-ViewKind (level.Joined j) in
    added v trail (in_list (map views_in views) (to_member trail word)) old mid here
    ((λ i. in_list (map views_in (same i)) (to_member trail (called i))) ∙ sym (ap (λ o. inside_at o trail) at))

-- ---- the views of a list

pub one_view : (views : List View) (trail : Trail) (n : ℕ) (v : View) (so_far next whole : List ViewIn) → n < length views
    → v ≡ get_or views n v → next ≡ so_far ++ views_in v (to_item trail n)
    → so_far ++ list_from n (map views_in (drop n views)) trail ≡ whole
    → next ++ list_from (n + 1) (map views_in (drop (n + 1) views)) trail ≡ whole
one_view views trail n v so_far next whole l is put h =
    let split : drop n views ≡ v ∷ drop (n + 1) views = drop_more views n v l ∙ ap (λ (x : View). x ∷ drop (n + 1) views) (sym is) in
    ap (λ (xs : List ViewIn). xs ++ list_from (n + 1) (map views_in (drop (n + 1) views)) trail) put
    ∙ append_assoc so_far (views_in v (to_item trail n)) (list_from (n + 1) (map views_in (drop (n + 1) views)) trail)
    ∙ ap (λ (vs : List View). so_far ++ list_from n (map views_in vs) trail) (sym split) ∙ h

pub no_view_more : (views : List View) (trail : Trail) (n : ℕ) (so_far whole : List ViewIn) → length views ≤ n
    → so_far ++ list_from n (map views_in (drop n views)) trail ≡ whole → so_far ≡ whole
no_view_more views trail n so_far whole l h =
    sym (append-nil so_far) ∙ ap (λ (vs : List View). so_far ++ list_from n (map views_in vs) trail) (sym (drop_all n views l)) ∙ h
