-- What a walk over a view finds, by what the view is.
use Rattle.std.proofs.Common.{◌≡◌, ℕ, ◌+◌, List, [], ◌∷◌, ◌++◌, map, sym, ap, ◌∙◌}
use Rattle.vl_spec.specs.declared.views.Faceted.{Faceted, out-Faceted}
use Rattle.vl_spec.specs.declared.views.Joined.{Joined, out-Joined}
use Rattle.vl_spec.specs.declared.views.Layer.{Layer, out-Layer}
use Rattle.vl_spec.specs.declared.views.Unit.{Unit as UnitView}
use Rattle.vl_spec.specs.declared.views.View.{View, out-View}
use Rattle.vl_spec.specs.declared.views.ViewKind.TheVariants as kind
use Rattle.vl_spec.specs.declared.views.ViewKind.TheOpen as level
use Rattle.vl_compose.specs.Rounds.{Round, Inside, in_order, rounds_in}
use Rattle.vl_compose.specs.inner.Opened.{inside_at}
use Rattle.vl_rules.specs.inner.Found.{FoundAt, and_met, with_unit, after}
use Rattle.vl_rules.proofs.OpenedLemmas.{here_at, Brings, unit_brings, layer_brings, facet_brings, joined_brings}
use Rattle.vl_rules.proofs.WalkLemmas.{after_unit, after_outer, alone}

pub unit_walked : (v : View) (u : UnitView) (outer : Round) (child : ℕ) (f : FoundAt) → (out-View v).kind ≡ kind.Unit u →
    with_unit f u.mark (outer ++ here_at v child f.count ∷ []) ≡ after f (rounds_in v outer child f.count)
unit_walked v u outer child f is =
    let brings = unit_brings v u outer child f.count is in
    after_unit f u.mark (outer ++ here_at v child f.count ∷ []) brings.ends brings.marked ∙ ap (after f) (sym brings.all)

-- a view with views in it
others_walked : (v : View) (inside : List Inside) (outer : Round) (child : ℕ) (f : FoundAt) → Brings v inside outer child f.count →
    after (and_met f) (in_order inside (outer ++ here_at v child f.count ∷ []) 0 (and_met f).count) ≡ after f (rounds_in v outer child f.count)
others_walked v inside outer child f brings =
    after_outer f (outer ++ here_at v child f.count ∷ []) (in_order inside (outer ++ here_at v child f.count ∷ []) 0 (f.count + 1)) brings.ends
    ∙ ap (after f) (sym brings.all)

pub layer_walked : (v : View) (l : Layer) (outer : Round) (child : ℕ) (f : FoundAt) (views : List View) → (out-View v).kind ≡ kind.Layer l →
    views ≡ (out-Layer l).layer →
    after (and_met f) (in_order (map rounds_in views) (outer ++ here_at v child f.count ∷ []) 0 (and_met f).count) ≡ after f (rounds_in v outer child f.count)
layer_walked v l outer child f views is same =
    ap (λ vs. after (and_met f) (in_order (map rounds_in vs) (outer ++ here_at v child f.count ∷ []) 0 (and_met f).count)) same
    ∙ others_walked v (inside_at (level.Layer l)) outer child f (layer_brings v l outer child f.count is)

pub joined_walked : (v : View) (j : Joined) (outer : Round) (child : ℕ) (f : FoundAt) (views : List View) → (out-View v).kind ≡ kind.Joined j →
    views ≡ (out-Joined j).views →
    after (and_met f) (in_order (map rounds_in views) (outer ++ here_at v child f.count ∷ []) 0 (and_met f).count) ≡ after f (rounds_in v outer child f.count)
joined_walked v j outer child f views is same =
    ap (λ vs. after (and_met f) (in_order (map rounds_in vs) (outer ++ here_at v child f.count ∷ []) 0 (and_met f).count)) same
    ∙ others_walked v (inside_at (level.Joined j)) outer child f (joined_brings v j outer child f.count is)

pub facet_walked : (v : View) (faceted : Faceted) (outer : Round) (child : ℕ) (f : FoundAt) (view : View) → (out-View v).kind ≡ kind.Facet faceted →
    view ≡ (out-Faceted faceted).spec →
    after (and_met f) (rounds_in view (outer ++ here_at v child f.count ∷ []) 0 (and_met f).count) ≡ after f (rounds_in v outer child f.count)
facet_walked v faceted outer child f view is same =
    ap (λ x. after (and_met f) (rounds_in x (outer ++ here_at v child f.count ∷ []) 0 (and_met f).count)) same
    ∙ alone (out-Faceted faceted).spec (outer ++ here_at v child f.count ∷ []) (and_met f)
    ∙ others_walked v (inside_at (level.Facet faceted)) outer child f (facet_brings v faceted outer child f.count is)
