-- The normal form of a view that is there, by what stands in it.
use Rattle.std.proofs.Common.{◌≡◌, None, List, map, sym, ap, ◌∙◌}
use Rattle.vl_spec.specs.declared.channels.ChannelOf.{ChannelOf}
use Rattle.vl_spec.specs.declared.views.Joined.{Joined, roll-Joined, out-Joined, fold_out-Joined}
use Rattle.vl_spec.specs.declared.views.Faceted.{Faceted}
use Rattle.vl_spec.specs.declared.views.Layer.{Layer, roll-Layer, out-Layer, fold_out-Layer}
use Rattle.vl_spec.specs.declared.views.View.{View}
use Rattle.vl_normalize.specs.Channels.{channels_in, with_around}
use Rattle.vl_normalize.specs.Normal.{Around, KindForm, kind_here, faceted_here, joined_here, layer_here, view_here}
use Rattle.vl_normalize.specs.Normal.{normal_view, normal_layer, normal_joined}
use Rattle.vl_normalize.proofs.NormalLemmas.{all_views}

layer_opens : (l : Layer) (around : List ChannelOf) → normal_layer l around
    ≡ roll-Layer (record {
      layer = map (λ view. normal_view view (with_around (channels_in (out-Layer l).encoding) around)) (out-Layer l).layer;
      encoding = None;
    })
layer_opens l around = ap (λ (f : Around Layer). f around)
    (fold_out-Layer KindForm (Around Faceted) (Around Joined) (Around Layer) (Around View) kind_here faceted_here joined_here layer_here view_here l)
    ∙ ap (λ views. roll-Layer (record { layer = views; encoding = None }))
    (all_views (with_around (channels_in (out-Layer l).encoding) around) (out-Layer l).layer)

-- a layer of the normal forms of its views, among its channels and those round it
pub layer_is : (l : Layer) (around inside : List ChannelOf) (inner views : List View) →
    inside ≡ with_around (channels_in (out-Layer l).encoding) around → inner ≡ (out-Layer l).layer →
    views ≡ map (λ view. normal_view view inside) inner → roll-Layer (record { layer = views; encoding = None }) ≡ normal_layer l around
layer_is l around inside inner views among there each =
    ap (λ vs. roll-Layer (record { layer = vs; encoding = None }))
    (each ∙ (λ i. map (λ view. normal_view view (among i)) (there i)))
    ∙ sym (layer_opens l around)

joined_opens : (j : Joined) (around : List ChannelOf) → normal_joined j around
    ≡ roll-Joined (record {
      joining = (out-Joined j).joining;
      columns = (out-Joined j).columns;
      spacing = (out-Joined j).spacing;
      views = map (λ view. normal_view view around) (out-Joined j).views;
    })
joined_opens j around = ap (λ (f : Around Joined). f around)
    (fold_out-Joined KindForm (Around Faceted) (Around Joined) (Around Layer) (Around View) kind_here faceted_here joined_here layer_here view_here j)
    ∙ ap (λ views. roll-Joined (record { joining = (out-Joined j).joining; columns = (out-Joined j).columns; spacing = (out-Joined j).spacing; views = views }))
    (all_views around (out-Joined j).views)

-- joined views of their normal forms
pub joined_is : (j : Joined) (around : List ChannelOf) (inner views : List View) → inner ≡ (out-Joined j).views →
    views ≡ map (λ view. normal_view view around) inner →
    roll-Joined (record { joining = (out-Joined j).joining; columns = (out-Joined j).columns; spacing = (out-Joined j).spacing; views = views })
    ≡ normal_joined j around
joined_is j around inner views there each =
    ap (λ vs. roll-Joined (record { joining = (out-Joined j).joining; columns = (out-Joined j).columns; spacing = (out-Joined j).spacing; views = vs }))
    (each ∙ ap (λ inner. map (λ view. normal_view view around) inner) there)
    ∙ sym (joined_opens j around)
