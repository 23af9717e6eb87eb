-- Panels at their places, one after the other.
use Rattle.std.proofs.Common.{◌≡◌, ℕ, ◌+◌, ℤ, Option, Some, None, List, [], ◌∷◌, ◌++◌, length, drop, slice_get, refl, sym, ap, ◌∙◌}
use Rattle.std.proofs.Common.{append_assoc, append-nil, inl, inr}
use Rattle.std.proofs.lemmas.List.{drop_more, drop_all, length-append}
use Rattle.std.proofs.lemmas.Option.{slice_get_within, slice_get_cases, get_or_from_slice_get}
use Rattle.view_layout.specs.declared.boxes.PlaceOf.{PlaceOf}
use Rattle.plot_scenes.specs.declared.views.PanelHere.{PanelHere}
use Rattle.plot_scenes.specs.declared.views.Part.{Part}
use Rattle.plot_scenes.specs.Contents.{panel_at, panels_at}

from_place : (places : List PlaceOf) (n : ℕ) (place : PlaceOf) → Some place ≡ slice_get places n → drop n places ≡ place ∷ drop (n + 1) places
from_place places n place e =
    drop_more places n place (slice_get_within places n place (sym e))
    ∙ ap (λ p. p ∷ drop (n + 1) places) (get_or_from_slice_get places n place place (sym e))

no_such : {X A : Type 0} (x : X) (o : Option X) → None ≡ o → o ≡ Some x → A
no_such x None e f = absurd (cc)
no_such x (Some y) e f = absurd (cc)

from_nowhere : (places : List PlaceOf) (n : ℕ) → None ≡ slice_get places n → drop n places ≡ []
from_nowhere places n e =
    elim (slice_get_cases places n).1 [
      | inl there ↦ no_such there.0 (slice_get places n) e there.2
      | inr past ↦ drop_all n places past.0
    ]

-- one part more at its place, whose index is how many panels there are
pub one_place : (done grown whole : List PanelHere) (made : PanelHere) (padding : ℤ) (part : Part) (rest items : List Part)
    (places : List PlaceOf) (place : PlaceOf) (n : ℕ) → n ≡ length done → Some place ≡ slice_get places n → made ≡ panel_at padding place part
    → grown ≡ done ++ made ∷ [] → items ≡ part ∷ rest → done ++ panels_at padding items (drop (length done) places) ≡ whole
    → grown ++ panels_at padding rest (drop (length grown) places) ≡ whole
one_place done grown whole made padding part rest items places place n n_is at made_is adds next is =
    let here : drop (length done) places ≡ place ∷ drop (length done + 1) places =
    from_place places (length done) place (at ∙ ap (slice_get places) n_is) in
    ap (λ l. l ++ panels_at padding rest (drop (length l) places)) adds
    ∙ ap (λ k. (done ++ made ∷ []) ++ panels_at padding rest (drop k places)) (length-append done (made ∷ []))
    ∙ append_assoc done (made ∷ []) (panels_at padding rest (drop (length done + 1) places))
    ∙ ap (λ m. done ++ (m ∷ panels_at padding rest (drop (length done + 1) places))) made_is
    ∙ ap (λ l. done ++ panels_at padding (part ∷ rest) l) (sym here)
    ∙ ap (λ l. done ++ panels_at padding l (drop (length done) places)) (sym next) ∙ is

-- where there is no place, no panels are left
pub no_place : (done whole : List PanelHere) (padding : ℤ) (parts : List Part) (places : List PlaceOf) (n : ℕ) → n ≡ length done
    → None ≡ slice_get places n → done ++ panels_at padding parts (drop (length done) places) ≡ whole → done ≡ whole
no_place done whole padding parts places n n_is nowhere is =
    sym (append-nil done)
    ∙ ap (λ l. done ++ l) (sym (nothing parts))
    ∙ ap (λ l. done ++ panels_at padding parts l) (sym (from_nowhere places (length done) (nowhere ∙ ap (slice_get places) n_is))) ∙ is
  where
    nothing : (parts : List Part) → panels_at padding parts [] ≡ []
    nothing [] = refl
    nothing (part ∷ parts) = refl
