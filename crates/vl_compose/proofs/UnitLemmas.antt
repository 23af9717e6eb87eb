-- Loops over units.
use Rattle.std.proofs.Common.{◌≡◌, ℕ, ◌+◌, ◌<◌, Bool, true, false, List, [], ◌∷◌, ◌++◌, cond, drop, get_or, length, map, refl, sym, ap, ◌∙◌, arith}
use Rattle.std.specs.Prelude.{filter}
use Rattle.std.proofs.lemmas.List.{append_assoc, drop_more, length-map}
use Rattle.vl_compose.specs.declared.groups.Homed.{Homed}
use Rattle.vl_compose.specs.declared.here.UnitHere.{UnitHere}
use Rattle.vl_compose.specs.declared.views.UnitView.{UnitView}
use Rattle.vl_compose.specs.Sharing.{has_scale, homed, homed_for}
use Rattle.vl_compose.specs.Shown.{unit_shown}
use Rattle.vl_compose.specs.Units.{UnitAt}
use Rattle.vl_compose.specs.Views.{unit_view}
use Rattle.vl_compose.proofs.BehindLemmas.{at_place}

-- the next unit
next_unit : (xs : List UnitHere) (n : ℕ) (x : UnitHere) → n < length xs → x ≡ get_or xs n x →
    drop n (map unit_shown xs) ≡ unit_shown x ∷ drop (n + 1) (map unit_shown xs)
next_unit xs n x within is =
    let many = length-map xs unit_shown in
    let here : n < length (map unit_shown xs) = omega arith in
    drop_more (map unit_shown xs) n (unit_shown x) here
    ∙ (λ i. (at_place unit_shown xs n x ∙ ap unit_shown (sym is)) i ∷ drop (n + 1) (map unit_shown xs))

pub view_more : (units : List UnitHere) (n : ℕ) (unit : UnitHere) (view : UnitView) (old new whole : List UnitView) →
    n < length units → unit ≡ get_or units n unit →
    view ≡ unit_view (unit_shown unit) → new ≡ old ++ view ∷ [] → old ++ map unit_view (drop n (map unit_shown units)) ≡ whole →
    new ++ map unit_view (drop (n + 1) (map unit_shown units)) ≡ whole
view_more units n unit view old new whole within is seen added so_far =
    ap (λ vs. vs ++ map unit_view (drop (n + 1) (map unit_shown units))) (added ∙ ap (λ v. old ++ v ∷ []) seen)
    ∙ append_assoc old (unit_view (unit_shown unit) ∷ []) (map unit_view (drop (n + 1) (map unit_shown units)))
    ∙ ap (λ us. old ++ map unit_view us) (sym (next_unit units n unit within is))
    ∙ so_far

one_or_none : (t : Bool) (code : ℕ) (u : UnitAt) (others : List UnitAt) →
    map (homed code) (cond t (u ∷ others) others) ≡ cond t (homed code u ∷ []) [] ++ map (homed code) others
one_or_none true code u others = refl
one_or_none false code u others = refl

pub homed_more : (code : ℕ) (units : List UnitHere) (n : ℕ) (unit : UnitHere) (old new whole : List Homed) → n < length units → unit ≡ get_or units n unit →
    new ≡ old ++ cond (has_scale code (unit_shown unit)) (homed code (unit_shown unit) ∷ []) [] →
    old ++ homed_for code (drop n (map unit_shown units)) ≡ whole → new ++ homed_for code (drop (n + 1) (map unit_shown units)) ≡ whole
homed_more code units n unit old new whole within is added so_far =
    let others : List UnitAt = drop (n + 1) (map unit_shown units) in
    ap (λ hs. hs ++ homed_for code others) added
    ∙ append_assoc old (cond (has_scale code (unit_shown unit)) (homed code (unit_shown unit) ∷ []) []) (homed_for code others)
    ∙ ap (λ hs. old ++ hs) (sym (one_or_none (has_scale code (unit_shown unit)) code (unit_shown unit) (filter (has_scale code) others)))
    ∙ ap (λ us. old ++ homed_for code us) (sym (next_unit units n unit within is))
    ∙ so_far
