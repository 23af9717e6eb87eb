-- Views with the steps that lead to them.
use Rattle.std.proofs.Common.{◌≡◌, ℕ, ◌+◌, ◌<◌, Bool, true, false, List, [], ◌∷◌, ◌++◌, cond, drop, get_or, length, map, refl, sym, ap, ◌∙◌}
use Rattle.std.specs.Prelude.{filter}
use Rattle.std.specs.List.{fold}
use Rattle.std.proofs.lemmas.List.{append_assoc, drop_more}
use Rattle.vl_compose.specs.declared.here.ViewHere.{ViewHere}
use Rattle.vl_compose.specs.Rounds.{KindAt}
use Rattle.vl_compose.specs.Shown.{round_shown, view_shown}
use Rattle.vl_trails.specs.Trails.{Trail}
use Rattle.vl_rules.specs.declared.leads.LedView.{LedView}
use Rattle.vl_rules.specs.Leads.{LedAt, gives_channel, led_from, view_steps}
use Rattle.vl_rules.specs.inner.Shown.{led_at, led_shown}

-- what is left begins with the item
pub split_at : {X : Type 0} (xs : List X) (i : ℕ) (x : X) → i < length xs → x ≡ get_or xs i x → drop i xs ≡ x ∷ drop (i + 1) xs
split_at xs i x within is = drop_more xs i x within ∙ ap (λ y. y ∷ drop (i + 1) xs) (sym is)

-- one more view is led to
pub led_more : (inside : List ViewHere) (n : ℕ) (here : ViewHere) (old new whole : List LedAt) (trail longer : Trail) (outer : KindAt) →
    n < length inside → here ≡ get_or inside n here → longer ≡ trail ++ view_steps outer here.child → new ≡ old ++ led_at longer (view_shown here) ∷ [] →
    old ++ led_from trail outer (round_shown (drop n inside)) ≡ whole →
    new ++ led_from longer (view_shown here).kind (round_shown (drop (n + 1) inside)) ≡ whole
led_more inside n here old new whole trail longer outer within is stepped pushed so_far =
    ap (λ (vs : List LedAt). vs ++ led_from longer (view_shown here).kind (round_shown (drop (n + 1) inside))) pushed
    ∙ append_assoc old (led_at longer (view_shown here) ∷ []) (led_from longer (view_shown here).kind (round_shown (drop (n + 1) inside)))
    ∙ ap (λ (t : Trail). old ++ led_at t (view_shown here) ∷ led_from t (view_shown here).kind (round_shown (drop (n + 1) inside))) stepped
    ∙ ap (λ (vs : List ViewHere). old ++ led_from trail outer (round_shown vs)) (sym (split_at inside n here within is))
    ∙ so_far

-- the steps to the last, where one more has a property or hasn't
pub last_more : (gives : Bool) (trail : Trail) (l : LedAt) (others : List LedAt) →
    fold (λ t (x : LedAt). x.trail) (cond gives l.trail trail) others ≡ fold (λ t (x : LedAt). x.trail) trail (cond gives (l ∷ others) others)
last_more true trail l others = refl
last_more false trail l others = refl

pub giving_more : (code : ℕ) (views : List LedView) (n : ℕ) (l : LedView) (old new whole : Trail) → n < length views → l ≡ get_or views n l →
    new ≡ cond (gives_channel code (led_shown l)) l.trail old →
    fold (λ t (x : LedAt). x.trail) old (filter (gives_channel code) (map led_shown (drop n views))) ≡ whole →
    fold (λ t (x : LedAt). x.trail) new (filter (gives_channel code) (map led_shown (drop (n + 1) views))) ≡ whole
giving_more code views n l old new whole within is taken so_far =
    let others : List LedAt = filter (gives_channel code) (map led_shown (drop (n + 1) views)) in
    ap (λ (t : Trail). fold (λ t (x : LedAt). x.trail) t others) taken
    ∙ last_more (gives_channel code (led_shown l)) old (led_shown l) others
    ∙ ap (λ (vs : List LedView). fold (λ t (x : LedAt). x.trail) old (filter (gives_channel code) (map led_shown vs))) (sym (split_at views n l within is))
    ∙ so_far
