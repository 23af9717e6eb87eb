-- What a look-up finds where only what is absent is put.
use Rattle.std.proofs.Common.{◌≡◌, Bool, true, cond, Option, Some, None, refl, sym, ap, ap₂, ◌∙◌}
use Rattle.std.specs.Option.{option_or}
use Rattle.plain_groups.proofs.PlaceLemmas.{by_cases}

or_none : {X : Type 0} (o : Option X) → option_or o None ≡ o
or_none None = refl
or_none (Some x) = refl

module _ {K V : Type 0} (same : K → K → Bool) (equal : (a b : K) → same a b ≡ true → a ≡ b) (at : K → Option V) (key q : K) where
  -- it stays where the key has something
  pub found_stays : (v w : V) → at key ≡ Some v → at q ≡ option_or (at q) (cond (same key q) (Some w) None)
  found_stays v w e =
      by_cases (same key q)
      (λ is. let there : at q ≡ Some v = ap at (sym (equal key q is)) ∙ e in
      there ∙ sym (ap (λ o. option_or o (cond (same key q) (Some w) None)) there))
      (λ other. sym (ap (λ b. option_or (at q) (cond b (Some w) None)) other ∙ or_none (at q)))

  -- and has one more where it has nothing
  pub found_more : (w : V) → at key ≡ None → cond (same key q) (Some w) (at q) ≡ option_or (at q) (cond (same key q) (Some w) None)
  found_more w e =
      by_cases (same key q)
      (λ is. let none : at q ≡ None = ap at (sym (equal key q is)) ∙ e in
      ap₂ (λ b o. cond b (Some w) o) is none ∙ sym (ap₂ (λ b o. option_or o (cond b (Some w) None)) is none))
      (λ other. ap (λ b. cond b (Some w) (at q)) other ∙ sym (ap (λ b. option_or (at q) (cond b (Some w) None)) other ∙ or_none (at q)))
