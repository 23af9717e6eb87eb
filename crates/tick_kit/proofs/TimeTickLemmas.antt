-- Boundaries, one after another.
use Rattle.std.proofs.Common.{◌≡◌, ℕ, suc, ◌+◌, ◌-◌, ◌<◌, ◌≤◌, ℤ, List, [], ◌∷◌, ◌++◌, append_assoc, append-nil, sym, ap, ◌∙◌, arith}
use Rattle.case_table.specs.declared.unit.Unit.{Unit}
use Rattle.tick_kit.specs.inner.Boundaries.{following, up_to, boundaries_after}

pub one_after : (s i : ℕ) (unit : Unit) (n : ℕ) (high at : ℤ) → i < s
    → boundaries_after (s - i) unit n high at ≡ up_to high (following unit n at) (boundaries_after (s - (i + 1)) unit n high)
unfolding boundaries_after
one_after s i unit n high at h =
    let e : s - i ≡ suc (s - (i + 1)) = omega arith in ap (λ k. boundaries_after k unit n high at) e

pub none_after : (s i : ℕ) (unit : Unit) (n : ℕ) (high at : ℤ) (old whole : List ℤ) → s ≤ i
    → old ++ boundaries_after (s - i) unit n high at ≡ whole → old ≡ whole
unfolding boundaries_after
none_after s i unit n high at old whole h is =
    let e : s - i ≡ 0 = omega arith in
    sym (append-nil old) ∙ sym (ap (λ k. old ++ boundaries_after k unit n high at) e) ∙ is

-- where none follows, all are there
pub ended : (s i : ℕ) (unit : Unit) (n : ℕ) (high at : ℤ) (old whole : List ℤ) → i < s
    → ((later : ℤ → List ℤ) → up_to high (following unit n at) later ≡ []) → old ++ boundaries_after (s - i) unit n high at ≡ whole → old ≡ whole
ended s i unit n high at old whole h none is =
    sym (append-nil old) ∙ sym (ap (λ x. old ++ x) (one_after s i unit n high at h ∙ none (boundaries_after (s - (i + 1)) unit n high))) ∙ is

-- after one that follows
pub one_more : (s i : ℕ) (unit : Unit) (n : ℕ) (high at b : ℤ) (old new whole : List ℤ) → i < s
    → ((later : ℤ → List ℤ) → up_to high (following unit n at) later ≡ b ∷ later b) → old ++ boundaries_after (s - i) unit n high at ≡ whole
    → new ≡ old ++ b ∷ [] → new ++ boundaries_after (s - (i + 1)) unit n high b ≡ whole
one_more s i unit n high at b old new whole h one is e =
    ap (λ x. x ++ boundaries_after (s - (i + 1)) unit n high b) e
    ∙ append_assoc old (b ∷ []) (boundaries_after (s - (i + 1)) unit n high b)
    ∙ sym (ap (λ x. old ++ x) (one_after s i unit n high at h ∙ one (boundaries_after (s - (i + 1)) unit n high))) ∙ is
