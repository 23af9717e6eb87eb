-- What is found by places.
use Rattle.std.proofs.Common.{◌≡◌, ℕ, ◌+◌, ◌<◌, List, length, drop, get_or, Option, Some, cond, sym, ap, ◌∙◌, subst}
use Rattle.std.specs.Prelude.{Vec}
use Rattle.std.specs.List.{position_from}
use Rattle.std.specs.declared.alloc.Global.{Global}
use Rattle.std.specs.BTreeMap.{BTreeMap}
use Rattle.std.proofs.lemmas.List.{drop_more}
use Rattle.vega_parts.specs.declared.part.Part.{Part}
use Rattle.vega_rules.specs.inner.Keyed.{number_at}
use Rattle.vega_rules.specs.Nodes.{key, key_of, is_key}
use Rattle.vega_rules.specs.inner.Placed.{IsPlacedFrom, IsPlaced}

-- the first part with a key, where the parts are counted from a number on
abbrev first_from : List ℕ → ℕ → List Part → Option ℕ
first_from k n parts = position_from (λ p. is_key k (key_of p)) n parts

-- one more part is put, before those that were
pub one_before : (old new : BTreeMap (Vec ℕ Global) ℕ) (parts : List Part) (n m : ℕ) (d p : Part)
    → n < length parts → get_or parts n d ≡ p → m ≡ n + 1
    → ((k : List ℕ) → number_at new k ≡ cond (is_key k (key_of p)) (Some n) (number_at old k))
    → IsPlacedFrom old m (drop m parts) → IsPlacedFrom new n (drop n parts)
one_before old new parts n m d p l is next put finds k =
    let later : number_at old k ≡ first_from k (n + 1) (drop (n + 1) parts) =
    subst (λ (i : ℕ). number_at old k ≡ first_from k i (drop i parts)) next (finds k) in
    put k ∙ ap (λ o. cond (is_key k (key_of p)) (Some n) o) later
    ∙ ap (λ x. cond (is_key k (key_of x)) (Some n) (first_from k (n + 1) (drop (n + 1) parts))) (sym is)
    ∙ sym (ap (first_from k n) (drop_more parts n d l))

-- all parts were put
pub all_found : (places : BTreeMap (Vec ℕ Global) ℕ) (parts : List Part) → IsPlacedFrom places 0 parts → IsPlaced places parts
all_found places parts h = record { finds = λ i. λ thing place. h (key thing place) i }
