-- What a map of numbers under lists has after an insertion.
use Rattle.std.proofs.Common.{◌≡◌, ℕ, Bool, true, false, List, [], ◌∷◌, Option, Some, cond, refl, sym, ap, ◌∙◌}
use Rattle.std.specs.Prelude.{Vec, bytes_eq}
use Rattle.std.specs.declared.alloc.Global.{Global}
use Rattle.std.specs.declared.cmp.Ordering.{Ordering}
use Rattle.std.specs.declared.cmp.Ordering.TheVariants.{Less, Equal, Greater}
use Rattle.std.specs.Ordering.{nat_cmp, is_eq, match_ordering}
use Rattle.std.specs.Cmp.{alike_right}
use Rattle.std.specs.Cmp.Lexicographic.{slice_cmp}
use Rattle.std.proofs.lemmas.Cmp.{nat_list_cmp_total}
use Rattle.std.proofs.lemmas.Map.Text.{is_eq-slice_cmp}
use Rattle.std.specs.Map.{lookup}
use Rattle.std.specs.BTreeMap.{BTreeMap, insert_entry}
use Rattle.vl_names.specs.inner.First.{place_under}
use Rattle.vl_names.specs.inner.Keyed.{number_at}

abbrev order : List ℕ → List ℕ → Ordering
order = slice_cmp nat_cmp

abbrev keys_order : Vec ℕ Global → Vec ℕ Global → Ordering
keys_order x y = order x.items y.items

abbrev at : {V : Type 0} → List ℕ → List (Vec ℕ Global × V) → Option V
at q es = lookup (λ (k : Vec ℕ Global). is_eq (order q k.items)) es

-- the entry's value is written over
over : {V : Type 0} (b : Bool) (v w : V) (o : Option V) → cond b (Some v) o ≡ cond b (Some v) (cond b (Some w) o)
over true v w o = refl
over false v w o = refl

-- two keys apart can be asked in either order
apart : {V : Type 0} (b c : Bool) (v w : V) (o : Option V) → (b ≡ true → c ≡ false)
    → cond c (Some w) (cond b (Some v) o) ≡ cond b (Some v) (cond c (Some w) o)
apart true true v w o h = absurd (cc (h refl))
apart true false v w o h = refl
apart false c v w o h = refl

is_equal : (r : Ordering) → is_eq r ≡ true → r ≡ Equal
is_equal Less h = absurd (cc)
is_equal Equal h = refl
is_equal Greater h = absurd (cc)

-- at one entry, where the rest has the value
at_entry : {V : Type 0} (e : Vec ℕ Global × V) (es rest : List (Vec ℕ Global × V)) (k : Vec ℕ Global) (v : V) (q : List ℕ)
    → at q rest ≡ cond (is_eq (order q k.items)) (Some v) (at q es)
    → (r : Ordering) → order k.items e.0.items ≡ r
    → at q (match_ordering r ((k, v) ∷ e ∷ es) ((e.0, v) ∷ es) (e ∷ rest)) ≡ cond (is_eq (order q k.items)) (Some v) (at q (e ∷ es))
at_entry e es rest k v q later Less is = refl
at_entry e es rest k v q later Equal is =
    let same : is_eq (order q k.items) ≡ is_eq (order q e.0.items) = ap is_eq (alike_right nat_list_cmp_total k.items e.0.items q is) in
    over (is_eq (order q e.0.items)) v e.1 (at q es)
    ∙ ap (λ b. cond b (Some v) (cond (is_eq (order q e.0.items)) (Some e.1) (at q es))) (sym same)
at_entry e es rest k v q later Greater is =
    ap (λ o. cond (is_eq (order q e.0.items)) (Some e.1) o) later
    ∙ apart (is_eq (order q k.items)) (is_eq (order q e.0.items)) v e.1 (at q es)
    (λ h. ap is_eq (nat_list_cmp_total.congr q k.items e.0.items (is_equal _ h) ∙ is))

at_insert : {V : Type 0} (es : List (Vec ℕ Global × V)) (k : Vec ℕ Global) (v : V) (q : List ℕ)
    → at q (insert_entry keys_order es k v) ≡ cond (is_eq (order q k.items)) (Some v) (at q es)
at_insert [] k v q = refl
at_insert (e ∷ es) k v q = at_entry e es (insert_entry keys_order es k v) k v q (at_insert es k v q) (order k.items e.0.items) refl

-- what a map has after a number is put under a key
pub put_number : (old new : BTreeMap (Vec ℕ Global) ℕ) (k : Vec ℕ Global) (v : ℕ)
    → new.entries ≡ insert_entry (λ (x : Vec ℕ Global) (y : Vec ℕ Global). slice_cmp nat_cmp x.items y.items) old.entries k v
    → (q : List ℕ) → number_at new q ≡ cond (bytes_eq q k.items) (Some v) (number_at old q)
put_number old new k v h q =
    ap (at q) h ∙ at_insert old.entries k v q ∙ ap (λ b. cond b (Some v) (at q old.entries)) (is_eq-slice_cmp q k.items)

-- what a map has after a place is put under a key
pub put_place : (old new : BTreeMap (Vec ℕ Global) (List ℕ)) (k : Vec ℕ Global) (v : List ℕ)
    → new.entries ≡ insert_entry (λ (x : Vec ℕ Global) (y : Vec ℕ Global). slice_cmp nat_cmp x.items y.items) old.entries k v
    → (q : List ℕ) → place_under new q ≡ cond (bytes_eq q k.items) (Some v) (place_under old q)
put_place old new k v h q =
    ap (at q) h ∙ at_insert old.entries k v q ∙ ap (λ b. cond b (Some v) (at q old.entries)) (is_eq-slice_cmp q k.items)
