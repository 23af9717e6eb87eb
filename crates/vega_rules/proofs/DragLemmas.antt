-- What is decided about drags at once.
use Rattle.std.proofs.Common.{◌≡◌, ℕ, suc, Bool, true, false, ◌&&◌, ◌||◌, not, List, [], ◌∷◌, ◌++◌, length, map, Option, Some, None, cond}
use Rattle.std.proofs.Common.{refl, sym, ap, ◌∙◌, arith}
use Rattle.std.specs.Prelude.{◌==◌, Vec, bytes_eq, is_some, find}
use Rattle.std.specs.Option.{option_or, option_and_then, option_map_or}
use Rattle.std.specs.List.{list_any, list_all}
use Rattle.std.specs.declared.alloc.Global.{Global}
use Rattle.std.specs.BTreeMap.{BTreeMap}
use Rattle.std.proofs.lemmas.Bool.Decides.{nat_tests}
use Rattle.spec_schema.specs.declared.spec_error.SpecKind.{SpecKind}
use Rattle.vega_parts.specs.declared.part.Part.{Part}
use Rattle.vega_parts.specs.declared.part.GivenName.{GivenName}
use Rattle.vega_parts.specs.declared.part.Given.TheVariants as given
use Rattle.vega_parts.specs.declared.part.Used.TheVariants as used
use Rattle.vega_rules.specs.declared.fault.PlacedFault.{PlacedFault}
use Rattle.vega_rules.specs.Faults.{sooner, earliest, fault_if, fault_at}
use Rattle.vega_rules.specs.Places.{fronts, same_place}
use Rattle.vega_rules.specs.Names.{number_of, is_given, given_by, given_names}
use Rattle.vega_rules.specs.Resolved.{served, given_in, first_found, resolved}
use Rattle.vega_rules.specs.Intervals.{inverts, names_in_plot, is_given_in_plot}
use Rattle.vega_rules.specs.declared.keys.By.TheVariants as by
use Rattle.vega_rules.specs.inner.Keyed.{number_at}
use Rattle.vega_rules.specs.inner.Index.{is_key, is_plot_scale, own_in_plot, key_in_plot, is_inner_scale, own_elsewhere, key_elsewhere, IsIndex}
use Rattle.vega_rules.specs.inner.Drags.{is_sooner, is_inner_of}
use Rattle.vega_rules.proofs.SearchLemmas.{any_held}
use Rattle.vega_rules.proofs.KeyLemmas.{key_test}

-- ---- a fault that isn't sooner changes nothing

pub not_sooner : (so_far : Option PlacedFault) (b : Bool) (kind : SpecKind) (at : List ℕ) → is_sooner so_far at ≡ false
    → so_far ≡ sooner so_far (earliest (fault_if b kind at))
not_sooner None b kind at h = absurd (cc)
not_sooner (Some f) true kind at h = sym (ap (λ t. cond t (Some (fault_at kind at)) (Some f)) h)
not_sooner (Some f) false kind at h = refl

-- ---- which names are there

plot_test : (scale : List ℕ) (o : Option GivenName)
    → is_key scale (option_and_then own_in_plot o) ≡ option_map_or (names_in_plot scale) o false
plot_test scale None = refl
plot_test scale (Some g) = key_test scale (is_plot_scale g) g.name

inner_test : (scale : List ℕ) (o : Option GivenName)
    → is_key scale (option_and_then own_elsewhere o) ≡ option_map_or (is_inner_of scale) o false
inner_test scale None = refl
inner_test scale (Some g) = key_test scale (is_inner_scale g) g.name

pub in_plot_found : (in_plot : BTreeMap (Vec ℕ Global) ℕ) (parts : List Part) (scale : List ℕ) → IsIndex by.InPlot in_plot parts
    → is_some (number_at in_plot scale) ≡ is_given_in_plot parts scale
in_plot_found in_plot parts scale h =
    any_held given_by (names_in_plot scale) (λ (p : Part). is_key scale (key_in_plot p)) (λ p. plot_test scale (given_by p)) parts
    (number_at in_plot scale) (h.finds scale)

pub elsewhere_found : (elsewhere : BTreeMap (Vec ℕ Global) ℕ) (parts : List Part) (scale : List ℕ) → IsIndex by.Elsewhere elsewhere parts
    → is_some (number_at elsewhere scale) ≡ list_any (is_inner_of scale) (given_names parts)
elsewhere_found elsewhere parts scale h =
    any_held given_by (is_inner_of scale) (λ (p : Part). is_key scale (key_elsewhere p)) (λ p. inner_test scale (given_by p)) parts
    (number_at elsewhere scale) (h.finds scale)

-- ---- a name that the top alone gives means the same from everywhere

or_left : (a b : Bool) → (a || b) ≡ false → a ≡ false
or_left true b h = absurd (cc)
or_left false b h = refl

or_right : (a b : Bool) → (a || b) ≡ false → b ≡ false
or_right true b h = absurd (cc)
or_right false b h = h

not_given : (k same : Bool) (scale name : List ℕ) (full : Bool) → (same ≡ true → full ≡ true)
    → (k && full && bytes_eq scale name) ≡ false → (k && same && bytes_eq scale name) ≡ false
not_given false same scale name full h n = refl
not_given true false scale name full h n = refl
not_given true true scale name full h n = let f : full ≡ true = h refl in let m : (true && bytes_eq scale name)
    ≡ false = ap (λ x. (true && x && bytes_eq scale name)) (sym f) ∙ n in m

is_full : (x : ℕ) (xs s : List ℕ) → same_place (x ∷ xs) s ≡ true → not (length s == 0) ≡ true
is_full x xs [] h = absurd (cc)
is_full x xs (y ∷ ys) h = more (length ys)
  where
    more : (n : ℕ) → not (suc n == 0) ≡ true
    more n = grind (arith, nat_tests)

none_there : (scale : List ℕ) (x : ℕ) (xs : List ℕ) (gs : List GivenName) → list_any (is_inner_of scale) gs ≡ false
    → find (is_given given.Scale (x ∷ xs) scale) gs ≡ None
none_there scale x xs [] h = refl
none_there scale x xs (g ∷ gs) h =
    let here : is_given given.Scale (x ∷ xs) scale g ≡ false =
    not_given (number_of given.Scale == number_of g.kind) (same_place (x ∷ xs) g.scope) scale g.name (not (length g.scope == 0))
    (is_full x xs g.scope)
    (or_left (is_inner_of scale g) (list_any (is_inner_of scale) gs) h) in
    ap (λ b. cond b (Some g) (find (is_given given.Scale (x ∷ xs) scale) gs)) here
    ∙ none_there scale x xs gs (or_right (is_inner_of scale g) (list_any (is_inner_of scale) gs) h)

or_none : (o : Option GivenName) → option_or o None ≡ o
or_none None = refl
or_none (Some g) = refl

module _ (look : List ℕ → Option GivenName) (none : (x : ℕ) (xs : List ℕ) → look (x ∷ xs) ≡ None) where
  skip : (n : ℕ) (ss : List (List ℕ)) → first_found look (map (λ front. n ∷ front) ss ++ ([] ∷ [])) ≡ look []
  skip n [] = or_none (look [])
  skip n (s ∷ ss) = ap (λ o. option_or o (first_found look (map (λ front. n ∷ front) ss ++ ([] ∷ [])))) (none n s) ∙ skip n ss

  top_alone : (object : List ℕ) → first_found look (fronts object) ≡ look []
  top_alone [] = or_none (look [])
  top_alone (n ∷ ns) = skip n (fronts ns)

module _ (parts : List Part) (scale : List ℕ) (none : list_any (is_inner_of scale) (given_names parts) ≡ false) where
  look_inner : (x : ℕ) (xs : List ℕ) → given_in parts used.Scale scale (x ∷ xs) ≡ None
  look_inner x xs = ap (λ o. option_or o None) (none_there scale x xs (given_names parts) none)

  same_everywhere : (object : List ℕ) → resolved parts used.Scale object [] scale ≡ resolved parts used.Scale [] [] scale
  same_everywhere object =
      let look = given_in parts used.Scale scale in
      ap (option_and_then (served used.Scale [])) (top_alone look look_inner object ∙ sym (top_alone look look_inner []))

  pub inverts_everywhere : inverts (resolved parts used.Scale [] [] scale) ≡ true → (object : List ℕ)
      → inverts (resolved parts used.Scale object [] scale) ≡ true
  inverts_everywhere h object = ap inverts (same_everywhere object) ∙ h

from_not : (b : Bool) → true ≡ not b → b ≡ false
from_not true h = absurd (cc)
from_not false h = refl

pub inverts_once : (parts : List Part) (scale : List ℕ) (of_top b : Bool)
    → of_top ≡ not (list_any (is_inner_of scale) (given_names parts)) → of_top ≡ true → b ≡ inverts (resolved parts used.Scale [] [] scale)
    → b ≡ true → (object : List ℕ) → inverts (resolved parts used.Scale object [] scale) ≡ true
inverts_once parts scale of_top b t of is holds = inverts_everywhere parts scale (from_not _ (sym of ∙ t)) (sym is ∙ holds)

-- ---- all of several

pub all_true : (f : List ℕ → Bool) (ss : List (List ℕ)) → ((s : List ℕ) → f s ≡ true) → true ≡ list_all f ss
all_true f [] h = refl
all_true f (s ∷ ss) h = all_true f ss h ∙ ap (λ b. b && list_all f ss) (sym (h s))
