-- One data set after those before it.
use Rattle.std.proofs.Common.{◌≡◌, ℕ, ◌+◌, ◌≤◌, ◌<◌, List, [], ◌∷◌, ◌++◌, find, cond, refl, sym, ap, subst, ◌∙◌, ◌⊎◌, inl, inr, arith}
use Rattle.std.specs.Prelude.{Option, Some, None, Bool, true, false, not, ◌&&◌, ◌||◌, bytes_eq, IfSome, is_some, is_none, filter_map, if◌then◌else◌}
use Rattle.std.specs.Option.{option_map, option_map_or, option_and_then, option_or}
use Rattle.std.specs.List.{cons_option}
use Rattle.std.proofs.lemmas.List.{append_assoc, append-nil}
use Rattle.std.proofs.lemmas.Slice.Eq.{bytes_eq-Decides}
use Rattle.spec_schema.specs.declared.spec_error.SpecKind.TheVariants.{Wrong}
use Rattle.vega_parts.specs.declared.part.Part.{Part}
use Rattle.vega_parts.specs.declared.part.Part.TheVariants as part
use Rattle.vega_parts.specs.declared.part.Given.TheVariants as given_as
use Rattle.vega_parts.specs.declared.part.GivenName.{GivenName}
use Rattle.vega_parts.specs.declared.part.Used.TheVariants as for_
use Rattle.vega_parts.specs.declared.part.UsedName.{UsedName}
use Rattle.vega_parts.specs.Names.{given, used}
use Rattle.vega_rules.specs.Faults.{fault_if}
use Rattle.vega_rules.specs.Places.{same_place, parent, ends_before}
use Rattle.vega_rules.specs.Names.{first_given, has_given}
use Rattle.vega_rules.specs.Twice.{twice}
use Rattle.vega_rules.specs.Unknown.{unknown}
use Rattle.vega_rules.specs.Resolved.{served, given_in, first_found, resolved_use, fronts_round}
use Rattle.vega_rules.specs.Folds.{is_source, is_source_of, source_of, product_of, product_by, begun, folds_after, used_by}
use Rattle.vega_spec.specs.declared.data.DataSet.{DataSet}
use Rattle.vega_lists.specs.Transforms.{transforms_of}
use Rattle.vega_lists.specs.Products.{Products, fold_product, ProductsFit, begun_product, and_its_product}
use Rattle.vega_standing.proofs.Trees.{Each}
use Rattle.vega_standing.proofs.Quiet.{IsQuiet, AreQuiet, each_append, each_of}
use Rattle.vega_standing.proofs.Known.{Under, under_itself, under_further, under_others, under_itself_not, unlike, concern, quiet_concern}
use Rattle.vega_standing.proofs.Known.{quiet_holds, Apart, known_after, known_append, folds_append, apart_product, quiet_known}
use Rattle.vega_standing.proofs.Known.{source_behind, loud_data, name_behind, name_append}
use Rattle.vega_standing.proofs.Rows.{parent_child}
use Rattle.vega_standing.proofs.Steps.{Multiplied}
use Rattle.vega_standing.proofs.Lists.{earlier_ends, itself_not, Behind, apart_behind, first_later, Meets, Outer, outer_kept, not_repeated, is_known}

-- ---- the parts of a data set

abbrev pub source_part : List ℕ → List ℕ → Option (ℕ × List ℕ) → List Part
source_part scope x o = option_map_or (λ (c : ℕ × List ℕ). used for_.Source scope (x ++ c.0 ∷ []) c.1 ∷ []) o []

abbrev pub set_list : List ℕ → List ℕ → ℕ → List ℕ → List Part → Option (ℕ × List ℕ) → List Part → List Part → List Part → List Part
set_list scope x m name front source between steps back =
    part.Data x ∷ given given_as.Data scope x (x ++ m ∷ []) name ∷ (front ++ (source_part scope x source ++ (between ++ (steps ++ back))))

-- no source is used in it
abbrev pub NoSource : Part → Type 0
NoSource p = IfSome (used_by p) (λ (u : UsedName). is_source u.kind ≡ false)

-- a quiet part, or a fold of the data set
abbrev pub IsFoldOf : List ℕ → Part → Type 0
IsFoldOf x p = (IsQuiet p) ⊎ ((at : List ℕ) × (k : ℕ) × (p ≡ part.Fold at x k))

-- parts that are those of a data set of an object
pub record ASet (whole : List Part) (scope x : List ℕ) (parts : List Part) (set : DataSet) : Type 0 where
  pub name_child : ℕ
  pub source : Option (ℕ × List ℕ)
  pub front : List Part
  pub between : List Part
  pub steps : List Part
  pub back : List Part
  pub quiet_front : AreQuiet front
  pub quiet_between : AreQuiet between
  pub quiet_back : AreQuiet back
  pub made : parts ≡ set_list scope x name_child set.name front source between steps back
  pub source_is : option_map (λ (m : ℕ × List ℕ). m.1) source ≡ set.source
  pub multiplied : (known : List (List ℕ × ℕ)) → product_of known x ≤ 8 →
      folds_after whole known steps ≡ [] → Multiplied whole known x steps (transforms_of set)
  pub only_folds : Each (IsFoldOf x) steps

-- what quiet parts keep, and what folds of the data set keep
pub steps_keep : (P : Part → Type 0) (x : List ℕ) → ((p : Part) → IsQuiet p → P p) →
    ((at : List ℕ) (k : ℕ) → P (part.Fold at x k)) → (steps : List Part) → Each (IsFoldOf x) steps → Each P steps
steps_keep P x quiet fold steps each = each_of (IsFoldOf x) P by_part steps each
  where
    by_part : (p : Part) → IsFoldOf x p → P p
    by_part p (inl q) = quiet p q
    by_part p (inr (at, k, e)) = subst P (sym e) (fold at k)

quiet_concerns : (P : List ℕ → Type 0) (p : Part) → IsQuiet p → IfSome (concern p) P
quiet_concerns P p q = subst (λ o. IfSome o P) (sym (quiet_concern p q)) tt

own_steps : (P : List ℕ → Type 0) (x : List ℕ) (steps : List Part) → Each (IsFoldOf x) steps → P x → Each (λ p. IfSome (concern p) P) steps
own_steps P x steps each p = steps_keep (λ p. IfSome (concern p) P) x (quiet_concerns P) (λ at k. p) steps each

used_concerns : (P : List ℕ → Type 0) (scope x : List ℕ) → P x → (o : Option (ℕ × List ℕ)) → Each (λ p. IfSome (concern p) P) (source_part scope x o)
used_concerns P scope x p None = tt
used_concerns P scope x p (Some c) = (subst P (sym (parent_child x c.0)) p, tt)

-- what holds of the object and of the data set holds of all that its parts concern
pub set_concerns : (P : List ℕ → Type 0) (whole : List Part) (scope x : List ℕ) (parts : List Part) (set : DataSet) →
    ASet whole scope x parts set → P scope → P x →
    Each (λ p. IfSome (concern p) P) parts
set_concerns P whole scope x parts set s p q =
    subst (Each (λ p. IfSome (concern p) P)) (sym s.made) (
      q,
      (
        p,
        each_append (λ p. IfSome (concern p) P) s.front
            (source_part scope x s.source ++ (s.between ++ (s.steps ++ s.back))) (quiet_holds P s.front s.quiet_front)
            (each_append (λ p. IfSome (concern p) P) (source_part scope x s.source) (s.between ++ (s.steps ++ s.back)) (used_concerns P scope x q s.source)
            (each_append (λ p. IfSome (concern p) P) s.between (s.steps ++ s.back) (quiet_holds P s.between s.quiet_between)
            (each_append (λ p. IfSome (concern p) P) s.steps s.back (own_steps P x s.steps s.only_folds q) (quiet_holds P s.back s.quiet_back)))),
      ),
    )

none_of : {X : Type 0} (xs ys : List X) → xs ++ ys ≡ [] → (xs ≡ []) × (ys ≡ [])
none_of [] ys e = (refl, e)
none_of (x ∷ xs) ys e = absurd cc

-- ---- sources

source_passes : (x : List ℕ) (p : Part) (us : List UsedName) → NoSource p → find (is_source_of x) (cons_option (used_by p) us) ≡ find (is_source_of x) us
source_passes x p us none = by_use (used_by p) none
  where
    by_use : (o : Option UsedName) → IfSome o (λ (u : UsedName). is_source u.kind ≡ false) → find (is_source_of x) (cons_option o us) ≡ find (is_source_of x) us
    by_use None e = refl
    by_use (Some u) e = ap (λ b. cond (b && same_place x (parent u.at)) (Some u) (find (is_source_of x) us)) e

passed_by : (x : List ℕ) (parts others : List Part) → Each NoSource parts → source_of (parts ++ others) x ≡ source_of others x
passed_by x [] others each = refl
passed_by x (p ∷ parts) others each = source_passes x p (filter_map used_by (parts ++ others)) each.0 ∙ passed_by x parts others each.1

no_source_quiet : (p : Part) → IsQuiet p → NoSource p
no_source_quiet (part.Used u) e = by_test (is_source u.kind) e
  where
    by_test : (b : Bool) → not b ≡ true → b ≡ false
    by_test true e = absurd cc
    by_test false e = refl
no_source_quiet (part.Data at) e = tt
no_source_quiet (part.Fold at set fields) e = tt
no_source_quiet (part.Given g) e = tt
no_source_quiet (part.Fault at kind) e = tt
no_source_quiet (part.Mark at scope name group) e = tt
no_source_quiet (part.Plot at) e = tt
no_source_quiet (part.Step at set) e = tt
no_source_quiet (part.Interval at scope scale marks) e = tt

pub quiet_no_source : (parts : List Part) → AreQuiet parts → Each NoSource parts
quiet_no_source parts quiet = each_of IsQuiet NoSource no_source_quiet parts quiet

none_apart : (x : List ℕ) (parts : List Part) → Each (Apart x) parts → source_of parts x ≡ None
none_apart x parts each = ap (λ ps. source_of ps x) (sym (append-nil parts)) ∙ source_behind x parts [] each

-- ---- what a source means

abbrev meant : List ℕ → Option GivenName → Option GivenName → Option GivenName → Option GivenName
meant at own facet round =
    option_or (option_and_then (served for_.Source at) own) (option_and_then (served for_.Source at) (option_or facet round))

abbrev worth : List (List ℕ × ℕ) → Option GivenName → ℕ
worth known o = option_map_or (λ (g : GivenName). product_of known g.of) o 1

serves : (at : List ℕ) (g : GivenName) → ends_before g.of at ≡ true → served for_.Source at g ≡ Some g
serves at g e = ap (λ b. if not true || b then Some g else None) e

serves_not : (at : List ℕ) (g : GivenName) → ends_before g.of at ≡ false → served for_.Source at g ≡ None
serves_not at g e = ap (λ b. if not true || b then Some g else None) e

own_means : (known : List (List ℕ × ℕ)) (at : List ℕ) (g : GivenName) (facet round : Option GivenName) (product : ℕ) →
    ends_before g.of at ≡ true → product_of known g.of ≡ product →
    worth known (meant at (Some g) facet round) ≡ product
own_means known at g facet round product e f =
    ap (λ o. worth known (option_or o (option_and_then (served for_.Source at) (option_or facet round)))) (serves at g e) ∙ f

round_means : (known : List (List ℕ × ℕ)) (at : List ℕ) (round : Option GivenName) (product : ℕ) →
    IfSome round (λ (g : GivenName). ends_before g.of at ≡ true → product_of known g.of ≡ product) →
    is_none (option_and_then (served for_.Source at) round) ≡ false →
    worth known (option_and_then (served for_.Source at) round) ≡ product
round_means known at None product m some = absurd cc
round_means known at (Some g) product m some = by_test (ends_before g.of at) refl
  where
    by_test : (b : Bool) → ends_before g.of at ≡ b → worth known (served for_.Source at g) ≡ product
    by_test true e = ap (worth known) (serves at g e) ∙ m e
    by_test false e = absurd (let f : is_none (served for_.Source at g) ≡ true = ap is_none (serves_not at g e) in cc)

no_own : (at : List ℕ) (own round : Option GivenName) → IfSome own (λ (g : GivenName). ends_before g.of at ≡ false) →
    meant at own None round ≡ option_and_then (served for_.Source at) round
no_own at None round e = refl
no_own at (Some g) round e = ap (λ o. option_or o (option_and_then (served for_.Source at) round)) (serves_not at g e)

some_of : {A : Type 0} (P : A → Type 0) (o : Option A) → ((x : A) → o ≡ Some x → P x) → IfSome o P
some_of P None f = tt
some_of P (Some x) f = f x refl

-- ---- what holds so far in the data sets of an object

-- what a name of the object means so far: a data set that stands before, or nothing in the object
abbrev pub Own : List (List ℕ × ℕ) → List ℕ → ℕ → ℕ → ℕ → Option GivenName → Type 0
Own known list j product outer None = product ≡ outer
Own known list j product outer (Some g) = (product_of known g.of ≡ product) × (i : ℕ) × (i < j) × (g.of ≡ list ++ i ∷ [])

pub record Sofar (whole : List Part) (scope list : List ℕ) (outer : Products) (j : ℕ) (before : List Part) (products : Products) : Type 0 where
  pub own : (name : List ℕ) → Own (known_after whole [] before) list j (products name) (outer name) (first_given before given_as.Data scope name)
  pub outside : Outer whole (known_after whole [] before) scope (fronts_round scope) outer
  pub few : (name : List ℕ) → products name ≤ 8
  pub clear : (i : ℕ) → j ≤ i → Each (Apart (list ++ i ∷ [])) before

module _ (whole : List Part) (no_twice : twice whole ≡ []) (no_unknown : unknown whole ≡ []) (no_folds : folds_after whole [] whole ≡ [])
    (scope : List ℕ) (k : ℕ) (no_facets : (name : List ℕ) → first_given whole given_as.Facet scope name ≡ None) (outer : Products)
    (j : ℕ) (before parts after : List Part) (products : Products) (set : DataSet)
    (sofar : Sofar whole scope (scope ++ k ∷ []) outer j before products)
    (s : ASet whole scope ((scope ++ k ∷ []) ++ j ∷ []) parts set) (is : whole ≡ before ++ (parts ++ after))
    (clear_after : Each (Apart ((scope ++ k ∷ []) ++ j ∷ [])) after)
    (behind_after : (rest : List ℕ) → Each (Behind scope (((scope ++ k ∷ []) ++ j ∷ []) ++ rest)) after) where
  abbrev list : List ℕ
  list = scope ++ k ∷ []

  abbrev x : List ℕ
  x = list ++ j ∷ []

  abbrev known : List (List ℕ × ℕ)
  known = known_after whole [] before

  no_less : (n : ℕ) → n ≤ n
  no_less n = omega arith

  x_under_scope : Under scope x
  x_under_scope = under_further scope (k ∷ []) x (under_itself list (j ∷ []))

  scope_not_x : same_place scope x ≡ false
  scope_not_x = under_itself_not scope k x (under_itself list (j ∷ []))

  x_not_scope : same_place x scope ≡ false
  x_not_scope = unlike x scope (λ e. let f : same_place scope x ≡ true = (bytes_eq-Decides scope x).1 (sym e) in let g = scope_not_x in cc)

  itself : same_place x x ≡ true
  itself = (bytes_eq-Decides x x).1 refl

  -- ---- the source

  whole_is : whole ≡ before ++ (set_list scope x s.name_child set.name s.front s.source s.between s.steps s.back ++ after)
  whole_is = is ∙ ap (λ ps. before ++ (ps ++ after)) s.made

  abbrev rest_of : Option (ℕ × List ℕ) → List Part
  rest_of o = s.front ++ (source_part scope x o ++ (s.between ++ (s.steps ++ s.back)))

  to_source : (o : Option (ℕ × List ℕ)) → s.source ≡ o →
      source_of whole x ≡ source_of ((source_part scope x o ++ (s.between ++ (s.steps ++ s.back))) ++ after) x
  to_source o e =
      ap (λ ps. source_of ps x) (whole_is ∙ ap (λ o. before ++ (set_list scope x s.name_child set.name s.front o s.between s.steps s.back ++ after)) e)
      ∙ source_behind x before (set_list scope x s.name_child set.name s.front o s.between s.steps s.back ++ after) (sofar.clear j (no_less j))
      ∙ ap (λ ps. source_of ps x) (append_assoc s.front (source_part scope x o ++ (s.between ++ (s.steps ++ s.back))) after)
      ∙ passed_by x s.front ((source_part scope x o ++ (s.between ++ (s.steps ++ s.back))) ++ after) (quiet_no_source s.front s.quiet_front)

  none_used : s.source ≡ None → source_of whole x ≡ None
  none_used e =
      to_source None e
      ∙ ap (λ ps. source_of ps x) (append_assoc s.between (s.steps ++ s.back) after)
      ∙ passed_by x s.between ((s.steps ++ s.back) ++ after) (quiet_no_source s.between s.quiet_between)
      ∙ ap (λ ps. source_of ps x) (append_assoc s.steps s.back after)
      ∙ passed_by x s.steps (s.back ++ after) (steps_keep NoSource x no_source_quiet (λ at k. tt) s.steps s.only_folds)
      ∙ passed_by x s.back after (quiet_no_source s.back s.quiet_back)
      ∙ none_apart x after clear_after

  abbrev use_of : ℕ × List ℕ → UsedName
  use_of c = record { kind = for_.Source; scope = scope; at = x ++ c.0 ∷ []; name = c.1 }

  one_used : (c : ℕ × List ℕ) → s.source ≡ Some c → source_of whole x ≡ Some (use_of c)
  one_used c e =
      to_source (Some c) e
      ∙ ap (λ b. cond b (Some (use_of c)) (source_of ((s.between ++ (s.steps ++ s.back)) ++ after) x))
      (ap (same_place x) (parent_child x c.0) ∙ itself)

  -- ---- what the source means

  behind_all : (c : ℕ) → Each (Behind scope (x ++ c ∷ [])) (parts ++ after)
  behind_all c =
      each_append (Behind scope (x ++ c ∷ [])) parts after
      (subst (Each (Behind scope (x ++ c ∷ []))) (sym s.made) (
        tt,
        (
          (λ same loud. itself_not x c),
          each_of (Apart scope) (Behind scope (x ++ c ∷ [])) (apart_behind scope (x ++ c ∷ [])) (rest_of s.source) rest_apart,
        ),
      ))
      (behind_after (c ∷ []))
    where
      rest_apart : Each (Apart scope) (rest_of s.source)
      rest_apart =
          let P : List ℕ → Type 0 = λ t. same_place scope t ≡ false in
          each_append (Apart scope) s.front (source_part scope x s.source ++ (s.between ++ (s.steps ++ s.back))) (quiet_holds P s.front s.quiet_front)
          (each_append (Apart scope) (source_part scope x s.source) (s.between ++ (s.steps ++ s.back)) (used_concerns P scope x scope_not_x s.source)
          (each_append (Apart scope) s.between (s.steps ++ s.back) (quiet_holds P s.between s.quiet_between)
          (each_append (Apart scope) s.steps s.back (own_steps P x s.steps s.only_folds scope_not_x) (quiet_holds P s.back s.quiet_back))))

  own_first : (name : List ℕ) → first_given whole given_as.Data scope name
      ≡ option_or (first_given before given_as.Data scope name) (first_given (parts ++ after) given_as.Data scope name)
  own_first name = ap (λ ps. first_given ps given_as.Data scope name) is ∙ name_append given_as.Data scope name before (parts ++ after)

  resolves : (c : ℕ × List ℕ) (own : Option GivenName) → first_given before given_as.Data scope c.1 ≡ own →
      resolved_use whole (use_of c) ≡ meant (x ++ c.0 ∷ []) (option_or own (first_given (parts ++ after) given_as.Data scope c.1)) None
      (first_found (given_in whole for_.Source c.1) (fronts_round scope))
  resolves c own e =
      λ i. meant (x ++ c.0 ∷ []) ((own_first c.1 ∙ ap (λ o. option_or o (first_given (parts ++ after) given_as.Data scope c.1)) e) i) (no_facets c.1 i)
      (first_found (given_in whole for_.Source c.1) (fronts_round scope))

  met : (o : Option GivenName) (product : ℕ) (c : ℕ) → Meets known scope product o →
      IfSome o (λ (g : GivenName). ends_before g.of (x ++ c ∷ []) ≡ true → product_of known g.of ≡ product)
  met None product c m = tt
  met (Some g) product c m =
      λ e. m.0 (x ++ c ∷ []) (under_further scope (k ∷ []) (x ++ c ∷ []) (under_further list (j ∷ []) (x ++ c ∷ []) (under_itself x (c ∷ [])))) e

  source_means : (c : ℕ × List ℕ) → is_none (resolved_use whole (use_of c)) ≡ false → worth known (resolved_use whole (use_of c)) ≡ products c.1
  source_means c some = by_own (first_given before given_as.Data scope c.1) refl (sofar.own c.1)
    where
      by_own : (own : Option GivenName) → first_given before given_as.Data scope c.1 ≡ own → Own known list j (products c.1) (outer c.1) own →
          worth known (resolved_use whole (use_of c)) ≡ products c.1
      by_own (Some g) e o =
          ap (worth known) (resolves c (Some g) e)
          ∙ own_means known (x ++ c.0 ∷ []) g None (first_found (given_in whole for_.Source c.1) (fronts_round scope)) (products c.1)
          (ap (λ of. ends_before of (x ++ c.0 ∷ [])) o.3 ∙ earlier_ends list o.1 j (c.0 ∷ []) o.2) o.0
      by_own None e o =
          let round : Option GivenName = first_found (given_in whole for_.Source c.1) (fronts_round scope) in
          let is_round : resolved_use whole (use_of c) ≡ option_and_then (served for_.Source (x ++ c.0 ∷ [])) round =
          resolves c None e
          ∙ no_own (x ++ c.0 ∷ []) (first_given (parts ++ after) given_as.Data scope c.1) round
          (some_of (λ (g : GivenName). ends_before g.of (x ++ c.0 ∷ []) ≡ false) (first_given (parts ++ after) given_as.Data scope c.1)
          (λ g f. first_later scope (x ++ c.0 ∷ []) c.1 (parts ++ after) g (behind_all c.0) f)) in
          ap (worth known) is_round
          ∙ round_means known (x ++ c.0 ∷ []) round (outer c.1) (met round (outer c.1) c.0 (sofar.outside.meets c.1)) (ap is_none (sym is_round) ∙ some)
          ∙ sym o

  place_in_whole : (c : ℕ × List ℕ) → s.source ≡ Some c →
      whole ≡ (before ++ (part.Data x ∷ given given_as.Data scope x (x ++ s.name_child ∷ []) set.name ∷ s.front))
      ++ part.Used (use_of c) ∷ ((s.between ++ (s.steps ++ s.back)) ++ after)
  place_in_whole c e =
      whole_is ∙ ap (λ o. before ++ (set_list scope x s.name_child set.name s.front o s.between s.steps s.back ++ after)) e
      ∙ ap (λ ps. before ++ part.Data x ∷ given given_as.Data scope x (x ++ s.name_child ∷ []) set.name ∷ ps)
      (append_assoc s.front (part.Used (use_of c) ∷ (s.between ++ (s.steps ++ s.back))) after)
      ∙ sym (append_assoc before (part.Data x ∷ given given_as.Data scope x (x ++ s.name_child ∷ []) set.name ∷ s.front)
      (part.Used (use_of c) ∷ ((s.between ++ (s.steps ++ s.back)) ++ after)))

  -- the product with which the data set begins
  begins : begun whole known x ≡ begun_product products set
  begins = by_source s.source refl
    where
      by_source : (o : Option (ℕ × List ℕ)) → s.source ≡ o → begun whole known x ≡ begun_product products set
      by_source None e =
          ap (λ o. option_map_or (product_by whole known) o 1) (none_used e)
          ∙ ap (λ o. option_map_or products o 1) (ap (λ o. option_map (λ (m : ℕ × List ℕ). m.1) o) (sym e) ∙ s.source_is)
      by_source (Some c) e =
          ap (λ o. option_map_or (product_by whole known) o 1) (one_used c e)
          ∙ source_means c (is_known whole (before ++ (part.Data x ∷ given given_as.Data scope x (x ++ s.name_child ∷ []) set.name ∷ s.front)) (use_of c)
          ((s.between ++ (s.steps ++ s.back)) ++ after) refl (place_in_whole c e) no_unknown)
          ∙ ap (λ o. option_map_or products o 1) (ap (λ o. option_map (λ (m : ℕ × List ℕ). m.1) o) (sym e) ∙ s.source_is)

  begins_few : begun whole known x ≤ 8
  begins_few = subst (λ n. n ≤ 8) (sym begins) (by_source set.source)
    where
      by_source : (o : Option (List ℕ)) → option_map_or products o 1 ≤ 8
      by_source None = omega arith
      by_source (Some name) = sofar.few name

  -- ---- the product of the data set

  abbrev entered : List (List ℕ × ℕ)
  entered = (x, begun whole known x) ∷ known

  entered_is : product_of entered x ≡ begun whole known x
  entered_is = ap (λ b. if b then begun whole known x else product_of known x) itself

  used_nothing : (o : Option (ℕ × List ℕ)) (known : List (List ℕ × ℕ)) → known_after whole known (source_part scope x o) ≡ known
  used_nothing None kn = refl
  used_nothing (Some c) kn = refl

  up_to_steps : (others : List Part) →
      known_after whole entered (s.front ++ (source_part scope x s.source ++ (s.between ++ others))) ≡ known_after whole entered others
  up_to_steps others =
      known_append whole entered s.front (source_part scope x s.source ++ (s.between ++ others))
      ∙ ap (λ kn. known_after whole kn (source_part scope x s.source ++ (s.between ++ others))) (quiet_known whole entered s.front s.quiet_front)
      ∙ known_append whole entered (source_part scope x s.source) (s.between ++ others)
      ∙ ap (λ kn. known_after whole kn (s.between ++ others)) (used_nothing s.source entered)
      ∙ known_append whole entered s.between others
      ∙ ap (λ kn. known_after whole kn others) (quiet_known whole entered s.between s.quiet_between)

  known_then : known_after whole known parts ≡ known_after whole entered s.steps
  known_then =
      ap (known_after whole known) s.made ∙ up_to_steps (s.steps ++ s.back) ∙ known_append whole entered s.steps s.back
      ∙ quiet_known whole (known_after whole entered s.steps) s.back s.quiet_back

  here_folds : folds_after whole known parts ≡ []
  here_folds =
      let all : folds_after whole [] (before ++ (parts ++ after)) ≡ [] = ap (folds_after whole []) (sym is) ∙ no_folds in
      let later = (none_of (folds_after whole [] before) (folds_after whole known (parts ++ after))
      (sym (folds_append whole [] before (parts ++ after)) ∙ all)).1 in
      (none_of (folds_after whole known parts) _ (sym (folds_append whole known parts after) ∙ later)).0

  front_folds : (known : List (List ℕ × ℕ)) (front others : List Part) →
      folds_after whole known (front ++ others) ≡ [] → folds_after whole (known_after whole known front) others ≡ []
  front_folds kn front others e = (none_of (folds_after whole kn front) _ (sym (folds_append whole kn front others) ∙ e)).1

  step_folds : folds_after whole entered s.steps ≡ []
  step_folds =
      let all : folds_after whole entered (rest_of s.source) ≡ [] = ap (folds_after whole known) (sym s.made) ∙ here_folds in
      let lead : List Part = s.front ++ (source_part scope x s.source ++ s.between) in
      let is_lead : rest_of s.source ≡ lead ++ (s.steps ++ s.back) =
      ap (λ ps. s.front ++ ps) (sym (append_assoc (source_part scope x s.source) s.between (s.steps ++ s.back)))
      ∙ sym (append_assoc s.front (source_part scope x s.source ++ s.between) (s.steps ++ s.back)) in
      let behind = front_folds entered lead (s.steps ++ s.back) (ap (folds_after whole entered) (sym is_lead) ∙ all) in
      let same : known_after whole entered lead ≡ entered =
      ap (known_after whole entered) (ap (λ ps. s.front ++ (source_part scope x s.source ++ ps)) (sym (append-nil s.between))) ∙ up_to_steps [] in
      let there : folds_after whole entered (s.steps ++ s.back) ≡ [] = ap (λ kn. folds_after whole kn (s.steps ++ s.back)) (sym same) ∙ behind in
      (none_of (folds_after whole entered s.steps) _ (sym (folds_append whole entered s.steps s.back) ∙ there)).0

  multiplied : Multiplied whole entered x s.steps (transforms_of set)
  multiplied = s.multiplied entered (subst (λ n. n ≤ 8) (sym entered_is) begins_few) step_folds

  pub set_fits : ProductsFit (begun_product products set) (transforms_of set)
  set_fits = subst (λ b. ProductsFit b (transforms_of set)) (entered_is ∙ begins) multiplied.fits

  abbrev made : ℕ
  made = fold_product (begun_product products set) (transforms_of set)

  product_is : product_of (known_after whole known parts) x ≡ made
  product_is = ap (λ kn. product_of kn x) known_then ∙ multiplied.product ∙ ap (λ b. fold_product b (transforms_of set)) (entered_is ∙ begins)

  made_few : made ≤ 8
  made_few = subst (λ n. n ≤ 8) (sym (ap (λ kn. product_of kn x) known_then) ∙ product_is) multiplied.few

  -- ---- what holds behind it

  same_names : (a b : List ℕ) (t : Bool) → bytes_eq a b ≡ t → bytes_eq b a ≡ t
  same_names a b true e = (bytes_eq-Decides b a).1 (sym ((bytes_eq-Decides a b).0 e))
  same_names a b false e = unlike b a (λ same. let f : bytes_eq a b ≡ true = (bytes_eq-Decides a b).1 (sym same) in cc)

  abbrev given_here : GivenName
  given_here = record { kind = given_as.Data; scope = scope; of = x; at = x ++ s.name_child ∷ []; name = set.name; scale = None }

  -- the name stands for nothing in the object before
  name_new : first_given before given_as.Data scope set.name ≡ None
  name_new =
      let at_data : Each (Apart scope) (part.Data x ∷ []) = (scope_not_x, tt) in
      let in_front : has_given (before ++ part.Data x ∷ []) given_as.Data scope set.name ≡ false =
      by_repeat (has_given (before ++ part.Data x ∷ []) given_as.Data scope set.name)
      (not_repeated whole (before ++ part.Data x ∷ []) (part.Given given_here) (rest_of s.source ++ after)
      (whole_is ∙ sym (append_assoc before (part.Data x ∷ []) (part.Given given_here ∷ (rest_of s.source ++ after)))) no_twice) in
      none_in (first_given before given_as.Data scope set.name) (first_given (part.Data x ∷ []) given_as.Data scope set.name)
      (ap is_some (sym (name_append given_as.Data scope set.name before (part.Data x ∷ []))) ∙ in_front)
    where
      by_repeat : (b : Bool) → fault_if (true && b) Wrong (x ++ s.name_child ∷ []) ≡ [] → b ≡ false
      by_repeat true e = absurd cc
      by_repeat false e = refl

      none_in : (a b : Option GivenName) → is_some (option_or a b) ≡ false → a ≡ None
      none_in None b e = refl
      none_in (Some g) b e = absurd cc

  then_known : known_after whole [] (before ++ parts) ≡ known_after whole known parts
  then_known = known_append whole [] before parts

  kept_product : (g : GivenName) (i : ℕ) → i < j → g.of ≡ list ++ i ∷ [] → product_of (known_after whole known parts) g.of ≡ product_of known g.of
  kept_product g i less of =
      apart_product whole known parts g.of
      (set_concerns (λ t. same_place g.of t ≡ false) whole scope x parts set s
      (unlike g.of scope (λ e. let f : same_place scope (list ++ i ∷ []) ≡ false = under_itself_not scope k (list ++ i ∷ []) (under_itself list (i ∷ [])) in
      let h : same_place scope (list ++ i ∷ []) ≡ true = (bytes_eq-Decides scope (list ++ i ∷ [])).1 (sym e ∙ of) in cc))
      (ap (λ y. same_place y x) of ∙ under_others list i j (list ++ i ∷ []) x (λ same. not_itself i j less same)
      (([], sym (append-nil (list ++ i ∷ [])))) (([], sym (append-nil x)))))
    where
      not_itself : (a b : ℕ) → a < b → a ≡ b → ⊥
      not_itself a b less same = omega (arith, less, same)

  given_in_set : (name : List ℕ) → first_given parts given_as.Data scope name ≡ (if bytes_eq name set.name then Some given_here else None)
  given_in_set name =
      ap (λ ps. first_given ps given_as.Data scope name) s.made
      ∙ by_scope (same_place scope scope) ((bytes_eq-Decides scope scope).1 refl)
    where
      rest_apart : Each (Apart scope) (rest_of s.source)
      rest_apart =
          let P : List ℕ → Type 0 = λ t. same_place scope t ≡ false in
          each_append (Apart scope) s.front (source_part scope x s.source ++ (s.between ++ (s.steps ++ s.back))) (quiet_holds P s.front s.quiet_front)
          (each_append (Apart scope) (source_part scope x s.source) (s.between ++ (s.steps ++ s.back)) (used_concerns P scope x scope_not_x s.source)
          (each_append (Apart scope) s.between (s.steps ++ s.back) (quiet_holds P s.between s.quiet_between)
          (each_append (Apart scope) s.steps s.back (own_steps P x s.steps s.only_folds scope_not_x) (quiet_holds P s.back s.quiet_back))))

      none_behind : first_given (rest_of s.source) given_as.Data scope name ≡ None
      none_behind = ap (λ ps. first_given ps given_as.Data scope name) (sym (append-nil (rest_of s.source)))
          ∙ name_behind given_as.Data loud_data scope name (rest_of s.source) [] rest_apart

      by_scope : (b : Bool) → b ≡ true → cond (true && b && bytes_eq name set.name) (Some given_here) (first_given (rest_of s.source) given_as.Data scope name)
          ≡ (if bytes_eq name set.name then Some given_here else None)
      by_scope b e = (λ i. cond (true && e i && bytes_eq name set.name) (Some given_here) (none_behind i))

  pub next : Sofar whole scope list outer (j + 1) (before ++ parts) (and_its_product products set)
  next = record {
    own = λ name. by_own name (first_given before given_as.Data scope name) refl (sofar.own name);
    outside = subst (λ kn. Outer whole kn scope (fronts_round scope) outer) (sym then_known)
        (outer_kept whole known scope (fronts_round scope) outer parts
        (set_concerns (Under scope) whole scope x parts set s ([], sym (append-nil scope)) x_under_scope) sofar.outside);
    few = λ name. by_name (bytes_eq set.name name) (sofar.few name);
    clear = λ i more. each_append (Apart (list ++ i ∷ [])) before parts (sofar.clear i (less i more))
        (set_concerns (λ t. same_place (list ++ i ∷ []) t ≡ false) whole scope x parts set s
        (unlike (list ++ i ∷ []) scope
        (λ e. let f : same_place scope (list ++ i ∷ []) ≡ false = under_itself_not scope k (list ++ i ∷ []) (under_itself list (i ∷ [])) in
        let h : same_place scope (list ++ i ∷ []) ≡ true = (bytes_eq-Decides scope (list ++ i ∷ [])).1 (sym e) in cc))
        (under_others list i j (list ++ i ∷ []) x (λ same. over i more same) ([], sym (append-nil (list ++ i ∷ []))) ([], sym (append-nil x))));
  }
    where
      less : (i : ℕ) → j + 1 ≤ i → j ≤ i
      less i more = omega arith

      over : (i : ℕ) → j + 1 ≤ i → i ≡ j → ⊥
      over i more same = omega (arith, more, same)

      farther : (i : ℕ) → i < j → i < j + 1
      farther i e = omega arith

      last : j < j + 1
      last = omega arith

      by_name : (b : Bool) {n : ℕ} → n ≤ 8 → (if b then made else n) ≤ 8
      by_name true e = made_few
      by_name false e = e

      by_own : (name : List ℕ) (o : Option GivenName) → first_given before given_as.Data scope name ≡ o → Own known list j (products name) (outer name) o →
          Own (known_after whole [] (before ++ parts)) list (j + 1) (and_its_product products set name)
          (outer name) (first_given (before ++ parts) given_as.Data scope name)
      by_own name (Some g) e o =
          let there : first_given (before ++ parts) given_as.Data scope name ≡ Some g =
          name_append given_as.Data scope name before parts ∙ ap (λ a. option_or a (first_given parts given_as.Data scope name)) e in
          let unlike_name : bytes_eq set.name name ≡ false =
          unlike set.name name (λ same. let f : first_given before given_as.Data scope name ≡ None =
          ap (first_given before given_as.Data scope) (sym same) ∙ name_new in cc) in
          let product : and_its_product products set name ≡ products name = ap (λ b. if b then made else products name) unlike_name in
          subst (Own (known_after whole [] (before ++ parts)) list (j + 1) (and_its_product products set name) (outer name)) (sym there)
          (ap (λ kn. product_of kn g.of) then_known ∙ kept_product g o.1 o.2 o.3 ∙ o.0 ∙ sym product, o.1, farther o.1 o.2, o.3)
      by_own name None e o = by_here (bytes_eq name set.name) refl
        where
          by_here : (b : Bool) → bytes_eq name set.name ≡ b →
              Own (known_after whole [] (before ++ parts)) list (j + 1) (and_its_product products set name)
              (outer name) (first_given (before ++ parts) given_as.Data scope name)
          by_here true same =
              let there : first_given (before ++ parts) given_as.Data scope name ≡ Some given_here =
              name_append given_as.Data scope name before parts ∙ ap (λ a. option_or a (first_given parts given_as.Data scope name)) e
              ∙ given_in_set name ∙ ap (λ b. if b then Some given_here else None) same in
              subst (Own (known_after whole [] (before ++ parts)) list (j + 1) (and_its_product products set name) (outer name)) (sym there) (
                ap (λ kn. product_of kn x) then_known ∙ product_is
                    ∙ sym (ap (λ b. if b then made else products name) (same_names name set.name true same)),
                j,
                last,
                refl,
              )
          by_here false other =
              let there : first_given (before ++ parts) given_as.Data scope name ≡ None =
              name_append given_as.Data scope name before parts ∙ ap (λ a. option_or a (first_given parts given_as.Data scope name)) e
              ∙ given_in_set name ∙ ap (λ b. if b then Some given_here else None) other in
              subst (Own (known_after whole [] (before ++ parts)) list (j + 1) (and_its_product products set name) (outer name)) (sym there)
              (ap (λ b. if b then made else products name) (same_names name set.name false other) ∙ o)
