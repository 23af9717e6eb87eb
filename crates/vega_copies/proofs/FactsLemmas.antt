-- Facts that come of what was made are those of the definition.
use Rattle.std.proofs.Common.{◌≡◌, ℕ, suc, ◌+◌, ◌<◌, Bool, true, false, cond, Option, Some, None, Err, List, [], ◌∷◌, ◌++◌, map, length}
use Rattle.std.proofs.Common.{drop, get_or, Bor, refl, sym, ap, ◌∙◌, arith, subst, append-nil, append_assoc}
use Rattle.std.specs.Prelude.{slice_get, IfOk, Result, Ok}
use Rattle.std.specs.Option.{option_map, option_map_or}
use Rattle.std.specs.List.{All, AllZip}
use Rattle.std.proofs.lemmas.List.{length-append, length-drop}
use Rattle.std.proofs.lemmas.List.Elements.{All-nil, All-cons, All-head, All-tail, All-get_or}
use Rattle.expr_eval.specs.Stores.{values_of_stores}
use Rattle.fixed_num.specs.Ranges.{◌>>=◌, all_found}
use Rattle.cell_value.specs.declared.cell.Cell.{Cell}
use Rattle.cell_value.specs.declared.state.Named.{Named}
use Rattle.cell_value.specs.declared.state.StoreOf.{StoreOf}
use Rattle.cell_value.specs.State.{Dataset, dataset_of}
use Rattle.expr_eval.specs.Answers.{Evaluates}
use Rattle.expr_eval.specs.declared.error.EvalError.{EvalError}
use Rattle.expr_eval.specs.declared.error.EvalError.TheVariants.{Overflow, Memory}
use Rattle.expr_eval.proofs.Several.{stops_all}
use Rattle.vega_scales.specs.declared.scaled.Scaled.{Scaled}
use Rattle.vega_scales.specs.Scales.{FitsScale}
use Rattle.vega_signals.specs.Extents.{Settled}
use Rattle.vega_signals.specs.Settling.{values_inside}
use Rattle.vega_spec.specs.declared.spec.Group.{out-Group}
use Rattle.vega_spec.specs.declared.spec.VgMark.{VgMark, out-VgMark}
use Rattle.vega_copies.specs.declared.facts.CopyFacts.{CopyFacts, CopyFacts-F, out-CopyFacts, out-roll-CopyFacts}
use Rattle.vega_copies.specs.declared.facts.MarkFacts.{MarkFacts, MarkFacts-F, out-MarkFacts}
use Rattle.vega_copies.specs.declared.facts.OwnFacts.{OwnFacts}
use Rattle.vega_copies.specs.declared.facts.Step.{Step}
use Rattle.vega_copies.specs.declared.made.CopiesMade.{CopiesMade, out-CopiesMade}
use Rattle.vega_copies.specs.declared.made.CopyMade.{CopyMade, out-CopyMade}
use Rattle.vega_copies.specs.declared.names.Level.{Level}
use Rattle.vega_copies.specs.declared.names.NamesAt.{NamesAt}
use Rattle.vega_copies.specs.Outlines.{Object, Marks, NoMarks, AMark, AGroup, object_here, numbered, count_marks, count_groups}
use Rattle.vega_copies.specs.Scopes.{Names, keeps_signals}
use Rattle.vega_copies.specs.Facets.{Copy, copies_of, columns_across}
use Rattle.vega_copies.specs.CopyNames.{names_in_copy}
use Rattle.vega_copies.specs.Facts.{Facts, Found, NoneFound, FoundOf, NoCopies, CopyFound, gathered, facts_here, copy_found, found_in, facts_of}
use Rattle.vega_copies.specs.inner.FactsMade.{MadeAt, top_made, made_within, made_behind, made_at, lists_on, domain_at, copy_found_at, copy_found_in}
use Rattle.vega_copies.specs.inner.FactsMade.{facts_over, own_with, IsOwn, IsFactsOf, IsFactsIn, AreGroupFacts, IsNoFacts, HasFacts, OneHasFacts, CopyHasFacts}
use Rattle.vega_copies.specs.inner.FactsSeen.{path_to, copy_seen, copies_seen, marks_seen, values_seen, FitsObject, MarksFit, FactsFit}
use Rattle.vega_copies.specs.inner.Levels.{rows_at, names_at}
use Rattle.vega_copies.specs.inner.Made.{levels_behind, names_under, values_under, made_seen, IsMade, AreMade, OneMade, IsCopyMade, HaveCopies}
use Rattle.vega_copies.specs.inner.Counted.{Stops}
use Rattle.vega_copies.specs.inner.Results.{result_map}
use Rattle.vega_copies.specs.inner.Outlined.{is_group, group_object, marks_of}
use Rattle.vega_copies.specs.inner.Standing.{MayStand}
use Rattle.vega_copies.proofs.MadeLemmas.{at_place, all_made, copies_are, names_are_under, names_in_made, names_entered_are}
use Rattle.vega_copies.proofs.OutlineLemmas.{plain_first, group_first}
use Rattle.vega_copies.proofs.SeenFacts.{copy_opened, marks_first, inside_of_group}
use Rattle.vega_copies.proofs.StandLemmas.{stand_first, stand_rest}

-- ---- steps that may find nothing

-- where the last finds nothing, nothing is found
stops_after : {A B C : Type 0} (o : Option A) (found : Option B) (f : A → B → Option C) → found ≡ None → (o >>= λ a. found >>= f a) ≡ None
stops_after None found f e = refl
stops_after (Some a) found f e = ap (λ found. found >>= f a) e

-- what makes that nothing is found hands errors on
pub hands_on : {X Y : Type 0} (error : EvalError) (part : Option X) (whole : Option Y) → (part ≡ None → whole ≡ None)
    → Evaluates {X = X} (Err error) part → Evaluates {X = Y} (Err error) whole
hands_on Overflow part whole none told = none told
hands_on Memory part whole none told = tt

-- ---- a copy of an object

-- what comes of rows in it beside the copies in it
module _ (cells : Option (List (List ℕ × Cell))) (o : Object) (names : Names) where
  abbrev facts_with : List Scaled → Facts
  facts_with domains = record { cells = cells; names = names; domains = domains }

  abbrev domains_found : Option (List Scaled)
  domains_found = all_found (map (domain_at names) o.scales)

  abbrev own_by : Bool → Option (List Scaled) → Option Facts
  own_by kept domains = cond kept (option_map facts_with domains) None

  pub lacking_own : keeps_signals names o ≡ false → facts_here cells o names ≡ None
  lacking_own lacking = ap (λ b. own_by b domains_found) lacking

  no_domains : (b : Bool) → own_by b None ≡ None
  no_domains true = refl
  no_domains false = refl

  pub domains_lost : domains_found ≡ None → facts_here cells o names ≡ None
  domains_lost none = ap (λ domains. own_by (keeps_signals names o) domains) none ∙ no_domains (keeps_signals names o)

  own_is : (domains : List Scaled) → keeps_signals names o ≡ true → domains_found ≡ Some domains → facts_here cells o names ≡ Some (facts_with domains)
  own_is domains kept all = λ i. own_by (kept i) (all i)

-- with those
module _ (sources : List Dataset) (cells : Option (List (List ℕ × Cell))) (o : Object) (inside : Marks) (names : Names) where
  abbrev copy_by : Option Facts → Option Found → Option CopyFound
  copy_by own found = own >>= λ facts. found >>= λ inside. Some (record { facts = facts; inside = inside })

  own_stops : facts_here cells o names ≡ None → copy_found_at sources cells o inside names ≡ None
  own_stops none = ap (λ own. copy_by own (found_in sources inside names)) none

  inside_stops : found_in sources inside names ≡ None → copy_found_at sources cells o inside names ≡ None
  inside_stops none =
      stops_after (facts_here cells o names) (found_in sources inside names) (λ facts inside. Some (record { facts = facts; inside = inside })) none

  pub own_lost : (error : EvalError) → Evaluates {X = Facts} (Err error) (facts_here cells o names)
      → Evaluates {X = CopyFound} (Err error) (copy_found_at sources cells o inside names)
  own_lost error = hands_on error (facts_here cells o names) (copy_found_at sources cells o inside names) own_stops

  copy_is : (domains : List Scaled) (found : Found) → keeps_signals names o ≡ true → domains_found cells o names ≡ Some domains
      → found_in sources inside names ≡ Some found
      → copy_found_at sources cells o inside names ≡ Some (record { facts = facts_with cells o names domains; inside = found })
  copy_is domains found kept all is = λ i. copy_by (own_is cells o names domains kept all i) (is i)

-- ---- the tree of facts

found_there : {X : Type 0} (before : List X) (x : X) (rest : List X) → slice_get (before ++ x ∷ rest) (length before) ≡ Some x
found_there [] x rest = refl
found_there (b ∷ bs) x rest = found_there bs x rest

at_length : {X : Type 0} (whole before rest : List X) (x : X) (n : ℕ) → whole ≡ before ++ x ∷ rest → n ≡ length before → slice_get whole n ≡ Some x
at_length whole before rest x n is at = (λ i. slice_get (is i) (at i)) ∙ found_there before x rest

one_longer : {X : Type 0} (before : List X) (x : X) (n : ℕ) → n ≡ length before → n + 1 ≡ length (before ++ x ∷ [])
one_longer before x n at = omega (arith, at, length-append before (x ∷ []))

module _ (stores : List StoreOf) (sources : List Named) (top : MadeAt) where
  abbrev read : List Dataset
  read = map dataset_of sources

  -- where a further step leads
  stepped : (path : List Step) (levels : List Level) (whole : List CopiesMade) → made_at top path ≡ record { levels = levels; inside = whole }
      → (place n : ℕ) (found : CopiesMade) (copy : CopyMade) → slice_get whole place ≡ Some found → slice_get (out-CopiesMade found).copies n ≡ Some copy
      → made_at top (path_to path place n) ≡ made_within levels copy
  stepped path levels whole e place n found copy at there =
      ap (λ (here : MadeAt). made_behind here (record { mark = place; copy = n })) e
      ∙ ap (λ (f : Option CopiesMade). option_map_or (made_within levels) (f >>= λ found. slice_get (out-CopiesMade found).copies n)
      (record { levels = levels; inside = whole })) at
      ∙ ap (λ (c : Option CopyMade). option_map_or (made_within levels) c (record { levels = levels; inside = whole })) there

  -- a copy of an object, where this was found of the marks in it
  pub object_is : (o : Object) (inside : Marks) (level : Level) (levels : List Level) (cells : Option (List (List ℕ × Cell))) (made : List CopiesMade)
      (c : CopyFacts) (path : List Step) → made_at top path ≡ record { levels = level ∷ levels; inside = made }
      → IsFactsOf stores sources o (HasFacts stores sources inside) (level ∷ levels) level.signals cells made c
      → found_in read inside (names_under stores sources (level ∷ levels))
      ≡ Some (marks_seen (lists_on sources top) path (values_under stores (level ∷ levels)) 0 (out-CopyFacts c).inside)
      → copy_found_at read cells o inside (names_under stores sources (level ∷ levels))
      ≡ Some (copy_seen (lists_on sources top) c path (values_under stores levels))
  object_is o inside level levels cells made c path there is within =
      let lists = lists_on sources top in
      let parts = out-CopyFacts c in
      let values : values_under stores (level ∷ levels) ≡ values_seen c (values_under stores levels) =
      ap (λ own. values_inside own (values_under stores levels)) (sym is.signals_are) in
      let names : names_under stores sources (level ∷ levels) ≡ record { lists = lists path; values = values_seen c (values_under stores levels) } =
      λ i. record { lists = (names_under stores sources (sym there i).levels).lists; values = values i } in
      copy_is read cells o inside (names_under stores sources (level ∷ levels)) parts.domains
      (marks_seen lists path (values_under stores (level ∷ levels)) 0 parts.inside) is.kept is.domains within
      ∙ (λ i. Some (record {
        facts = record { cells = sym is.cells_are i; names = names i; domains = parts.domains };
        inside = marks_seen lists path (values i) 0 parts.inside;
      }))
      ∙ ap Some (sym (copy_opened lists c path (values_under stores levels)))

  -- what stands behind a path is found of some marks
  abbrev FoundOnPaths : Marks → Type 0
  FoundOnPaths marks =
      (path : List Step) (levels : List Level) (made : List CopiesMade) (facts : List MarkFacts) → made_at top path ≡ record { levels = levels; inside = made }
      → AreMade stores sources marks levels made → HasFacts stores sources marks levels made facts
      → found_in read marks (names_under stores sources levels) ≡ Some (marks_seen (lists_on sources top) path (values_under stores levels) 0 facts)

  -- the copies of a group
  module _ (o : Object) (inside : Marks) (within : FoundOnPaths inside) (path : List Step) (levels : List Level) (whole : List CopiesMade)
      (there : made_at top path ≡ record { levels = levels; inside = whole }) (place : ℕ) (found : CopiesMade) (at : slice_get whole place ≡ Some found) where
    abbrev one_found : Copy → Option CopyFound
    one_found copy = names_in_copy read (names_under stores sources levels) o copy >>= λ here. copy_found copy.cells o here (found_in read inside here)

    one_copy : (n : ℕ) (copy : CopyMade) (c : CopyFacts) → slice_get (out-CopiesMade found).copies n ≡ Some copy
        → IsMade stores sources o inside (AreMade stores sources inside) levels copy → IsFactsIn stores sources o (HasFacts stores sources inside) levels copy c
        → one_found (made_seen copy) ≡ Some (copy_seen (lists_on sources top) c (path_to path place n) (values_under stores levels))
    one_copy n copy c is made facts =
        let behind : made_at top (path_to path place n) ≡ made_within levels copy = stepped path levels whole there place n found copy at is in
        ap (λ names. names >>= λ here. copy_found (made_seen copy).cells o here (found_in read inside here)) made.names
        ∙ object_is o inside (out-CopyMade copy).level levels (out-CopyMade copy).cells (out-CopyMade copy).inside c (path_to path place n) behind facts
        (within (path_to path place n) ((out-CopyMade copy).level ∷ levels) (out-CopyMade copy).inside (out-CopyFacts c).inside behind made.within facts.inside)

    all_copies : (before copies : List CopyMade) (facts : List CopyFacts) (n : ℕ) → (out-CopiesMade found).copies ≡ before ++ copies → n ≡ length before
        → All (IsMade stores sources o inside (AreMade stores sources inside) levels) copies
        → AllZip (IsFactsIn stores sources o (HasFacts stores sources inside) levels) copies facts
        → all_found (map one_found (map made_seen copies)) ≡ Some (copies_seen (lists_on sources top) path (values_under stores levels) place n facts)
    all_copies before [] [] n is far made each = refl
    all_copies before [] (c ∷ cs) n is far made each = absurd each
    all_copies before (copy ∷ copies) [] n is far made each = absurd each
    all_copies before (copy ∷ copies) (c ∷ cs) n is far made each =
        let first : one_found (made_seen copy) ≡ Some (copy_seen (lists_on sources top) c (path_to path place n) (values_under stores levels)) =
        one_copy n copy c (at_length (out-CopiesMade found).copies before copies copy n is far)
        (All-head (IsMade stores sources o inside (AreMade stores sources inside) levels) copy copies made) each.0 in
        let rest : all_found (map one_found (map made_seen copies))
        ≡ Some (copies_seen (lists_on sources top) path (values_under stores levels) place (n + 1) cs) =
        all_copies (before ++ copy ∷ []) copies cs (n + 1) (is ∙ sym (append_assoc before (copy ∷ []) copies)) (one_longer before copy n far)
        (All-tail (IsMade stores sources o inside (AreMade stores sources inside) levels) copy copies made) each.1 in
        λ i. first i >>= λ y. rest i >>= λ ys. Some (y ∷ ys)

  -- marks from a place on
  marks_are : (marks : Marks) (path : List Step) (levels : List Level) (whole : List CopiesMade) → made_at top path ≡ record { levels = levels; inside = whole }
      → (before made : List CopiesMade) (facts : List MarkFacts) (place : ℕ) → whole ≡ before ++ made → place ≡ length before
      → AreMade stores sources marks levels made → HasFacts stores sources marks levels made facts
      → found_in read marks (names_under stores sources levels) ≡ Some (marks_seen (lists_on sources top) path (values_under stores levels) place facts)
  marks_are NoMarks path levels whole there before made [] place is far each has = refl
  marks_are NoMarks path levels whole there before made (f ∷ fs) place is far each has = absurd has
  marks_are (AMark unit m others) path levels whole there before [] facts place is far each has = absurd has
  marks_are (AMark unit m others) path levels whole there before (found ∷ made) [] place is far each has = absurd has
  marks_are (AMark unit m others) path levels whole there before (found ∷ made) (f ∷ fs) place is far each has =
      let lists = lists_on sources top in
      let values = values_under stores levels in
      let rest : found_in read others (names_under stores sources levels) ≡ Some (marks_seen lists path values (place + 1) fs) =
      marks_are others path levels whole there (before ++ found ∷ []) made fs (place + 1) (is ∙ sym (append_assoc before (found ∷ []) made))
      (one_longer before found place far) each.1 has.1 in
      ap (option_map (FoundOf NoCopies None)) rest
      ∙ (λ i. Some (FoundOf (gathered (copies_seen lists path values place 0 (sym has.0.copies i)))
      (sym has.0.across i) (marks_seen lists path values (place + 1) fs)))
      ∙ ap Some (sym (marks_first lists path values place f fs))
  marks_are (AGroup o inside others) path levels whole there before [] facts place is far each has = absurd has
  marks_are (AGroup o inside others) path levels whole there before (found ∷ made) [] place is far each has = absurd has
  marks_are (AGroup o inside others) path levels whole there before (found ∷ made) (f ∷ fs) place is far each has =
      let lists = lists_on sources top in
      let values = values_under stores levels in
      let one : Copy → Option CopyFound =
      λ copy. names_in_copy read (names_under stores sources levels) o copy >>= λ here. copy_found copy.cells o here (found_in read inside here) in
      let copies : all_found (map one (copies_of (names_under stores sources levels).lists o))
      ≡ Some (copies_seen lists path values place 0 (out-MarkFacts f).copies) =
      ap (λ l. all_found (map one l)) (sym each.0.copies)
      ∙ all_copies o inside (λ path levels made facts there each has. marks_are inside path levels made there [] made facts 0 refl refl each has)
      path levels whole there place found
      (at_length whole before made found place is far) [] (out-CopiesMade found).copies (out-MarkFacts f).copies 0 refl refl each.0.sound has.0.copies in
      let across : columns_across (names_under stores sources levels).lists o ≡ (out-MarkFacts f).across = sym each.0.across ∙ sym has.0.across in
      let rest : found_in read others (names_under stores sources levels) ≡ Some (marks_seen lists path values (place + 1) fs) =
      marks_are others path levels whole there (before ++ found ∷ []) made fs (place + 1) (is ∙ sym (append_assoc before (found ∷ []) made))
      (one_longer before found place far) each.1 has.1 in
      (λ i. copies i >>= λ copies. rest i >>= λ rest. Some (FoundOf (gathered copies) (across i) rest))
      ∙ ap Some (sym (marks_first lists path values place f fs))

  pub marks_found : (marks : Marks) → FoundOnPaths marks
  marks_found marks path levels made facts there each has = marks_are marks path levels made there [] made facts 0 refl refl each has

-- ---- facts of what was made fit

module _ (stores : List StoreOf) (sources : List Named) where
  copies_fit : (o : Object) (inside : Marks) (levels : List Level)
      → ((levels : List Level) (made : List CopiesMade) (facts : List MarkFacts) → HasFacts stores sources inside levels made facts → MarksFit inside facts)
      → (copies : List CopyMade) (facts : List CopyFacts) → AllZip (IsFactsIn stores sources o (HasFacts stores sources inside) levels) copies facts
      → All (FitsObject o (MarksFit inside)) facts
  copies_fit o inside levels within [] [] each = All-nil (FitsObject o (MarksFit inside))
  copies_fit o inside levels within [] (c ∷ cs) each = absurd each
  copies_fit o inside levels within (copy ∷ copies) [] each = absurd each
  copies_fit o inside levels within (copy ∷ copies) (c ∷ cs) each =
      All-cons (FitsObject o (MarksFit inside)) c cs
      (record {
        domains = each.0.fits;
        inside = within ((out-CopyMade copy).level ∷ levels) (out-CopyMade copy).inside (out-CopyFacts c).inside each.0.inside;
      })
      (copies_fit o inside levels within copies cs each.1)

  pub marks_fit : (marks : Marks) (levels : List Level) (made : List CopiesMade) (facts : List MarkFacts)
      → HasFacts stores sources marks levels made facts → MarksFit marks facts
  marks_fit NoMarks levels made [] has = tt
  marks_fit NoMarks levels made (f ∷ fs) has = absurd has
  marks_fit (AMark unit m others) levels [] facts has = absurd has
  marks_fit (AMark unit m others) levels (found ∷ made) [] has = absurd has
  marks_fit (AMark unit m others) levels (found ∷ made) (f ∷ fs) has = marks_fit others levels made fs has.1
  marks_fit (AGroup o inside others) levels [] facts has = absurd has
  marks_fit (AGroup o inside others) levels (found ∷ made) [] has = absurd has
  marks_fit (AGroup o inside others) levels (found ∷ made) (f ∷ fs) has = (
    copies_fit o inside levels (λ levels made facts has. marks_fit inside levels made facts has)
        (out-CopiesMade found).copies (out-MarkFacts f).copies has.0.copies,
    marks_fit others levels made fs has.1,
  )

-- ---- what is found of marks, the first and the others

some_is : {X : Type 0} (x : X) → Some x ≡ None → ⊥
some_is x e = cc

alone_stops : {A B C : Type 0} (o : Option A) (f : A → B) (k : A → Option C) → (o >>= λ a. Some (f a)) ≡ None → (o >>= k) ≡ None
alone_stops None f k e = refl
alone_stops (Some a) f k e = absurd (some_is (f a) e)

map_twice : {A B C : Type 0} (f : B → C) (g : A → B) (xs : List A) → map f (map g xs) ≡ map (λ x. f (g x)) xs
map_twice f g [] = refl
map_twice f g (x ∷ xs) = ap (λ l. f (g x) ∷ l) (map_twice f g xs)

module _ (names : NamesAt) where
  abbrev here : Names
  here = names_at names.stores.now names.sources.now names.levels.now

  abbrev sources_here : List Dataset
  sources_here = map dataset_of names.sources.now

  abbrev pub found_at : List VgMark → Option Found
  found_at marks = found_in sources_here (marks_of marks) here

  module _ (m : VgMark) (ms : List VgMark) where
    abbrev own_copies : Option (List CopyFound)
    own_copies = all_found (map (copy_found_in sources_here (out-VgMark m) here) (copies_of here.lists (group_object 0 (out-VgMark m))))

    abbrev with_copies : Option Found → List CopyFound → Option Found
    with_copies rest copies = rest >>= λ rest. Some (FoundOf (gathered copies) (columns_across here.lists (group_object 0 (out-VgMark m))) rest)

    group_found : is_group (out-VgMark m) ≡ true → found_at (m ∷ ms) ≡ (own_copies >>= with_copies (found_at ms))
    group_found e = ap (λ row. found_in sources_here row here) (group_first m (marks_of ms) e)

    plain_found : is_group (out-VgMark m) ≡ false → found_at (m ∷ ms) ≡ option_map (FoundOf NoCopies None) (found_at ms)
    plain_found e = ap (λ row. found_in sources_here row here) (plain_first m (marks_of ms) e)

  pub copies_stop : (m : VgMark) → is_group (out-VgMark m) ≡ true → own_copies m [] ≡ None → found_at (m ∷ []) ≡ None
  copies_stop m e none = group_found m [] e ∙ ap (λ copies. copies >>= with_copies m [] (Some NoneFound)) none

  first_stops : (m : VgMark) (ms : List VgMark) → found_at (m ∷ []) ≡ None → found_at (m ∷ ms) ≡ None
  first_stops m ms none = by_type (is_group (out-VgMark m)) refl
    where
      by_type : (b : Bool) → is_group (out-VgMark m) ≡ b → found_at (m ∷ ms) ≡ None
      by_type true e =
          group_found m ms e
          ∙ alone_stops (own_copies m ms) (λ copies. FoundOf (gathered copies) (columns_across here.lists (group_object 0 (out-VgMark m))) NoneFound)
          (with_copies m ms (found_at ms)) (sym (group_found m [] e) ∙ none)
      by_type false e = absurd (some_is (FoundOf NoCopies None NoneFound) (sym (plain_found m [] e) ∙ none))

  rest_stops : (m : VgMark) (ms : List VgMark) → found_at ms ≡ None → found_at (m ∷ ms) ≡ None
  rest_stops m ms none = by_type (is_group (out-VgMark m)) refl
    where
      by_type : (b : Bool) → is_group (out-VgMark m) ≡ b → found_at (m ∷ ms) ≡ None
      by_type true e =
          group_found m ms e
          ∙ stops_after (own_copies m ms) (found_at ms)
          (λ copies rest. Some (FoundOf (gathered copies) (columns_across here.lists (group_object 0 (out-VgMark m))) rest)) none
      by_type false e = plain_found m ms e ∙ ap (option_map (FoundOf NoCopies None)) none

-- ---- facts of marks, the first and the others

module _ (stores : List StoreOf) (sources : List Named) (levels : List Level) where
  pub group_has : (m : VgMark) (found : CopiesMade) (f : MarkFacts) → is_group (out-VgMark m) ≡ true
      → AreGroupFacts stores sources (group_object 0 (out-VgMark m)) (HasFacts stores sources (inside_of_group m)) levels found f
      → OneHasFacts stores sources levels m found f
  group_has m found f e are = subst (λ row. HasFacts stores sources row levels (found ∷ []) (f ∷ [])) (sym (group_first m (marks_of []) e)) (are, tt)

  pub plain_has : (m : VgMark) (found : CopiesMade) (f : MarkFacts)
      → is_group (out-VgMark m) ≡ false → IsNoFacts f → OneHasFacts stores sources levels m found f
  plain_has m found f e none = subst (λ row. HasFacts stores sources row levels (found ∷ []) (f ∷ [])) (sym (plain_first m (marks_of []) e)) (none, tt)

  -- the facts of a group from its parts
  pub group_of : (m : VgMark) (found : CopiesMade) (f : MarkFacts) (parts : MarkFacts-F CopyFacts MarkFacts) → out-MarkFacts f ≡ parts
      → is_group (out-VgMark m) ≡ true → AllZip (CopyHasFacts stores sources levels (out-VgMark m)) (out-CopiesMade found).copies parts.copies
      → parts.across ≡ (out-CopiesMade found).across → OneHasFacts stores sources levels m found f
  group_of m found f parts are e copies across =
      group_has m found f e
      (record {
        copies =
            subst (λ (p : MarkFacts-F CopyFacts MarkFacts).
            AllZip (CopyHasFacts stores sources levels (out-VgMark m)) (out-CopiesMade found).copies p.copies) (sym are) copies;
        across = ap (λ (p : MarkFacts-F CopyFacts MarkFacts). p.across) are ∙ across;
      })

  has_more : (m : VgMark) (ms : List VgMark) (found : CopiesMade) (more : List CopiesMade) (f : MarkFacts) (fs : List MarkFacts)
      → OneHasFacts stores sources levels m found f → HasFacts stores sources (marks_of ms) levels more fs
      → HasFacts stores sources (marks_of (m ∷ ms)) levels (found ∷ more) (f ∷ fs)
  has_more m ms found more f fs one rest = by_type (is_group (out-VgMark m)) refl
    where
      by_type : (b : Bool) → is_group (out-VgMark m) ≡ b → HasFacts stores sources (marks_of (m ∷ ms)) levels (found ∷ more) (f ∷ fs)
      by_type true e =
          subst (λ row. HasFacts stores sources row levels (found ∷ more) (f ∷ fs)) (sym (group_first m (marks_of ms) e))
          ((subst (λ row. HasFacts stores sources row levels (found ∷ []) (f ∷ [])) (group_first m (marks_of []) e) one).0, rest)
      by_type false e =
          subst (λ row. HasFacts stores sources row levels (found ∷ more) (f ∷ fs)) (sym (plain_first m (marks_of ms) e))
          ((subst (λ row. HasFacts stores sources row levels (found ∷ []) (f ∷ [])) (plain_first m (marks_of []) e) one).0, rest)

-- what is left of some marks, with the facts of those before them
pub record FactsLeft (names : NamesAt) (all : List VgMark) (every : List CopiesMade)
    (marks : List VgMark) (made : List CopiesMade) (out : List MarkFacts) : Type 0 where
  pub stand : HaveCopies names.stores.now names.sources.now names.levels.now marks made
  pub facts : (rest : List MarkFacts) → HasFacts names.stores.now names.sources.now (marks_of marks) (levels_behind names.levels.now) made rest
      → HasFacts names.stores.now names.sources.now (marks_of all) (levels_behind names.levels.now) every (out ++ rest)
  pub stops : found_at names marks ≡ None → found_at names all ≡ None

some_here : {X Y : Type 0} (R : X → Y → Type 0) (x : X) (xs : List X) (ys : List Y) → AllZip R (x ∷ xs) ys → 0 < length ys
some_here R x xs [] each = absurd each
some_here R x xs (y ∷ ys) each = omega arith

module _ (names : NamesAt) (all : List VgMark) (every : List CopiesMade) where
  abbrev one_made : VgMark → CopiesMade → Type 0
  one_made = OneMade names.stores.now names.sources.now (levels_behind names.levels.now)

  pub none_begun : (out : List MarkFacts) → out ≡ []
      → HaveCopies names.stores.now names.sources.now names.levels.now all every → FactsLeft names all every all every out
  none_begun out none have = record {
    stand = have;
    facts = λ rest has.
        subst (λ front. HasFacts names.stores.now names.sources.now (marks_of all) (levels_behind names.levels.now) every (front ++ rest)) (sym none) has;
    stops = λ none. none;
  }

  -- none are left
  pub facts_ended : (marks : List VgMark) (made : List CopiesMade) (out : List MarkFacts) → marks ≡ [] → FactsLeft names all every marks made out
      → HasFacts names.stores.now names.sources.now (marks_of all) (levels_behind names.levels.now) every out
  facts_ended marks made out none left =
      subst (HasFacts names.stores.now names.sources.now (marks_of all) (levels_behind names.levels.now) every) (append-nil out)
      (left.facts [] (subst (λ ms. HasFacts names.stores.now names.sources.now (marks_of ms) (levels_behind names.levels.now) made []) (sym none) tt))

  -- one is left at least
  module _ (index : ℕ) (m : VgMark) (at : ℕ) (out : List MarkFacts) (within : index < length all) (is : m ≡ get_or all index m)
      (left : FactsLeft names all every (drop index all) (drop at every) out) where
    here_first : FactsLeft names all every (m ∷ drop (index + 1) all) (drop at every) out
    here_first = subst (λ marks. FactsLeft names all every marks (drop at every) out) (at_place all index m within is) left

    pub one_within : at < length every
    one_within =
        let some = some_here one_made m (drop (index + 1) all) (drop at every) here_first.stand.made in
        let size = length-drop at every in
        omega (arith, some, size)

    module _ (one : CopiesMade) (one_is : one ≡ get_or every at one) where
      both_here : FactsLeft names all every (m ∷ drop (index + 1) all) (one ∷ drop (at + 1) every) out
      both_here = subst (λ made. FactsLeft names all every (m ∷ drop (index + 1) all) made out) (at_place every at one one_within one_is) here_first

      pub one_stands : MayStand (rows_at names.sources.now names.levels.now) (m ∷ [])
      one_stands = stand_first (rows_at names.sources.now names.levels.now) m (drop (index + 1) all) both_here.stand.stand

      pub one_is_made : one_made m one
      one_is_made = both_here.stand.made.0

      pub one_stops : (error : EvalError) → Evaluates {X = Found} (Err error) (found_at names (m ∷ [])) → Evaluates {X = Found} (Err error) (found_at names all)
      one_stops error =
          hands_on error (found_at names (m ∷ [])) (found_at names all) (λ none. both_here.stops (first_stops names m (drop (index + 1) all) none))

      pub one_more_found : (f : MarkFacts) (grown : List MarkFacts) → OneHasFacts names.stores.now names.sources.now (levels_behind names.levels.now) m one f
          → grown ≡ out ++ f ∷ [] → FactsLeft names all every (drop (index + 1) all) (drop (at + 1) every) grown
      one_more_found f grown has grows = record {
        stand = record {
          stand = stand_rest (rows_at names.sources.now names.levels.now) m (drop (index + 1) all) both_here.stand.stand;
          made = both_here.stand.made.1;
        };
        facts = λ rest more.
            subst (HasFacts names.stores.now names.sources.now (marks_of all) (levels_behind names.levels.now) every)
            (sym (ap (λ l. l ++ rest) grows ∙ append_assoc out (f ∷ []) rest))
            (both_here.facts (f ∷ rest)
            (has_more names.stores.now names.sources.now (levels_behind names.levels.now) m (drop (index + 1) all) one (drop (at + 1) every) f rest has more));
        stops = λ none. both_here.stops (rest_stops names m (drop (index + 1) all) none);
      }

-- ---- the copies of a group, one after the other

-- what holds of the element at a place
pub at_index : {X : Type 0} (P : X → Type 0) (xs : List X) (i : ℕ) (x : X) → All P xs → i < length xs → x ≡ get_or xs i x → P x
at_index P xs i x all within is = subst P (sym is) (All-get_or P xs i x within all)

pub one_copy_stops : (names : NamesAt) (m : VgMark) (found : CopiesMade) → is_group (out-VgMark m) ≡ true
    → OneMade names.stores.now names.sources.now (levels_behind names.levels.now) m found → (copies : List CopyMade) → copies ≡ (out-CopiesMade found).copies
    → (index : ℕ) (copy : CopyMade) → index < length copies → copy ≡ get_or copies index copy → (error : EvalError)
    → Evaluates {X = CopyFound} (Err error)
    (copy_found_in (map dataset_of names.sources.now) (out-VgMark m) (names_at names.stores.now names.sources.now names.levels.now) (made_seen copy))
    → Evaluates {X = Found} (Err error) (found_at names (m ∷ []))
one_copy_stops names m found e one copies are index copy within is error told =
    let each : CopyMade → Option CopyFound =
    λ copy. copy_found_in (map dataset_of names.sources.now) (out-VgMark m) (names_at names.stores.now names.sources.now names.levels.now) (made_seen copy) in
    let seen : own_copies names m [] ≡ all_found (map each copies) =
    ap (λ l. all_found (map (copy_found_in (map dataset_of names.sources.now) (out-VgMark m) (names_at names.stores.now names.sources.now names.levels.now)) l))
    (sym (copies_are names.stores.now names.sources.now names.levels.now m found e one 0) ∙ ap (map made_seen) (sym are))
    ∙ ap all_found (map_twice (copy_found_in (map dataset_of names.sources.now) (out-VgMark m)
    (names_at names.stores.now names.sources.now names.levels.now)) made_seen copies) in
    hands_on error (all_found (map each copies)) (found_at names (m ∷ [])) (λ none. copies_stop names m e (seen ∙ none))
    (stops_all each copies index copy within is error told)

-- an object's facts don't ask for its facet
as_group_object : (stores : List StoreOf) (sources : List Named) (m : VgMark) (levels : List Level) (signals : Settled) (cells : Option (List (List ℕ × Cell)))
    (made : List CopiesMade) (c : CopyFacts)
    → IsFactsOf stores sources (object_here (out-Group (out-VgMark m).group)) (HasFacts stores sources (inside_of_group m)) levels signals cells made c
    → IsFactsOf stores sources (group_object 0 (out-VgMark m)) (HasFacts stores sources (inside_of_group m)) levels signals cells made c
as_group_object stores sources m levels signals cells made c is = record {
  cells_are = is.cells_are;
  signals_are = is.signals_are;
  kept = is.kept;
  domains = is.domains;
  fits = is.fits;
  inside = is.inside;
}

-- ---- a copy of a group

module _ (stores : List StoreOf) (sources : List Named) (outer : List (Bor Level)) (m : VgMark) (copy : CopyMade)
    (is : IsCopyMade stores sources (levels_behind outer) (out-VgMark m) copy)
    (levels : List (Bor Level)) (more : levels_behind levels ≡ (out-CopyMade copy).level ∷ levels_behind outer) where
  pub entered_is : copy_found_in (map dataset_of sources) (out-VgMark m) (names_at stores sources outer) (made_seen copy)
      ≡ copy_found_at (map dataset_of sources) (out-CopyMade copy).cells (group_object 0 (out-VgMark m)) (inside_of_group m) (names_at stores sources levels)
  entered_is =
      ap (λ (names : Option Names).
      names >>= copy_found_at (map dataset_of sources) (out-CopyMade copy).cells (group_object 0 (out-VgMark m)) (inside_of_group m))
      (names_in_made stores sources outer m copy is 0)
      ∙ ap (copy_found_at (map dataset_of sources) (out-CopyMade copy).cells (group_object 0 (out-VgMark m)) (inside_of_group m))
      (names_entered_are stores sources outer m copy is levels more)

  pub entered_has : (result : Result CopyFacts EvalError)
      → IfOk result
      (IsFactsOf stores sources (object_here (out-Group (out-VgMark m).group)) (HasFacts stores sources (inside_of_group m)) (levels_behind levels)
      (out-CopyMade copy).level.signals (out-CopyMade copy).cells (out-CopyMade copy).inside)
      → IfOk result (CopyHasFacts stores sources (levels_behind outer) (out-VgMark m) copy)
  entered_has (Ok c) facts =
      subst (λ l. IsFactsOf stores sources (group_object 0 (out-VgMark m)) (HasFacts stores sources (inside_of_group m)) l (out-CopyMade copy).level.signals
      (out-CopyMade copy).cells (out-CopyMade copy).inside c) more
      (as_group_object stores sources m (levels_behind levels) (out-CopyMade copy).level.signals (out-CopyMade copy).cells (out-CopyMade copy).inside c facts)
  entered_has (Err e) facts = tt

-- ---- a copy of an object from its parts

pub own_parts : (o : Object) (names : Names) (signals : Settled) (cells : Option (List (List ℕ × Cell))) (domains : List Scaled) (own : OwnFacts)
    → own ≡ own_with signals cells domains → keeps_signals names o ≡ true → all_found (map (domain_at names) o.scales) ≡ Some domains
    → AllZip FitsScale o.scales domains → IsOwn o names signals cells own
own_parts o names signals cells domains own is kept found fits =
    subst (IsOwn o names signals cells) (sym is) (record { cells_are = refl; signals_are = refl; kept = kept; domains = found; fits = fits })

module _ (stores : List StoreOf) (sources : List Named) (o : Object) (levels : List (Bor Level)) (own : OwnFacts) (found : Result (List MarkFacts) EvalError)
    (cells : Option (List (List ℕ × Cell))) where
  over_stops : (inside : Marks) → Stops {X = List MarkFacts} {Y = Found} found (found_in (map dataset_of sources) inside (names_at stores sources levels))
      → Stops {X = CopyFacts} {Y = CopyFound} (result_map (facts_over own) found)
      (copy_found_at (map dataset_of sources) cells o inside (names_at stores sources levels))
  over_stops inside = by_result found
    where
      by_result : (found : Result (List MarkFacts) EvalError)
          → Stops {X = List MarkFacts} {Y = Found} found (found_in (map dataset_of sources) inside (names_at stores sources levels))
          → Stops {X = CopyFacts} {Y = CopyFound} (result_map (facts_over own) found)
          (copy_found_at (map dataset_of sources) cells o inside (names_at stores sources levels))
      by_result (Ok facts) stops = tt
      by_result (Err e) stops =
          hands_on e (found_in (map dataset_of sources) inside (names_at stores sources levels))
          (copy_found_at (map dataset_of sources) cells o inside (names_at stores sources levels))
          (inside_stops (map dataset_of sources) cells o inside (names_at stores sources levels)) stops

  over_has : (inside : Marks) (signals : Settled) (made : List CopiesMade) → IsOwn o (names_at stores sources levels) signals cells own
      → IfOk found (HasFacts stores sources inside (levels_behind levels) made)
      → IfOk (result_map (facts_over own) found) (IsFactsOf stores sources o (HasFacts stores sources inside) (levels_behind levels) signals cells made)
  over_has inside signals made is = by_result found
    where
      by_result : (found : Result (List MarkFacts) EvalError) → IfOk found (HasFacts stores sources inside (levels_behind levels) made)
          → IfOk (result_map (facts_over own) found) (IsFactsOf stores sources o (HasFacts stores sources inside) (levels_behind levels) signals cells made)
      by_result (Ok facts) has =
          let parts : CopyFacts-F CopyFacts MarkFacts = record { cells = own.cells; signals = own.signals; domains = own.domains; inside = facts } in
          let is_it : out-CopyFacts (facts_over own facts) ≡ parts = out-roll-CopyFacts parts in
          record {
            cells_are = ap (λ (p : CopyFacts-F CopyFacts MarkFacts). p.cells) is_it ∙ is.cells_are;
            signals_are = ap (λ (p : CopyFacts-F CopyFacts MarkFacts). p.signals) is_it ∙ is.signals_are;
            kept = ap (λ names. keeps_signals names o) (sym (names_are_under stores sources levels)) ∙ is.kept;
            domains =
                ap (λ names. all_found (map (domain_at names) o.scales)) (sym (names_are_under stores sources levels)) ∙ is.domains
                ∙ ap (λ (p : CopyFacts-F CopyFacts MarkFacts). Some p.domains) (sym is_it);
            fits = subst (λ (p : CopyFacts-F CopyFacts MarkFacts). AllZip FitsScale o.scales p.domains) (sym is_it) is.fits;
            inside = subst (λ (p : CopyFacts-F CopyFacts MarkFacts). HasFacts stores sources inside (levels_behind levels) made p.inside) (sym is_it) has;
          }
      by_result (Err e) has = tt

  -- as it is answered, with the marks as they are handed on
  module _ (marks handed : List VgMark) (same : handed ≡ marks) (result : Result CopyFacts EvalError) (is : result ≡ result_map (facts_over own) found) where
    pub answer_stops : Stops {X = List MarkFacts} {Y = Found} found (found_in (map dataset_of sources) (marks_of handed) (names_at stores sources levels))
        → Stops {X = CopyFacts} {Y = CopyFound} result (copy_found_at (map dataset_of sources) cells o (marks_of marks) (names_at stores sources levels))
    answer_stops stops =
        subst (λ r. Stops {X = CopyFacts} {Y = CopyFound} r
        (copy_found_at (map dataset_of sources) cells o (marks_of marks) (names_at stores sources levels))) (sym is)
        (over_stops (marks_of marks)
        (subst (λ ms. Stops {X = List MarkFacts} {Y = Found} found (found_in (map dataset_of sources) (marks_of ms) (names_at stores sources levels)))
        same stops))

    pub answer_has : (signals held : Settled) → held ≡ signals → (made given : List CopiesMade) → given ≡ made
        → IsOwn o (names_at stores sources levels) held cells own → IfOk found (HasFacts stores sources (marks_of handed) (levels_behind levels) given)
        → IfOk result (IsFactsOf stores sources o (HasFacts stores sources (marks_of marks)) (levels_behind levels) signals cells made)
    answer_has signals held held_are made given given_are own_is has =
        subst (λ r. IfOk r (IsFactsOf stores sources o (HasFacts stores sources (marks_of marks)) (levels_behind levels) signals cells made)) (sym is)
        (over_has (marks_of marks) signals made (subst (λ s. IsOwn o (names_at stores sources levels) s cells own) held_are own_is)
        (subst (λ made. IfOk found (HasFacts stores sources (marks_of marks) (levels_behind levels) made)) given_are
        (subst (λ ms. IfOk found (HasFacts stores sources (marks_of ms) (levels_behind levels) given)) same has)))

-- ---- the top

module _ (names : NamesAt) (level : Level) (o : Object) (marks : List VgMark) (made : List CopiesMade)
    (levels : levels_behind names.levels.now ≡ level ∷ []) (have : HaveCopies names.stores.now names.sources.now names.levels.now marks made) (c : CopyFacts)
    (is : IsFactsOf names.stores.now names.sources.now o (HasFacts names.stores.now names.sources.now (marks_of marks))
    (levels_behind names.levels.now) level.signals None made c) where
  pub top_is : copy_found_at (map dataset_of names.sources.now) None o (marks_of marks) (names_at names.stores.now names.sources.now names.levels.now)
      ≡ Some (copy_seen (lists_on names.sources.now (top_made level made)) c [] (values_of_stores names.stores.now))
  top_is =
      let stores = names.stores.now in
      let sources = names.sources.now in
      let top = top_made level made in
      let here : IsFactsOf stores sources o (HasFacts stores sources (marks_of marks)) (level ∷ []) level.signals None made c =
      subst (λ l. IsFactsOf stores sources o (HasFacts stores sources (marks_of marks)) l level.signals None made c) levels is in
      let each : AreMade stores sources (marks_of marks) (level ∷ []) made =
      subst (λ l. AreMade stores sources (marks_of marks) l made) levels (all_made stores sources (levels_behind names.levels.now) marks made have.made) in
      ap (copy_found_at (map dataset_of sources) None o (marks_of marks))
      (names_are_under stores sources names.levels.now ∙ ap (names_under stores sources) levels)
      ∙ object_is stores sources top o (marks_of marks) level [] None made c [] refl here
      (marks_found stores sources top (marks_of marks) [] (level ∷ []) made (out-CopyFacts c).inside refl each here.inside)

  pub top_fits : FactsFit o (marks_of marks) c
  top_fits = record {
    domains = is.fits;
    inside = marks_fit names.stores.now names.sources.now (marks_of marks) (levels_behind names.levels.now) made (out-CopyFacts c).inside is.inside;
  }

-- what is answered of the top
module _ (names : NamesAt) (level : Level) (o : Object) (marks : List VgMark) (made : List CopiesMade)
    (levels : levels_behind names.levels.now ≡ level ∷ []) (have : HaveCopies names.stores.now names.sources.now names.levels.now marks made)
    (result : Result CopyFacts EvalError) where
  abbrev HasThem : CopyFacts → Type 0
  HasThem = IsFactsOf names.stores.now names.sources.now o (HasFacts names.stores.now names.sources.now (marks_of marks))
      (levels_behind names.levels.now) level.signals None made

  pub answered_facts : Stops result
      (facts_of (map dataset_of names.sources.now) o (marks_of marks) (names_at names.stores.now names.sources.now names.levels.now))
      → IfOk result HasThem
      → Evaluates (result_map (λ facts. copy_seen (lists_on names.sources.now (top_made level made)) facts [] (values_of_stores names.stores.now)) result)
      (facts_of (map dataset_of names.sources.now) o (marks_of marks) (names_at names.stores.now names.sources.now names.levels.now))
  answered_facts = by_result result
    where
      by_result : (result : Result CopyFacts EvalError)
          → Stops result (facts_of (map dataset_of names.sources.now) o (marks_of marks) (names_at names.stores.now names.sources.now names.levels.now))
          → IfOk result HasThem
          → Evaluates (result_map (λ facts. copy_seen (lists_on names.sources.now (top_made level made)) facts [] (values_of_stores names.stores.now)) result)
          (facts_of (map dataset_of names.sources.now) o (marks_of marks) (names_at names.stores.now names.sources.now names.levels.now))
      by_result (Ok c) stops is = top_is names level o marks made levels have c is
      by_result (Err Overflow) stops is = stops
      by_result (Err Memory) stops is = stops

  pub answered_fit : IfOk result HasThem → IfOk result (FactsFit o (marks_of marks))
  answered_fit = by_result result
    where
      by_result : (result : Result CopyFacts EvalError) → IfOk result HasThem → IfOk result (FactsFit o (marks_of marks))
      by_result (Ok c) is = top_fits names level o marks made levels have c is
      by_result (Err e) is = tt

-- facts don't ask for the numbers of marks and groups
pub found_numbered : (sources : List Dataset) (marks : Marks) (unit number : ℕ) (names : Names)
    → found_in sources (numbered unit number marks) names ≡ found_in sources marks names
found_numbered sources NoMarks unit number names = refl
found_numbered sources (AMark old m others) unit number names =
    ap (option_map (FoundOf NoCopies None)) (found_numbered sources others (suc unit) number names)
found_numbered sources (AGroup o inside others) unit number names = λ i.
    all_found (map (λ copy. names_in_copy sources names o copy >>= λ here.
    copy_found copy.cells o here (found_numbered sources inside unit (suc number) here i)) (copies_of names.lists o)) >>= λ copies.
    found_numbered sources others (unit + count_marks inside) (suc number + count_groups inside) names i >>= λ rest.
    Some (FoundOf (gathered copies) (columns_across names.lists o) rest)
