-- Why the top of a compiled specification is read as the parameters are.
use Rattle.std.proofs.Common.{◌≡◌, ℕ, ◌&&◌, Bool, true, false, cond, Option, Some, None, List, [], ◌∷◌, ◌++◌}
use Rattle.std.proofs.Common.{map, flat_map, find, is_some, unwrap_or, refl, sym, ap, ◌∙◌}
use Rattle.std.specs.List.{list_any}
use Rattle.std.specs.Option.{option_map, option_map_or}
use Rattle.std.specs.Str.{bytes_eq}
use Rattle.fixed_num.specs.Ranges.{all_found, ◌>>=◌}
use Rattle.cell_value.specs.declared.cell.Cell.{Cell}
use Rattle.cell_value.specs.declared.cell.Cell.TheVariants.{Null}
use Rattle.cell_value.specs.State.{State}
use Rattle.expr_eval.specs.Stores.{values_of_stores}
use Rattle.expr_eval.specs.Values.{Values}
use Rattle.vega_spec.specs.declared.data.DataSet.{DataSet}
use Rattle.vega_spec.specs.declared.signals.Signal.{Signal}
use Rattle.vega_spec.specs.declared.spec.Group.{roll-Group, out-roll-Group}
use Rattle.vega_lists.specs.Lists.{lists_of}
use Rattle.vega_lists.specs.Scopes.{no_lists}
use Rattle.vega_signals.specs.Extents.{Settled}
use Rattle.vega_signals.specs.Lacking.{set_lacks}
use Rattle.vega_signals.specs.Parameters.{values_with, value_named}
use Rattle.vega_signals.specs.Settling.{settled_own, values_inside}
use Rattle.vega_signals.specs.Signals.{valued_here}
use Rattle.vega_copies.specs.Outlines.{Object, object_here}
use Rattle.vega_copies.specs.Scopes.{Names, names_at_top, written_here}
use Rattle.vega_copies.proofs.OutlineLemmas.{opened_object}
use Rattle.vl_spec.specs.declared.spec.VlSpec.{VlSpec}
use Rattle.plan_kit.specs.declared.plan.Plan.{Plan}
use Rattle.chart_meaning.specs.Parameters.{has_name, value_under}
use Rattle.chart_meaning.specs.Parameters.{settled, values_in, has_value, keeps_all, told}
use Rattle.vega_assemble.specs.Assembled.{sets_of, made}
use Rattle.vega_assemble.specs.Made.{parts_of, rolled}
use Rattle.vega_assemble.specs.Signals.{signals_of}
use Rattle.vega_assemble.specs.Sources.{if_any}
use Rattle.compiled_rows.specs.Values.{StoresAreApart, null_signal}
use Rattle.compiled_rows.specs.Values.{CommandsReadAlike, names_over, top_written, NamesAtTopAreThese}
use Rattle.compiled_rows.specs.Values.{NothingIsAdded}
use Rattle.compiled_rows.proofs.PartLemmas.{by_cases}
use Rattle.compiled_rows.proofs.ValueLemmas.{null_behind, settle, read_at_last}

-- ---- what commands read

both_true : (a b : Bool) → (a && b) ≡ true → (a ≡ true) × (b ≡ true)
both_true true b e = (refl, e)
both_true false b e = absurd (cc)

-- signals that all have values, as they are read
pub record AreGathered (xs : Settled) : Type 0 where
  pub plain : List (List ℕ × Cell)
  pub found : all_found (map valued_here xs) ≡ Some plain
  pub same : (name : List ℕ) → Some (value_named plain name) ≡ value_under xs name

one_read : (b : Bool) (n : List ℕ) (c : Cell) (p : Option (List ℕ × Cell)) (q : Option (List ℕ × Option Cell))
    → Some (option_map_or (λ (e : List ℕ × Cell). e.1) p Null) ≡ option_map_or (λ (e : List ℕ × Option Cell). e.1) q (Some Null)
    → Some (option_map_or (λ (e : List ℕ × Cell). e.1) (cond b (Some (n, c)) p) Null)
    ≡ option_map_or (λ (e : List ℕ × Option Cell). e.1) (cond b (Some (n, Some c)) q) (Some Null)
one_read true n c p q e = refl
one_read false n c p q e = e

one_gathered : (n : List ℕ) (o : Option Cell) (xs : Settled) → is_some o ≡ true → AreGathered xs → AreGathered ((n, o) ∷ xs)
one_gathered n None xs e h = absurd (cc)
one_gathered n (Some c) xs e h = record {
  plain = (n, c) ∷ h.plain;
  found = ap (λ rest. rest >>= λ ys. Some ((n, c) ∷ ys)) h.found;
  same = λ name. one_read (bytes_eq n name) n c (find (λ (e : List ℕ × Cell). bytes_eq e.0 name) h.plain) (find (has_name name) xs) (h.same name);
}

gathered : (xs : Settled) → keeps_all xs ≡ true → AreGathered xs
gathered [] e = record { plain = []; found = refl; same = λ name. refl }
gathered (x ∷ xs) e = let both = both_true (has_value x) (keeps_all xs) e in one_gathered x.0 x.1 xs both.0 (gathered xs both.1)

one_lost : (n : List ℕ) (o : Option Cell) (rest : Option (List (List ℕ × Cell))) (b : Bool) → (is_some o && b) ≡ false → (b ≡ false → rest ≡ None)
    → (valued_here (n, o) >>= λ y. rest >>= λ ys. Some (y ∷ ys)) ≡ None
one_lost n None rest b e h = refl
one_lost n (Some c) rest b e h = ap (λ r. r >>= λ ys. Some ((n, c) ∷ ys)) (h e)

lost : (xs : Settled) → keeps_all xs ≡ false → all_found (map valued_here xs) ≡ None
lost [] e = absurd (cc)
lost (x ∷ xs) e = one_lost x.0 x.1 (all_found (map valued_here xs)) (keeps_all xs) e (lost xs)

kept_with_null : (stem : List ℕ) (xs : Settled) → keeps_all (xs ++ null_signal stem ∷ []) ≡ keeps_all xs
kept_with_null stem [] = refl
kept_with_null stem (x ∷ xs) = ap (λ b. has_value x && b) (kept_with_null stem xs)

module _ (stem : List ℕ) (xs : Settled) where
  abbrev with_null : Settled
  with_null = xs ++ null_signal stem ∷ []

  abbrev commands_read : List ℕ → Option Cell
  commands_read name = Some (value_named (unwrap_or (all_found (map valued_here with_null)) []) name)

  where_all_have : (name : List ℕ) → AreGathered with_null → commands_read name ≡ value_under xs name
  where_all_have name h = ap (λ o. Some (value_named (unwrap_or o []) name)) h.found ∙ h.same name ∙ null_behind stem name xs

  same_commands : (name : List ℕ) → commands_read name ≡ value_under (told xs) name
  same_commands name =
      by_cases (keeps_all xs)
      (λ e. where_all_have name (gathered with_null (kept_with_null stem xs ∙ e)) ∙ ap (λ b. value_under (cond b xs []) name) (sym e))
      (λ e. ap (λ o. Some (value_named (unwrap_or o []) name)) (lost with_null (kept_with_null stem xs ∙ e))
      ∙ ap (λ b. value_under (cond b xs []) name) (sym e))

pub commands_read_alike : CommandsReadAlike
commands_read_alike stem s p st apart =
    ap (λ own. values_with (values_of_stores st.stores) (unwrap_or (all_found (map valued_here own)) []) []) (settle stem s p st apart)
    ∙ (λ i. record (values_of_stores st.stores) { value = λ name. same_commands stem (settled s.params st) name i })

-- ---- the top

pub list_back : {X : Type 0} (xs : List X) → unwrap_or (if_any xs) [] ≡ xs
list_back [] = refl
list_back (x ∷ xs) = refl

module _ (stem : List ℕ) (s : VlSpec) (p : Plan) where
  top_is : top_written stem s p ≡ object_here (parts_of ((made stem s p).object) (rolled (made stem s p).marks))
  top_is =
      opened_object (roll-Group (parts_of ((made stem s p).object) (rolled (made stem s p).marks)))
      ∙ ap object_here (out-roll-Group (parts_of ((made stem s p).object) (rolled (made stem s p).marks)))

  pub top_signals : (top_written stem s p).signals ≡ signals_of stem p.scales p.selections s.params
  top_signals = ap (λ (o : Object). o.signals) top_is ∙ list_back (signals_of stem p.scales p.selections s.params)

  pub top_sets : (top_written stem s p).sets ≡ sets_of stem s p
  top_sets = ap (λ (o : Object). o.sets) top_is ∙ list_back (sets_of stem s p)

  module _ (st : State) (apart : StoresAreApart stem s.params st) where
    abbrev with_own : List Signal → List DataSet → Option Names
    with_own signals sets =
        let values = values_inside (settled_own st.sources no_lists (values_of_stores st.stores) st.params signals sets) (values_of_stores st.stores) in
        cond (list_any (set_lacks values) sets) None
        (option_map (λ lists. record { lists = lists; values = values }) (lists_of values st.sources no_lists sets))

    at_top : names_at_top (values_of_stores st.stores) st.params st.sources (top_written stem s p)
        ≡ names_over (values_in s.params st) st.sources (sets_of stem s p)
    at_top = (λ i. with_own (top_signals i) (top_sets i)) ∙ ap (λ values. names_over values st.sources (sets_of stem s p)) (read_at_last stem s p st apart)

pub names_at_top_are_these : NamesAtTopAreThese
names_at_top_are_these = at_top

-- ---- further in

inside_nothing : (outer : Values) → values_inside [] outer ≡ outer
inside_nothing outer = refl

pub nothing_is_added : NothingIsAdded
nothing_is_added sources outer o signals sets =
    (λ i. within (signals i) (sets i))
  where
    within : List Signal → List DataSet → Option Names
    within signals sets =
        let own = settled_own sources outer.lists outer.values (flat_map written_here signals) signals sets in
        let values = values_inside own outer.values in
        cond (list_any (set_lacks values) sets) None
        (option_map (λ lists. record { lists = lists; values = values }) (lists_of values sources outer.lists sets))
