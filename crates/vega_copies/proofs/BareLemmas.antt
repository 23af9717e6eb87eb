-- Copies without rows.
use Rattle.std.proofs.Common.{◌≡◌, ℕ, Bool, true, false, cond, Option, Some, None, List, [], ◌∷◌, map, zip, refl, sym, ap, ◌∙◌, subst, arith}
use Rattle.std.specs.Str.{bytes_eq}
use Rattle.std.proofs.lemmas.List.Elements.{All-nil, All-cons}
use Rattle.cell_value.specs.declared.state.Keyed.{Keyed}
use Rattle.cell_value.specs.declared.state.Named.{Named}
use Rattle.cell_value.specs.State.{Dataset, dataset_of}
use Rattle.plain_rows.specs.Rows.{AreRows, keys_of}
use Rattle.vega_spec.specs.declared.marks.Facet.{Facet}
use Rattle.vega_spec.specs.declared.spec.Group.{Group}
use Rattle.vega_spec.specs.declared.spec.VgMark.{VgMark, VgMark-F}
use Rattle.vega_lists.specs.Orders.{texts_in}
use Rattle.vega_lists.specs.Inside.{RowsByName, AllKeysFit}
use Rattle.vega_lists.specs.Products.{Products, KeysFit}
use Rattle.vega_copies.specs.declared.copies.CopyOf.{CopyOf}
use Rattle.vega_copies.specs.declared.names.NamesAt.{NamesAt}
use Rattle.vega_copies.specs.Outlines.{facet_in}
use Rattle.vega_copies.specs.Fitting.{with_part_products, products_in_copy}
use Rattle.vega_copies.specs.inner.Levels.{rows_at, parts_over, AreParts}
use Rattle.vega_copies.specs.inner.Copied.{IsCopy}
use Rattle.vega_copies.specs.inner.Counted.{bare_part, bare_named, parts_of_bare, bare_copy}

none_are_rows : AreRows []
none_are_rows = record {
  rise = λ i j d less within. absurd (omega (arith, within));
  small_ids = λ k d within. absurd (omega (arith, within));
  few = omega arith;
}

none_fit : (n : ℕ) → KeysFit n (keys_of [])
none_fit n = record { few = omega arith; branches = λ k d within. absurd (omega (arith, within)) }

bare_are_parts : (named : List (List ℕ × List ℕ)) → AreParts (map bare_named named)
bare_are_parts [] = All-nil (λ (part : Named). AreRows part.rows)
bare_are_parts (n ∷ ns) = All-cons (λ (part : Named). AreRows part.rows) (bare_named n) (map bare_named ns) none_are_rows (bare_are_parts ns)

either_fits : (b : Bool) (p q : ℕ) (own others : List Keyed) → KeysFit p (keys_of own) → KeysFit q (keys_of others)
    → KeysFit (cond b p q) (keys_of (cond b own others))
either_fits true p q own others x y = x
either_fits false p q own others x y = y

bare_fit : (rows : RowsByName) (products : Products) → AllKeysFit products rows → (named : List (List ℕ × List ℕ))
    → AllKeysFit (with_part_products named products) (parts_over (map bare_named named) rows)
bare_fit rows products fits [] = fits
bare_fit rows products fits (n ∷ ns) =
    λ name. either_fits (bytes_eq n.0 name) (products n.1) (with_part_products ns products name) [] (parts_over (map bare_named ns) rows name)
    (none_fit (products n.1)) (bare_fit rows products fits ns name)

bare_are_seen : (named : List (List ℕ × List ℕ)) → map dataset_of (map bare_named named) ≡ map bare_part named
bare_are_seen [] = refl
bare_are_seen (n ∷ ns) = ap (λ parts. bare_part n ∷ parts) (bare_are_seen ns)

-- what a copy without rows is seen as
pub bare_seen : (f : Option Facet) (parts : List Named) → parts ≡ parts_of_bare f → record { cells = None; parts = map dataset_of parts } ≡ bare_copy f
bare_seen f parts e = ap (λ (parts : List Named). record { cells = None; parts = map dataset_of parts }) e ∙ by_facet f
  where
    by_facet : (f : Option Facet) → record { cells = None; parts = map dataset_of (parts_of_bare f) } ≡ bare_copy f
    by_facet None = refl
    by_facet (Some f) = ap (λ (parts : List Dataset). record { cells = None; parts = parts }) (bare_are_seen (zip (texts_in f.name) (texts_in f.data_)))

-- what holds of it
pub bare_is_copy : (names : NamesAt) (m : VgMark-F Group VgMark) (copy : CopyOf) → copy.parts ≡ parts_of_bare (facet_in m.from) → IsCopy names m copy
bare_is_copy names m copy e = record {
  parts = subst AreParts (sym e) (by_parts (facet_in m.from));
  folds = λ products fits.
      subst (λ parts. AllKeysFit (products_in_copy (facet_in m.from) products) (parts_over parts (rows_at names.sources.now names.levels.now)))
      (sym e) (by_folds products fits (facet_in m.from));
}
  where
    by_parts : (f : Option Facet) → AreParts (parts_of_bare f)
    by_parts None = bare_are_parts []
    by_parts (Some f) = bare_are_parts (zip (texts_in f.name) (texts_in f.data_))

    by_folds : (products : Products) → AllKeysFit products (rows_at names.sources.now names.levels.now) → (f : Option Facet)
        → AllKeysFit (products_in_copy f products) (parts_over (parts_of_bare f) (rows_at names.sources.now names.levels.now))
    by_folds products fits None = fits
    by_folds products fits (Some f) = bare_fit (rows_at names.sources.now names.levels.now) products fits (zip (texts_in f.name) (texts_in f.data_))
