-- The top of a specification, by its members.
use Rattle.std.proofs.Common.{◌≡◌, ℕ, suc, ◌+◌, Option, Some, None, Err, List, [], ◌∷◌, map, Bor, sym, ap, ◌∙◌, subst, arith}
use Rattle.fixed_num.specs.Ranges.{◌>>=◌}
use Rattle.cell_value.specs.State.{Dataset}
use Rattle.cell_value.specs.declared.state.Named.{Named}
use Rattle.cell_value.specs.declared.state.StoreOf.{StoreOf}
use Rattle.expr_eval.specs.Answers.{Evaluates}
use Rattle.expr_eval.specs.declared.error.EvalError.{EvalError}
use Rattle.expr_eval.specs.declared.error.EvalError.TheVariants.{Overflow, Memory}
use Rattle.plot_scenes.specs.declared.scenes.Drawing.{Drawing}
use Rattle.vega_lists.specs.Held.{AreAllRows}
use Rattle.vega_lists.specs.Inside.{RowsByName, no_rows, AllKeysFit, SetsMayFold}
use Rattle.vega_lists.specs.Products.{Products, FoldsFit, no_folds, products_after}
use Rattle.vega_spec.specs.declared.spec.Group.{out-Group}
use Rattle.vega_spec.specs.declared.spec.VgSpec.{VgSpec}
use Rattle.vega_copies.specs.declared.names.Level.{Level}
use Rattle.vega_copies.specs.Outlines.{Marks, NoMarks, AMark, AGroup, Opened, object_here, outline_of, numbered, count_marks, count_groups}
use Rattle.vega_copies.specs.Fitting.{products_in_copy}
use Rattle.vega_copies.specs.Scopes.{Names}
use Rattle.vega_copies.specs.Facts.{CopyFound, copy_found, facts_of}
use Rattle.vega_copies.specs.inner.Kept.{KeepsObject, KeepsMarks, FoldsFitIn, KeepsAll}
use Rattle.vega_copies.specs.inner.Levels.{rows_at, names_at}
use Rattle.vega_copies.specs.inner.Outlined.{marks_in, marks_of}
use Rattle.vega_copies.specs.inner.Standing.{MayStand}
use Rattle.vega_drawing.specs.Drawings.{drawn_from_facts}
use Rattle.vega_charts.specs.Items.{items_in_copy}
use Rattle.vega_charts.specs.Scenes.{drawing_over}
use Rattle.vega_charts.specs.inner.Topped.{top_of, rows_on_top, names_on_top}
use Rattle.vega_copies.proofs.FactsLemmas.{found_numbered}
use Rattle.vega_copies.proofs.OutlineLemmas.{opened_object, opened_marks}

-- ---- the top by its members

pub outline_is : (g : VgSpec) → outline_of g ≡ top_of g
outline_is g = λ i. record { object = opened_object g.group i; marks = numbered 0 1 (opened_marks g.group i) }

kept_unnumbered : (unit number : ℕ) (marks : Marks) → KeepsMarks (numbered unit number marks) → KeepsMarks marks
kept_unnumbered unit number NoMarks kept = tt
kept_unnumbered unit number (AMark old m others) kept = kept_unnumbered (suc unit) number others kept
kept_unnumbered unit number (AGroup o inside others) (kept, below, rest) = (
  record {
    sets = kept.sets;
    scales = kept.scales;
    domains = kept.domains;
    bounds = kept.bounds;
    axes = kept.axes;
    columns = kept.columns;
  },
  kept_unnumbered unit (suc number) inside below,
  kept_unnumbered (unit + count_marks inside) (suc number + count_groups inside) others rest,
)

fit_unnumbered : (unit number : ℕ) (marks : Marks) (products : Products) → FoldsFitIn products (numbered unit number marks)
    → FoldsFitIn products marks
fit_unnumbered unit number NoMarks products fit = tt
fit_unnumbered unit number (AMark old m others) products fit = fit_unnumbered (suc unit) number others products fit
fit_unnumbered unit number (AGroup o inside others) products (fit, below, rest) = (
  fit,
  fit_unnumbered unit (suc number) inside (products_after (products_in_copy o.facet products) o.sets) below,
  fit_unnumbered (unit + count_marks inside) (suc number + count_groups inside) others products rest,
)

-- nothing stands round the top
pub none_fit : AllKeysFit no_folds no_rows
none_fit name = record { few = omega arith; branches = λ k d below. absurd (omega (arith, below)) }

pub none_are : AreAllRows no_rows
none_are name = record {
  rise = λ i j key less below. absurd (omega (arith, below));
  small_ids = λ k key below. absurd (omega (arith, below));
  few = omega arith;
}

module _ (g : VgSpec) (kept : KeepsAll g) where
  pub top_kept : KeepsObject (top_of g).object
  top_kept = subst (λ (top : Opened). KeepsObject top.object) (outline_is g) kept.top

  pub top_stands : (rows : RowsByName) → AllKeysFit (products_after no_folds (top_of g).object.sets) rows → MayStand rows (marks_in (out-Group g.group))
  top_stands rows fit = record {
    kept = kept_unnumbered 0 1 (marks_of (marks_in (out-Group g.group))) (subst (λ (top : Opened). KeepsMarks top.marks) (outline_is g) kept.marks);
    folds = (
      products_after no_folds (top_of g).object.sets,
      fit,
      fit_unnumbered 0 1 (marks_of (marks_in (out-Group g.group))) (products_after no_folds (top_of g).object.sets)
          (subst (λ (top : Opened). FoldsFitIn (products_after no_folds top.object.sets) top.marks) (outline_is g) kept.folds_inside),
    );
  }

  pub top_folds : SetsMayFold no_rows (top_of g).object.sets
  top_folds = (no_folds, none_fit, subst (λ (top : Opened). FoldsFit no_folds top.object.sets) (outline_is g) kept.folds)

-- ---- the one level of the top

pub rows_alike : (sources : List Named) (levels : List (Bor Level)) (level : Level) → map (λ l. l.now) levels ≡ level ∷ []
    → rows_at sources levels ≡ rows_on_top sources level
rows_alike sources [] level e = absurd (cc)
rows_alike sources (l ∷ []) level e = let is : l.now ≡ level = cc in ap (rows_on_top sources) is
rows_alike sources (l ∷ other ∷ others) level e = absurd (cc)

pub names_alike : (stores : List StoreOf) (sources : List Named) (levels : List (Bor Level)) (level : Level) → map (λ l. l.now) levels ≡ level ∷ []
    → names_at stores sources levels ≡ names_on_top stores sources level
names_alike stores sources [] level e = absurd (cc)
names_alike stores sources (l ∷ []) level e = let is : l.now ≡ level = cc in ap (names_on_top stores sources) is
names_alike stores sources (l ∷ other ∷ others) level e = absurd (cc)

-- ---- what is drawn from the facts of the top

module _ (g : VgSpec) (sources : List Dataset) (names : Names) where
  abbrev pub facts_found : Option CopyFound
  facts_found = facts_of sources (object_here (out-Group g.group)) (marks_of (marks_in (out-Group g.group))) names

  facts_alike : facts_of sources (top_of g).object (top_of g).marks names ≡ facts_found
  facts_alike = ap (copy_found None (top_of g).object names) (found_numbered sources (marks_of (marks_in (out-Group g.group))) 0 1 names)

  pub drawn_is : (seen : CopyFound) → facts_found ≡ Some seen
      → drawing_over g sources (top_of g) names ≡ drawn_from_facts items_in_copy g (outline_of g) seen
  drawn_is seen is =
      ap (λ (found : Option CopyFound). found >>= drawn_from_facts items_in_copy g (top_of g)) (facts_alike ∙ is)
      ∙ ap (λ (top : Opened). drawn_from_facts items_in_copy g top seen) (sym (outline_is g))

  pub drawn_stops : (e : EvalError) → Evaluates {X = CopyFound} (Err e) facts_found
      → Evaluates {X = Drawing} (Err e) (drawing_over g sources (top_of g) names)
  drawn_stops Overflow none = ap (λ (found : Option CopyFound). found >>= drawn_from_facts items_in_copy g (top_of g)) (facts_alike ∙ none)
  drawn_stops Memory none = tt
