use Rattle.std.proofs.Common.{IsTrue, Err, List, map, sym, ap, ◌∙◌, subst}
use Rattle.std.specs.List.{All, AllZip}
use Rattle.fixed_num.specs.Ranges.{all_found}
use Rattle.expr_eval.specs.Answers.{Evaluates}
use Rattle.vega_scales.specs.declared.scaled.Scaled.{Scaled}
use Rattle.vega_scales.specs.Scales.{is_built, FitsScale}
use Rattle.vega_spec.specs.declared.spec.Group.{out-Group}
use Rattle.vega_copies.specs.Facts.{facts_here}
use Rattle.vega_copies.specs.Outlines.{object_here}
use Rattle.vega_copies.specs.inner.FactsMade.{domain_at}
use Rattle.vega_copies.specs.inner.Levels.{names_at}
use Rattle.vega_copies.proofs.FactsLemmas.{hands_on, domains_lost, own_parts}
use Rattle.vega_copies.proofs.facts.own_kept.Goals as goal

pub domains_at-requires-clause-built : goal.domains_at-requires-clause-built
domains_at-requires-clause-built c = subst (All (λ s. IsTrue (is_built s))) (sym c.scales_in.ensures) c.requires.object.scales

pub returns-in_ok-own_with-in-Ok-clause-own : goal.returns-in_ok-own_with-in-Ok-clause-own
returns-in_ok-own_with-in-Ok-clause-own c =
    let names = names_at c.args.names.now.stores.now c.args.names.now.sources.now c.args.names.now.levels.now in
    own_parts (object_here (out-Group c.args.group.now)) names c.args.signals.now c.args.cells.now
    c.in-Ok.domains c.in_ok-own_with-in-Ok.field-0 c.in_ok-own_with-in-Ok.ensures
    c.requires.kept (ap (λ scales. all_found (map (domain_at names) scales)) (sym c.scales_in.ensures) ∙ c.in-Ok.ensures.value)
    (subst (λ scales. AllZip FitsScale scales c.in-Ok.domains) c.scales_in.ensures c.in-Ok.ensures.fits)

pub returns-in-Err-clause-stops : goal.returns-in-Err-clause-stops
returns-in-Err-clause-stops c =
    let o = object_here (out-Group c.args.group.now) in
    let names = names_at c.args.names.now.stores.now c.args.names.now.sources.now c.args.names.now.levels.now in
    hands_on c.in-Err.error (all_found (map (domain_at names) o.scales)) (facts_here c.args.cells.now o names) (domains_lost c.args.cells.now o names)
    (subst (λ scales. Evaluates {X = List Scaled} (Err c.in-Err.error) (all_found (map (domain_at names) scales))) c.scales_in.ensures c.in-Err.ensures.value)
