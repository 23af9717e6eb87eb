use Rattle.std.proofs.Common.{Option, List, subst, arith}
use Rattle.expr_eval.specs.Answers.{Evaluates}
use Rattle.scene_tree.specs.declared.scene.Item.{Item}
use Rattle.mark_encode.specs.inner.PathParts.{path_values}
use Rattle.mark_encode.proofs.RowLemmas.{id_there}
use Rattle.mark_encode.proofs.PathLemmas.{over_first, over_none}
use Rattle.mark_encode.proofs.paths.path_over.Goals as goal

pub returns-in_default : goal.returns-in_default
returns-in_default g c =
    over_none c.args.unit c.args.default (path_values c.args.path.now) (g.P.ParamReader.values c.args.params.now) c.args.rows.now _
    c.in_default.len_below c.new.ensures

pub path_of-requires-clause-first : goal.path_of-requires-clause-first
path_of-requires-clause-first g c =
    id_there c.args.rows.now 0 c.first-item.result c.requires (omega (arith, c.in-len1-up.len_at_least)) c.first-item.is

pub returns : goal.returns
returns g c =
    let P : Option (List Item) → Type 0 = λ given. Evaluates c.path_of.result given in
    subst P
    (over_first c.args.unit c.args.default (path_values c.args.path.now) (g.P.ParamReader.values c.args.params.now) c.args.rows.now
    c.first-item.result c.in-len1-up.len_at_least c.first-item.is)
    c.path_of.ensures
