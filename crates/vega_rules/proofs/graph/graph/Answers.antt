use Rattle.std.proofs.Common.{arith}
use Rattle.vega_rules.specs.Edges.{needs_by}
use Rattle.vega_rules.specs.inner.Placed.{place_at}
use Rattle.vega_rules.proofs.NeedRowLemmas.{one_step, whole_graph}
use Rattle.vega_rules.proofs.graph.graph.Goals as goal

pub loop-part-preserved : goal.loop-part-preserved
loop-part-preserved c =
    let ps = c.args.parts.now in
    one_step (needs_by (place_at c.args.places.now) ps) ps c.loop-part.part-index c.loop-part.rows.items
    c.add_part.new.rows.items _ c.part-item.result (omega arith) c.part-item.is c.in_ok-add_part.ensures c.loop-part.invariant

pub returns : goal.returns
returns c =
    whole_graph c.loop-part.rows.items c.from_vec.result c.args.parts.now c.args.places.now c.loop-part.part-index
    c.requires.places (omega arith) c.from_vec.ensures c.loop-part.invariant
