use Rattle.std.proofs.Common.{ℕ, List, ap}
use Rattle.cell_value.specs.State.{state_of}
use Rattle.scene_tree.specs.Outcome.{Outcome, outcome_map}
use Rattle.param_flow.specs.Semantics.{Picture, text_of}
use Rattle.play_script.specs.Meaning.{Meaning}
use Rattle.plain_engine.proofs.EventLemmas.{kept_opened}
use Rattle.plain_engine.proofs.engine.PlainEngine.open.Goals as goal

pub invariant_of-result : goal.invariant_of-result
invariant_of-result c = record {
  kept =
      kept_opened c.args.g c.args.st c.in_ok-drawing.drawing c.requires.rules c.requires.selections c.requires.state c.in_ok-drawing.ensures.drawn
      c.in_ok-drawing.ensures.scales;
}

pub returns : goal.returns
returns c =
    let meaning : Meaning = record { spec = c.args.g; state = state_of c.args.st } in
    ap (λ (picture : Outcome Picture). outcome_map (λ (text : List ℕ). meaning) (outcome_map text_of picture)) c.in_ok-drawing.ensures.drawn
