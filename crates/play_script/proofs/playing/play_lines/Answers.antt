use Rattle.std.proofs.Common.{refl}
use Rattle.play_script.specs.declared.errors.PlayError.TheVariants.{Memory}
use Rattle.play_script.specs.Played.{sinks}
use Rattle.play_script.proofs.Exits.{nothing_played, size_is}
use Rattle.play_script.proofs.playing.play_lines.Goals as goal

pub returns-in-Err-clause-reached : goal.returns-in-Err-clause-reached
returns-in-Err-clause-reached g c =
    (nothing_played g.R.Lines.replies (g.R.Lines.state c.args.target.now)
    (sinks (g.K.Sink.held c.args.out.now) (g.N.Sink.held c.args.notes.now) (g.N.Sink.faults c.args.notes.now))
    (Unit {0}) (g.S.Source.left c.args.script.now) Memory refl).0

pub returns-in-Err-clause-played : goal.returns-in-Err-clause-played
returns-in-Err-clause-played g c =
    (nothing_played g.R.Lines.replies (g.R.Lines.state c.args.target.now)
    (sinks (g.K.Sink.held c.args.out.now) (g.N.Sink.held c.args.notes.now) (g.N.Sink.faults c.args.notes.now))
    (Unit {0}) (g.S.Source.left c.args.script.now) Memory refl).1

pub returns-clause-reached : goal.returns-clause-reached
returns-clause-reached g c = c.play_pieces.ensures.played.0

pub returns-clause-played : goal.returns-clause-played
returns-clause-played g c = c.play_pieces.ensures.played.1

pub returns-clause-size : goal.returns-clause-size
returns-clause-size g c = size_is g.R.Lines.replies (g.R.Lines.state c.args.target.now) _ (g.S.Source.left c.args.script.now) _ _ _
    c.play_pieces.result c.play_pieces.ensures.played.1
