use Rattle.plain_engine.proofs.PrintLemmas.{chart_held, printed, begun}
use Rattle.plain_engine.proofs.engine.PlainEngineEngine.print.Goals as goal

pub returns-clause-ok : goal.returns-clause-ok
returns-clause-ok g c =
    printed c.print_scene.result _ _ _
    (chart_held c.args.self.now.spec c.args.self.now.state c.args.self.now.drawing c.args.self.now.kept) c.print_scene.ensures.ok

pub returns-clause-prefix : goal.returns-clause-prefix
returns-clause-prefix g c =
    begun _ _ _ (chart_held c.args.self.now.spec c.args.self.now.state c.args.self.now.drawing c.args.self.now.kept) c.print_scene.ensures.prefix
