use Rattle.expr_syntax.proofs.Expressed.{read_is, unread_is}
use Rattle.play_script.proofs.changes.expression_of.Goals as goal

pub returns-in-Ok : goal.returns-in-Ok
returns-in-Ok c = rw (read_is c.args.text.now c.in-Ok.e c.in-Ok.ensures.sound) c.without_domain.ensures

pub returns-in-Err-Shape : goal.returns-in-Err-Shape
returns-in-Err-Shape c =
    let is = c.in-Err-Shape.is in
    unread_is c.args.text.now (c.in-Err-Shape.ensures.shape cc)
