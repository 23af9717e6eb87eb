use Rattle.svg_text.proofs.Steps.{alone, prints_same, prints_then, from_empty_page, taken_all, taken_some}
use Rattle.svg_text.proofs.scene_text.print.Goals as goal

pub returns-in_err-put_scene-clause-prefix : goal.returns-in_err-put_scene-clause-prefix
returns-in_err-put_scene-clause-prefix g c = taken_some (from_empty_page c.new-page.ensures c.in_err-put_scene.ensures)

pub returns-in_err-hand_on-clause-prefix : goal.returns-in_err-hand_on-clause-prefix
returns-in_err-hand_on-clause-prefix g c =
    taken_some (prints_same (alone _) (prints_then (from_empty_page c.new-page.ensures c.in_ok-put_scene.ensures)
    c.in_err-hand_on.ensures.prints))

pub returns-clause-ok : goal.returns-clause-ok
returns-clause-ok g c = taken_all c.in_ok-hand_on.ensures.emptied
    (prints_same (alone _) (prints_then (from_empty_page c.new-page.ensures c.in_ok-put_scene.ensures) c.in_ok-hand_on.ensures.prints))

pub returns-clause-prefix : goal.returns-clause-prefix
returns-clause-prefix g c =
    taken_some (prints_same (alone _) (prints_then (from_empty_page c.new-page.ensures c.in_ok-put_scene.ensures)
    c.in_ok-hand_on.ensures.prints))
