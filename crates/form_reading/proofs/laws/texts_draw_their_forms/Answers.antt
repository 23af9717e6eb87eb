use Rattle.form_reading.proofs.Drawn.{texts_draw_their_forms}
use Rattle.form_reading.proofs.laws.texts_draw_their_forms.Goals as goal

pub returns : goal.returns
returns c =
    texts_draw_their_forms c.texts_say_their_forms.ensures c.forms_are_drawable.ensures c.the_first_form_is_a_special_case.ensures
