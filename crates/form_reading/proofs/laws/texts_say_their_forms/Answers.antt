use Rattle.form_reading.proofs.Texts.{texts_say_their_forms}
use Rattle.form_reading.proofs.laws.texts_say_their_forms.Goals as goal

pub returns : goal.returns
returns c = texts_say_their_forms
