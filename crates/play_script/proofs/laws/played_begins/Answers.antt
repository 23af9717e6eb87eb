use Rattle.play_script.proofs.Vega.{played_begins}
use Rattle.play_script.proofs.laws.played_begins.Goals as goal

pub returns : goal.returns
returns c = λ meaning now script taken rest out notes later before after result e h whole. played_begins meaning now script out notes later
    before after whole taken rest result e h
