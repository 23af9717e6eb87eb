use Rattle.std.proofs.Common.{◌∙◌, bytes_eq}
use Rattle.time_calc.specs.inner.Texts.{place_among}
use Rattle.time_calc.proofs.FormLemmas.{placed_now}
use Rattle.time_calc.proofs.texts.place_among.Goals as goal

pub returns : goal.returns
unfolding place_among
returns c = c.place_of.ensures ∙ placed_now (λ n. bytes_eq n c.args.name.now) c.args.names.now
