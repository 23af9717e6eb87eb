use Rattle.std.proofs.Common.{Ok, refl}
use Rattle.chart_opening.specs.Opening.{opening_by}
use Rattle.chart_opening.specs.inner.Reading.{the_reading}
use Rattle.chart_opening.proofs.FolderLemmas.{then_read, stopped, quiet}
use Rattle.chart_opening.proofs.opened.opened_with.Goals as goal

pub returns-in-Ok-clause-read : goal.returns-in-Ok-clause-read
returns-in-Ok-clause-read g c =
    then_read _ _ _ _ _ _ c.in-Ok.state _ (λ files. opening_by the_reading files c.args.spec)
    (λ files state. Ok (record { spec = c.args.spec; state = state })) c.in-Ok.ensures.read (quiet _ _ _ _ refl)

pub returns-in-Err-clause-read : goal.returns-in-Err-clause-read
returns-in-Err-clause-read g c =
    stopped _ _ _ _ c.in-Err.why (λ files. opening_by the_reading files c.args.spec)
    (λ files state. Ok (record { spec = c.args.spec; state = state })) c.in-Err.ensures.read
