use Rattle.std.proofs.Common.{subst, map}
use Rattle.expr_eval.specs.Answers.{Evaluates}
use Rattle.mark_encode.specs.Groups.{number_encoded}
use Rattle.vega_spec.specs.declared.spec.VgMark.{out-VgMark}
use Rattle.vega_drawing.specs.Scales.{with_domains}
use Rattle.vega_drawing.specs.inner.Kept.{scale_seen}
use Rattle.vega_drawing.specs.inner.Levels.{values_over}
use Rattle.vega_drawing.proofs.frames.encoded_number.Goals as goal

pub returns : goal.returns
returns c =
    subst (Evaluates c.number_encoded.result)
    (λ i. number_encoded (c.requires.frame.set i) (out-VgMark c.args.mark.now).encode c.args.channel (c.cells_of.ensures i)
    (with_domains (map scale_seen c.args.frame.now.scales.now) (values_over c.args.frame.now.values.stores.now c.args.frame.now.values.levels.now)))
    c.number_encoded.ensures
