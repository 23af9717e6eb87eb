use Rattle.std.proofs.Common.{ap, sym, ◌∙◌, option_copied}
use Rattle.std.specs.Option.{option_or}
use Rattle.mark_encode.specs.Channels.{scale_named}
use Rattle.mark_encode.specs.inner.Scales.{sets_round, scales_inside}
use Rattle.mark_encode.proofs.ScaleLemmas.{found_inside}
use Rattle.mark_encode.proofs.scales.Level.+named.Goals as goal

pub returns-in-Some-default : goal.returns-in-Some-default
returns-in-Some-default t c =
    let own = c.self.inside in
    let name = c.args.name.now in
    found_inside own.set.now own.outer c.args.self.now own.places own.indexed c.as_slice.result.now c.place_under.result name c.scale_at-own.result _
    c.self.invariant c.self.view_is c.as_slice.ensures c.place_under.ensures c.scale_at-own.ensures
    (sym (ap (λ found. option_or (option_copied found) (scale_named (scales_inside (sets_round own.outer)) name)) c.in-Some-default.is-0))

pub returns-in-None-Some : goal.returns-in-None-Some
returns-in-None-Some t c =
    let own = c.self.inside in
    let name = c.args.name.now in
    found_inside own.set.now own.outer c.args.self.now own.places own.indexed c.as_slice.result.now c.place_under.result name c.scale_at-own.result _
    c.self.invariant c.self.view_is c.as_slice.ensures c.place_under.ensures c.scale_at-own.ensures
    (c.named.ensures
    ∙ sym (λ i. option_or (option_copied (c.in-None-Some.is-0 i)) (scale_named (scales_inside (sets_round (c.in-None-Some.is-1 i))) name)))
