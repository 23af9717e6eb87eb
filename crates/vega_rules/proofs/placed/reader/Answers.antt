-- The innermost transform or signal is found first.
use Rattle.std.proofs.Common.{◌≡◌, None, Some, sym, ◌∙◌, arith, take}
use Rattle.vega_rules.specs.Edges.{reader_at}
use Rattle.vega_rules.specs.inner.Placed.{place_at}
use Rattle.vega_rules.proofs.ReaderLemmas.{found_first, found_later}
use Rattle.vega_rules.proofs.placed.reader.Goals as goal

pub returns-in-Some : goal.returns-in-Some
returns-in-Some c =
    let look = reader_at (place_at c.args.places.now) in
    let some : look (take c.loop-left.left c.args.place.now) ≡ Some c.in-Some.number = sym (rw c.in-Some.is at c.in_ok-number.ensures) in
    sym (found_first look (take c.loop-left.left c.args.place.now) c.in-Some.number some) ∙ c.loop-left.invariant.same

pub loop-left-preserved : goal.loop-left-preserved
loop-left-preserved c =
    let look = reader_at (place_at c.args.places.now) in
    let none : look (take c.loop-left.left c.args.place.now) ≡ None = sym (rw c.in_default.is at c.in_ok-number.ensures) in
    record {
      within = omega arith;
      same = found_later look c.args.place.now _ c.loop-left.left _ (omega arith) (omega arith) none c.loop-left.invariant.same;
    }
