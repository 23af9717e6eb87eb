use Rattle.std.proofs.Common.{ap, length, arith, map, [], ◌∷◌}
use Rattle.std.proofs.Common.{length-append}
use Rattle.chart_opening.specs.Sources.{all_of}
use Rattle.chart_opening.specs.inner.Rows.{read_by}
use Rattle.chart_opening.specs.inner.Reading.{the_reading}
use Rattle.chart_opening.proofs.FolderLemmas.{begun_with, passed, stopped_at, all_passed}
use Rattle.chart_opening.proofs.rows.all_read.Goals as goal

pub loop-set-init : goal.loop-set-init
loop-set-init g c = record {
  along = begun_with _ _ _ c.new-read.result c.new-read.ensures;
  number = ap length c.new-read.ensures;
}

pub loop-set-preserved : goal.loop-set-preserved
loop-set-preserved g c = record {
  along =
      passed (λ s. s.now) (read_by the_reading) c.args.sets.now _ _ _ _ c.loop-set.read
      (λ files. all_of (map (read_by the_reading files) (map (λ s. s.now) c.args.sets.now))) c.loop-set.set-index _ _ c.set-item.result c.in-Ok.one
      c.push.new.self c.loop-set-test.true c.set-item.is c.in_ok-push-in-Ok.ensures.ok c.loop-set.invariant.along c.in-Ok.ensures;
  number =
      let size = ap length c.in_ok-push-in-Ok.ensures.ok in
      let more = length-append c.loop-set.read (c.in-Ok.one ∷ []) in
      let had = c.loop-set.invariant.number in
      omega (arith, size, more, had);
}

pub returns : goal.returns
returns g c = record {
  read =
      all_passed (λ s. s.now) (read_by the_reading) c.args.sets.now _ _ _ _ c.loop-set.read
      (λ files. all_of (map (read_by the_reading files) (map (λ s. s.now) c.args.sets.now))) c.loop-set.set-index c.loop-set-test.false
      c.loop-set.invariant.along;
  number = let had = c.loop-set.invariant.number in omega (arith, had, c.loop-set.auto.set-index-end);
}

pub returns-in-Err : goal.returns-in-Err
returns-in-Err g c = record {
  read =
      stopped_at (λ s. s.now) (read_by the_reading) c.args.sets.now _ _ _ _ c.loop-set.read
      (λ files. all_of (map (read_by the_reading files) (map (λ s. s.now) c.args.sets.now))) c.loop-set.set-index _ _ c.set-item.result c.in-Err.why
      c.loop-set-test.true c.set-item.is c.loop-set.invariant.along c.in-Err.ensures;
  number = tt;
}
