use Rattle.std.proofs.Common.{length, sym, ap, ◌∙◌}
use Rattle.plain_engine.proofs.Places.{found_rows, done_at, back_at}
use Rattle.plain_engine.proofs.sources.commit_at.Goals as goal

pub commit-requires : goal.commit-requires
commit-requires c =
    c.requires.each ∙ ap length (sym (found_rows c.args.sources.now c.args.index c.index-sources-index.result c.requires.within))

pub returns-clause-done : goal.returns-clause-done
returns-clause-done c =
    done_at c.args.sources.now c.args.index c.index-sources-index.result c.requires.within c.commit.new.rows c.args.edits c.args.more
    c.commit.result c.commit.ensures.done

pub returns-clause-back : goal.returns-clause-back
returns-clause-back c =
    back_at c.args.sources.now c.args.index c.index-sources-index.result c.requires.within c.commit.new.rows c.commit.result
    c.commit.ensures.back
