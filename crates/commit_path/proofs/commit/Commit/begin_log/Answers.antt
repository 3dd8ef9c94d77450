use Rattle.std.proofs.Common.{sym, ◌∙◌}
use Rattle.commit_path.proofs.Walking.{log-reaches}
use Rattle.commit_path.proofs.commit.Commit.begin_log.Goals as goal

pub returns-clause-reaches : goal.returns-clause-reaches
returns-clause-reaches c =
    let s = c.args.self.now in
    rw c.follow.ensures (log-reaches s.session c.draw.new.self s.message s.arrays.news c.in-Some.id c.in_ok-file.file c.draw.ensures.after (sym c.draw.ensures.drawn ∙ c.in-Some.is) c.in_ok-file.ensures.0 c.in_ok-file.ensures.1, tt)
