use Rattle.std.proofs.Common.{sym, ◌∙◌, arith}
use Rattle.commit_path.proofs.Walking.{manifest-reaches}
use Rattle.commit_path.proofs.commit.Commit.begin_manifest.Goals as goal

pub returns-clause-reaches : goal.returns-clause-reaches
returns-clause-reaches c =
    let s = c.args.self.now in
    rw c.follow.ensures (manifest-reaches s.session c.draw.new.self s.message s.arrays.news s.arrays.left c.args.rank c.args.array c.in-Some.id c.in_ok-manifest.manifest c.in_ok-manifest.file c.requires.rank c.draw.ensures.after (omega arith) (sym c.draw.ensures.drawn ∙ c.in-Some.is) c.in_ok-manifest.ensures.0 c.in_ok-manifest.ensures.1 c.in_ok-manifest.ensures.2, tt)
