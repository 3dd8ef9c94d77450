use Rattle.std.proofs.Common.{◌∙◌}
use Rattle.commit_path.proofs.Walking.{put-behind}
use Rattle.commit_path.proofs.commit.Commit.on_manifest.Goals as goal

pub returns-in-Ok-go_on-clause-took : goal.returns-in-Ok-go_on-clause-took
returns-in-Ok-go_on-clause-took c =
    let s = c.args.self.now in
    let r = c.in-Ok-go_on.ensures.reaches in
    ((put-behind s.session s.message s.session.ids s.arrays.news s.arrays.left c.args.manifest c.in-Done.version c.in-Done.now c.args.new c.close.new.self c.in-Done.is c.in-Ok.ensures.ok ∙ r.0, r.1), tt)

pub returns-in-Err-clause-took : goal.returns-in-Err-clause-took
returns-in-Err-clause-took c =
    let s = c.args.self.now in
    let r = c.in-Err.ensures.reaches in
    ((r.0, λ n. put-behind s.session s.message s.session.ids s.arrays.news s.arrays.left c.args.manifest c.in-Done.version c.in-Done.now c.args.new c.close.new.self c.in-Done.is c.in-Ok.ensures.ok ∙ r.1 n), r.2)
