use Rattle.intact.specs.Told.{found_manifest}
use Rattle.repo_check.specs.inside.Working.{files_rest, checking_rest}
use Rattle.repo_check.proofs.Answering.{file-read, file-missed}
use Rattle.repo_check.proofs.course.Course.on_file.Goals as goal

pub returns-in-Ok-clause-comes : goal.returns-in-Ok-clause-comes
returns-in-Ok-clause-comes c =
    let s = c.args.self.now in
    file-read c.args.visit s.work (files_rest s.left s.roots c.args.place) (found_manifest c.args.visit c.args.got) (checking_rest c.enter_parts.result c.enter_parts.new.self)
    c.in-Ok.held c.new.result c.in-Ok.ensures c.new.ensures.parts c.enter_parts.ensures.comes

pub returns-in-Err-clause-comes : goal.returns-in-Err-clause-comes
returns-in-Err-clause-comes c =
    let s = c.args.self.now in
    file-missed c.args.visit s.work (files_rest s.left s.roots c.args.place) (found_manifest c.args.visit c.args.got) (checking_rest c.miss_file.result c.miss_file.new.self)
    c.in-Err.kind c.in-Err.ensures c.miss_file.ensures.comes
