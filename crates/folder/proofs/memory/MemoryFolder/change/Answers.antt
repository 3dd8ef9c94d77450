use Rattle.folder.proofs.Changes.{changed-to}
use Rattle.folder.proofs.memory.MemoryFolder.change.Goals.{in-Ok-push, in-Err}
use Rattle.folder.proofs.memory.MemoryFolder.change.Goals as goal

pub returns-clause-ok : goal.returns-clause-ok
returns-clause-ok c =
    elim c.match-push.branch [
      | in-Ok-push w ↦ rw w.result-is (changed-to c.args.self.now.changes.items c.push.new.self.items c.args.path.now (record { path = c.in-Ok.path; content = c.args.content }) w.in-Ok-push.ensures.items c.in-Ok.ensures.ok)
      | in-Err w ↦ rw w.result-is tt
    ]
