use Rattle.std.proofs.Common.{refl, ◌∙◌, ap}
use Rattle.snapshot_file.specs.declared.snapshot.SnapshotFile.{SnapshotFile}
use Rattle.object_store.specs.declared.keys.Key.TheVariants.{Snapshot}
use Rattle.object_store.specs.declared.events.Op.TheVariants.{Get}
use Rattle.repo_read.specs.Answers.{snapshot_told}
use Rattle.two_stores.specs.declared.side.Side.TheVariants.{From}
use Rattle.mirror.specs.Programs.{down_behind}
use Rattle.mirror.specs.inside.Working.{work_of, behind_line}
use Rattle.mirror.proofs.Answering.{went, was-refused-so}
use Rattle.mirror.proofs.Parts.{down-onto}
use Rattle.mirror.proofs.mirror.Mirror.on_down.Goals as goal

pub returns-in-Ok-clause-took : goal.returns-in-Ok-clause-took
returns-in-Ok-clause-took c =
    let m = c.args.self.now in
    went (work_of m) From (Get (Snapshot c.args.id)) (snapshot_told c.args.id) (down_behind (down-onto m.left (work_of m) (behind_line m)) m.line (work_of m) (behind_line m) c.args.id) c.args.reply c.in-Ok.loaded _ (λ a b. (refl, refl)) refl c.in-Ok.ensures.told (rw (c.parent.ensures ∙ ap (λ (s : SnapshotFile). s.parent) c.file.ensures.value) at c.after_down.ensures.lands)

pub returns-in-Err-clause-took : goal.returns-in-Err-clause-took
returns-in-Err-clause-took c =
    let m = c.args.self.now in
    was-refused-so (work_of m) From (Get (Snapshot c.args.id)) (snapshot_told c.args.id) (down_behind (down-onto m.left (work_of m) (behind_line m)) m.line (work_of m) (behind_line m) c.args.id) c.args.reply c.in-Err.why _ (λ a b. (refl, refl)) refl c.in-Err.ensures.told c.in-Err.ensures.outright (rw c.refuse.ensures refl)
