use Rattle.std.proofs.Common.{sym, ap, ◌∙◌}
use Rattle.snapshot_file.specs.declared.snapshot.SnapshotFile.{SnapshotFile}
use Rattle.repo_read.proofs.Walking.{walk-over, walk-deep, walk-next}
use Rattle.repo_read.proofs.chain.Chain.on_snapshot.Goals as goal

pub returns-then-self-eq0-clause-lands : goal.returns-then-self-eq0-clause-lands
returns-then-self-eq0-clause-lands c = (walk-over _ _ _ c.requires.ended, λ n. walk-deep _ _ _ c.in-Some.id c.if-self-eq0.true (sym (c.parent-parent.ensures ∙ ap (λ (s : SnapshotFile). s.parent) c.file.ensures.value) ∙ c.in-Some.is))

pub returns-clause-lands : goal.returns-clause-lands
returns-clause-lands c = walk-next _ _ _ _ c.in-Some.id c.if-self-eq0.false (sym (c.parent-parent.ensures ∙ ap (λ (s : SnapshotFile). s.parent) c.file.ensures.value) ∙ c.in-Some.is) c.in-Ok.ensures.ok
