use Rattle.std.proofs.Common.{sym, ap, ◌∙◌}
use Rattle.ice_ids.specs.declared.Id12.{Id12}
use Rattle.ice_ids.specs.Text.{same_id12}
use Rattle.snapshot_file.specs.declared.snapshot.SnapshotFile.{SnapshotFile}
use Rattle.rebase.proofs.Rebases.{oldest-lands, deep-lands, parent-lands, state-over}
use Rattle.rebase.proofs.machine.Rebase.on_loaded.Goals as goal

pub returns-then-eq-clause-lands : goal.returns-then-eq-clause-lands
returns-then-eq-clause-lands c = rw c.follow.ensures
    (oldest-lands c.args.self.now.policy c.args.self.now.session c.session.result.now c.args.walk c.args.loaded c.in-Some.parent c.first_solving.result c.session.ensures
    (sym (c.parent.ensures ∙ ap (λ (f : SnapshotFile). f.parent) c.file.ensures.value) ∙ c.in-Some.is) (ap (λ (base : Id12). same_id12 c.in-Some.parent base) (sym c.base.ensures) ∙ sym c.eq.ensures ∙ c.if-eq.true) c.first_solving.ensures)

pub returns-then-len-clause-lands : goal.returns-then-len-clause-lands
returns-then-len-clause-lands c = (
  state-over c.args.self.now.policy c.args.self.now.session c.args.self.now.state c.requires.ended,
  λ n. deep-lands c.args.self.now.policy c.args.self.now.session c.session.result.now c.args.walk c.args.loaded c.in-Some.parent c.push.new.self c.session.ensures
      (sym (c.parent.ensures ∙ ap (λ (f : SnapshotFile). f.parent) c.file.ensures.value) ∙ c.in-Some.is) (ap (λ (base : Id12). same_id12 c.in-Some.parent base) (sym c.base.ensures) ∙ sym c.eq.ensures ∙ c.if-eq.false) c.in-Ok.ensures.ok (sym c.len.ensures ∙ c.if-len.true),
)

pub returns-clause-lands : goal.returns-clause-lands
returns-clause-lands c = rw c.follow-2.ensures
    (parent-lands c.args.self.now.policy c.args.self.now.session c.session.result.now c.args.walk c.args.loaded c.in-Some.parent c.push.new.self c.session.ensures
    (sym (c.parent.ensures ∙ ap (λ (f : SnapshotFile). f.parent) c.file.ensures.value) ∙ c.in-Some.is) (ap (λ (base : Id12). same_id12 c.in-Some.parent base) (sym c.base.ensures) ∙ sym c.eq.ensures ∙ c.if-eq.false) c.in-Ok.ensures.ok c.requires.left
    (λ e. c.if-len.false (c.len.ensures ∙ e)))
