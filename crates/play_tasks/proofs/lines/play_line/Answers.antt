use Rattle.std.proofs.Common.{◌∙◌, ℕ, List, sym, ap, subst}
use Rattle.script_calls.specs.declared.calls.Call.{Call}
use Rattle.script_calls.specs.declared.calls.Call.TheVariants.{Prop}
use Rattle.play_tasks.specs.Lines.{deed}
use Rattle.play_tasks.specs.inside.Working.{LineComes}
use Rattle.play_tasks.proofs.lines.play_line.Goals as goal

pub returns-in-Commit-clause-comes : goal.returns-in-Commit-clause-comes
returns-in-Commit-clause-comes c = subst (λ (x : Call). LineComes c.args.access.now c.args.line.now.number c.args.at c.args.shown.items c.args.session (deed c.args.line.now.number x c.args.session) c.play_commit.result) (sym c.in-Commit.is) (c.play_commit.ensures.comes c.args.at)

pub returns-in-Commit-clause-bounded : goal.returns-in-Commit-clause-bounded
returns-in-Commit-clause-bounded c = c.play_commit.ensures.bounded c.args.at

pub returns-in-Edit-clause-comes : goal.returns-in-Edit-clause-comes
returns-in-Edit-clause-comes c = subst (λ (x : Call). LineComes c.args.access.now c.args.line.now.number c.args.at c.args.shown.items c.args.session (deed c.args.line.now.number x c.args.session) c.play_edit.result) (sym c.in-Edit.is) (c.play_edit.ensures.comes c.args.access.now)

pub returns-in-Read-clause-comes : goal.returns-in-Read-clause-comes
returns-in-Read-clause-comes c = subst (λ (x : Call). LineComes c.args.access.now c.args.line.now.number c.args.at c.args.shown.items c.args.session (deed c.args.line.now.number x c.args.session) c.play_read.result) (sym c.in-Read.is) (c.play_read.ensures.comes c.args.access.now)

pub returns-in-Prop-clause-comes : goal.returns-in-Prop-clause-comes
returns-in-Prop-clause-comes c =
    let name = c.deref.result.now in
    let is = c.in-Prop.is ∙ (ap (λ (n : List ℕ). Prop n c.in-Prop.value) (sym c.deref.ensures) ∙ ap (λ (v : List ℕ). Prop name v) (sym c.deref-in-Prop.ensures)) in
    subst (λ (x : Call). LineComes c.args.access.now c.args.line.now.number c.args.at c.args.shown.items c.args.session (deed c.args.line.now.number x c.args.session) c.play_prop.result) (sym is) (c.play_prop.ensures.comes c.args.at c.args.access.now)

pub returns-in-Prop-clause-bounded : goal.returns-in-Prop-clause-bounded
returns-in-Prop-clause-bounded c = c.play_prop.ensures.bounded c.args.at

pub returns-in-Lease-clause-comes : goal.returns-in-Lease-clause-comes
returns-in-Lease-clause-comes c = subst (λ (x : Call). LineComes c.args.access.now c.args.line.now.number c.args.at c.args.shown.items c.args.session (deed c.args.line.now.number x c.args.session) c.play_lease.result) (sym c.in-Lease.is) (c.play_lease.ensures.comes c.args.access.now)
