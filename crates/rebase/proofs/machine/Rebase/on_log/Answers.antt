use Rattle.std.proofs.Common.{sym, ap, subst, ◌∙◌}
use Rattle.ice_ids.specs.declared.Id12.{Id12}
use Rattle.zarr_tree.specs.declared.lists.Touched.{Touched}
use Rattle.store_api.specs.Program.{Lands}
use Rattle.repo_read.specs.Answers.{log_told}
use Rattle.rebase.specs.Rebasing.{rebase_rest, with_session}
use Rattle.rebase.specs.inside.Working.{lists_behind}
use Rattle.rebase.proofs.Rebases.{state-over, state-log-refused, state-log-went}
use Rattle.rebase.proofs.machine.Rebase.on_log.Goals as goal

pub returns-in-Ok-clause-took : goal.returns-in-Ok-clause-took
returns-in-Ok-clause-took c =
    state-log-went c.args.self.now.policy c.args.self.now.session c.args.solving c.file.result.now c.args.reply c.in-Ok.log c.file.ensures.value c.requires.awaited (ap (λ (id : Id12). log_told id c.args.reply) (sym c.id.ensures) ∙ sym c.in-Ok.ensures.told) _ _
    (subst (λ (lists : Touched). Lands (with_session c.args.self.now.session (λ s. lists_behind c.args.self.now.policy s c.args.solving lists)) (rebase_rest c.on_lists-answer.new.self) c.on_lists-answer.result) c.lists.ensures.lists c.on_lists-answer.ensures.lands) c.on_lists-answer.ensures.faultless

pub returns-in-Err-clause-took : goal.returns-in-Err-clause-took
returns-in-Err-clause-took c =
    state-log-refused c.args.self.now.policy c.args.self.now.session c.args.solving c.file.result.now c.args.reply c.in-Err.why c.file.ensures.value c.requires.awaited (λ _. ap (λ (id : Id12). log_told id c.args.reply) (sym c.id.ensures) ∙ sym c.in-Err.ensures.told)
    (λ _. c.in-Err.ensures.told ∙ ap (λ (id : Id12). log_told id c.args.reply) c.id.ensures) _
    (state-over c.args.self.now.policy c.args.self.now.session c.args.self.now.state c.requires.ended)
