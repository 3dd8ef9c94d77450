use Rattle.std.proofs.Common.{◌≡◌, true, sym, subst}
use Rattle.repo_check.specs.declared.standing.Checking.{Checking}
use Rattle.repo_check.specs.inside.Working.{is_live}
use Rattle.repo_check.proofs.Acting.{live-state}
use Rattle.repo_check.proofs.check.Check.step.Goals as goal

pub step_on-next-requires : goal.step_on-next-requires
step_on-next-requires g c =
    subst (λ (s : Checking). is_live s ≡ true) (sym c.replace-state.ensures.value) (live-state c.args.self.now.state c.args.self.now.course c.requires)
