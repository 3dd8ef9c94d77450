use Rattle.std.proofs.Common.{subst}
use Rattle.store_api.specs.Driving.{Took}
use Rattle.array_region.specs.declared.setting.Writing.{Writing}
use Rattle.array_region.specs.Filling.{writing_rest, region_set_rest}
use Rattle.array_region.specs.Setting.{run_rest}
use Rattle.array_region.proofs.RunTaking.{answered_took}
use Rattle.array_region.proofs.setting.RegionSetMachine.answer.Goals as goal

pub returns-clause-took : goal.returns-clause-took
returns-clause-took c =
    let after = c.on_answered.new.self in
    subst (λ (state : Writing). Took (writing_rest state) c.args.reply (region_set_rest after) c.on_answered.result) c.in-Runs.ensures.value (
    answered_took (run_rest c.in-Runs.run') c.args.reply c.answer-answered.new.self c.answer-answered.result after.state c.on_answered.result c.answer-answered.ensures.took c.on_answered.ensures.state c.on_answered.ensures.answer
    )
