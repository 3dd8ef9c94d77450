use Rattle.std.proofs.Common.{subst, sym}
use Rattle.std.specs.Prelude.{Result, IfErr}
use Rattle.store_api.specs.declared.machines.Refusal.{Refusal}
use Rattle.store_api.specs.Running.{Runs}
use Rattle.repository.specs.Beginning.{begin_program, MayRefuseBegin}
use Rattle.repository.proofs.Begun.{runs-begun, begun-listed}
use Rattle.repository.proofs.calls.begin.Goals as goal

pub returns-clause-runs : goal.returns-clause-runs
returns-clause-runs g c =
    let old = g.S.Viewed.view c.args.store.now in
    let new = g.S.Viewed.view c.make_repository.new.store in
    subst (λ (r : Result (Unit {0}) Refusal). Runs old new begin_program r) (sym c.begun.ensures) (runs-begun old new c.make_repository.result c.make_repository.ensures.runs)

pub returns-clause-listed : goal.returns-clause-listed
returns-clause-listed g c = subst (λ (r : Result (Unit {0}) Refusal). IfErr r MayRefuseBegin) (sym c.begun.ensures) (begun-listed c.make_repository.result c.make_repository.ensures.listed)
