use Rattle.play_tasks.proofs.Going.{Laws}
use Rattle.play_tasks.proofs.Playing.{task-well}
use Rattle.play_tasks.proofs.laws.task_law.Goals as goal

pub returns : goal.returns
returns c =
    let L : Laws = record {
      opening = c.opening_law.ensures;
      session = c.session_law.ensures;
      commit = c.commit_law.ensures;
      single = c.single_law.ensures;
      owning = c.owning_law.ensures;
      rebase = c.rebase_law.ensures;
      settle = c.settle_law.ensures;
      set = c.set_law.ensures;
      get = c.get_law.ensures;
      calls = c.owning_calls_law.ensures;
      gather = c.region_law.ensures;
      put = c.region_set_law.ensures;
      boxes = c.owning_region_law.ensures;
      leases = c.lease_law.ensures;
      refs = c.refs_task_law.ensures;
      collect = c.collect_task_law.ensures;
      expire = c.expire_task_law.ensures;
      check = c.check_task_law.ensures;
    } in
    λ by ids task start well. task-well L by ids task start well
