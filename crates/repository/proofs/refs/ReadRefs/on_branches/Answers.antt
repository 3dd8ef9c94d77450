use Rattle.repository.proofs.Goings.{next-branch, branches-end}
use Rattle.repository.proofs.refs.ReadRefs.on_branches.Goals.{then-place-len, else-place-len}
use Rattle.repository.proofs.refs.ReadRefs.on_branches.Goals as goal

pub returns-clause-lands : goal.returns-clause-lands
returns-clause-lands c = elim c.if-place-len.branch [
  | then-place-len w ↦ next-branch c.args.self.now.lines c.args.entries c.as_slice.result.now c.args.from c.next_live-place.result c.as_slice.ensures c.next_live-place.ensures.live (rw (← c.len.ensures) w.if-place-len.true) _ w.t-12-is
  | else-place-len w ↦ branches-end c.args.self.now.lines c.args.entries c.as_slice.result.now c.args.from c.next_live-place.result c.as_slice.ensures c.next_live-place.ensures.live (rw (← c.len.ensures) w.if-place-len.false) _ w.t-12-is
]
