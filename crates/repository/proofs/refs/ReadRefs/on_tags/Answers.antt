use Rattle.repository.proofs.Goings.{next-tag, tags-end}
use Rattle.repository.proofs.refs.ReadRefs.on_tags.Goals as goal

pub returns-then-place-len-clause-lands : goal.returns-then-place-len-clause-lands
returns-then-place-len-clause-lands c = next-tag c.args.self.now.lines c.args.entries c.as_slice.result.now c.args.from c.next_live-place.result c.as_slice.ensures c.next_live-place.ensures.live (rw (← c.len.ensures) c.if-place-len.true)

pub returns-clause-lands : goal.returns-clause-lands
returns-clause-lands c = tags-end c.args.self.now.lines c.args.entries c.as_slice.result.now c.args.from c.next_live-place.result c.as_slice.ensures c.next_live-place.ensures.live (rw (← c.len.ensures) c.if-place-len.false) _ c.replace.ensures.value _ c.args.self.now.state c.requires.ended
