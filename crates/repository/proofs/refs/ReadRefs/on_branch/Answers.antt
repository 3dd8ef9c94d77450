use Rattle.std.proofs.Common.{refl}
use Rattle.repository.proofs.Goings.{took-branch}
use Rattle.repository.proofs.refs.ReadRefs.on_branch.Goals as goal

pub returns-clause-took : goal.returns-clause-took
returns-clause-took c =
    took-branch c.args.self.now.lines c.add_ref.new.lines c.args.entries c.as_slice.result.now c.args.place _ c.index-as_slice-place.result c.args.got _ _ _ refl refl c.requires.awaited c.as_slice.ensures c.in_ok-add_ref.ensures.adds c.on_branches.ensures.lands
