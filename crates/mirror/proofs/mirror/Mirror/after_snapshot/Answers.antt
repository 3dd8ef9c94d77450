use Rattle.std.proofs.Common.{inl, ◌∙◌}
use Rattle.mirror.proofs.Taking.{behind-copied}
use Rattle.mirror.proofs.mirror.Mirror.after_snapshot.Goals as goal

pub returns-in-Ok-clause-lands : goal.returns-in-Ok-clause-lands
returns-in-Ok-clause-lands c = inl (c.next_link.ensures.lands ∙ behind-copied c.args.self.now _ c.in-Ok.ensures.ok)
