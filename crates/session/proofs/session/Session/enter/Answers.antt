use Rattle.session.specs.Sessions.{base_nodes}
use Rattle.session.specs.Viewed.{viewed}
use Rattle.session.proofs.Places.{few-entry}
use Rattle.session.proofs.session.Session.enter.Goals as goal

pub invariant_of-self : goal.invariant_of-self
invariant_of-self c =
    few-entry c.enter_chunk.result c.self.inside.changes c.enter_chunk.new.self (base_nodes (viewed c.self.inside)) c.args.node c.args.index c.args.place c.self.invariant c.enter_chunk.ensures.ok c.enter_chunk.ensures.err
