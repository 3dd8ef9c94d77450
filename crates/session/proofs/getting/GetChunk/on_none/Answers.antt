use Rattle.std.proofs.Common.{sym, ◌∙◌, ◌+◌, drop}
use Rattle.session.proofs.ReadSteps.{listed_next, listed_ask, listed_none, reading_over}
use Rattle.session.proofs.getting.GetChunk.on_none.Goals as goal

pub returns-in_default-clause-took : goal.returns-in_default-clause-took
returns-in_default-clause-took c =
    let m = c.args.self.now in
    ((listed_none m.want m.node m.index c.args.ids c.args.at (sym c.id_at.ensures.value ∙ c.in_default.is), reading_over m.want m.node m.index m.state c.requires), tt)

pub returns-clause-took : goal.returns-clause-took
returns-clause-took c =
    let m = c.args.self.now in
    rw c.follow.ensures ((listed_next m.want m.node m.index c.args.ids c.args.at c.in-Some.id (sym c.id_at.ensures.value ∙ c.in-Some.is), listed_ask m.want m.node m.index c.in-Some.id (drop (c.args.at + 1) c.args.ids)), tt)
