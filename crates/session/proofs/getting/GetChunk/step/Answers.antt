use Rattle.session.proofs.ReadSteps.{reading_polite}
use Rattle.session.proofs.getting.GetChunk.step.Goals as goal

pub drive-requires-clause-polite : goal.drive-requires-clause-polite
drive-requires-clause-polite g c = λ t. reading_polite c.args.self.now.want c.args.self.now.node c.args.self.now.index c.args.self.now.state _
