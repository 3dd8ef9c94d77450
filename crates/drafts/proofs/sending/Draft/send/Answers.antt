use Rattle.std.proofs.Common.{◌≡◌, true, false, rules}
use Rattle.drafts.proofs.Taking.{took_sent, took_failed}
use Rattle.drafts.proofs.sending.Draft.send.Goals as goal

pub returns-then-self-clause-took : goal.returns-then-self-clause-took
returns-then-self-clause-took g c = let failed : c.args.self.now.unwritten ≡ true = search rules in took_failed _ _ _ failed

pub returns-clause-took : goal.returns-clause-took
returns-clause-took g c = let fine : c.args.self.now.unwritten ≡ false = search rules in took_sent _ _ _ _ fine c.send_all.ensures.wrote c.send_all.ensures.none
