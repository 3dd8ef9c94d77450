use Rattle.session.proofs.SeenRows.{few-loaded}
use Rattle.session.proofs.session.Session.begin.Goals as goal

pub invariant_of-result : goal.invariant_of-result
invariant_of-result c = few-loaded c.args.loaded c.new.result c.file.ensures.writable c.new.ensures
