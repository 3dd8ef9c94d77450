use Rattle.play_course.proofs.Promises.{promise-law}
use Rattle.play_course.proofs.promise_law.Goals as goal

pub returns : goal.returns
returns c = promise-law c.initial_law.ensures c.means_law.ensures c.run_law.ensures c.needed_law.ensures c.refs_law.ensures
