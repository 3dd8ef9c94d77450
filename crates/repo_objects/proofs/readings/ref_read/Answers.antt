use Rattle.repo_objects.proofs.Refs.{refers_read, refuses_read}
use Rattle.repo_objects.proofs.readings.ref_read.Goals as goal

pub returns-in-Ok : goal.returns-in-Ok
returns-in-Ok c = refers_read _ _ c.in-Ok.ensures

pub returns-in-Err : goal.returns-in-Err
returns-in-Err c = refuses_read _ _ _ c.in-Err.ensures c.unread_ref.ensures
