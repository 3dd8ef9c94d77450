use Rattle.std.proofs.Common.{◌≤◌, length, arith}
use Rattle.chunk_gc.specs.inside.Working.{work_of}
use Rattle.chunk_gc.proofs.Stepping.{passed-on}
use Rattle.chunk_gc.proofs.mark.Mark.next_snapshot.Goals as goal

pub returns-in-Ok-clause-lands : goal.returns-in-Ok-clause-lands
returns-in-Ok-clause-lands c =
    let few : length c.args.self.now.snapshots.todo ≤ 0 = omega (arith, c.waiting.ensures, c.if-waiting-gt0.false) in
    rw (passed-on c.args.self.now.passes c.args.self.now.left (work_of c.args.self.now) c.pass_on.new.self.passes c.pass_on.new.self.left (work_of c.pass_on.new.self) c.if-self.false few c.in-Ok.ensures.work c.in-Ok.ensures.passes c.in-Ok.ensures.left) c.take_snapshot-in-Ok.ensures.lands

pub returns-then-self-clause-told : goal.returns-then-self-clause-told
returns-then-self-clause-told c = λ more. c.take_snapshot.ensures.told

pub returns-then-waiting-gt0-clause-told : goal.returns-then-waiting-gt0-clause-told
returns-then-waiting-gt0-clause-told c = λ more. c.take_snapshot-then-waiting-gt0.ensures.told

pub returns-in-Ok-clause-told : goal.returns-in-Ok-clause-told
returns-in-Ok-clause-told c = λ more. let some = more c.if-self.false in absurd (omega (arith, c.waiting.ensures, c.if-waiting-gt0.false, some))

pub returns-in-Err-clause-told : goal.returns-in-Err-clause-told
returns-in-Err-clause-told c = λ more. let some = more c.if-self.false in absurd (omega (arith, c.waiting.ensures, c.if-waiting-gt0.false, some))
