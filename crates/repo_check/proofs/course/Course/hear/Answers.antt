use Rattle.std.proofs.Common.{refl}
use Rattle.repo_check.proofs.Acting.{answers-so, live-left}
use Rattle.repo_check.proofs.course.Course.hear.Goals as goal

pub on_reply-requires : goal.on_reply-requires
on_reply-requires c = answers-so c.args.state c.in-Ok.reply c.requires.live (rw c.in-Ok.is at c.requires.fits) (rw c.in-Ok.is at c.requires.answered)

pub returns-in-Err-Failed-clause-falls : goal.returns-in-Err-Failed-clause-falls
returns-in-Err-Failed-clause-falls c = live-left c.args.state c.args.self.now c.requires.live

pub returns-in-Err-NoMemory-clause-falls : goal.returns-in-Err-NoMemory-clause-falls
returns-in-Err-NoMemory-clause-falls c = live-left c.args.state c.args.self.now c.requires.live

pub returns-in-Err-Failed-clause-calm : goal.returns-in-Err-Failed-clause-calm
returns-in-Err-Failed-clause-calm c = rw c.in-Err-Failed.is tt

pub returns-in-Err-NoMemory-clause-calm : goal.returns-in-Err-NoMemory-clause-calm
returns-in-Err-NoMemory-clause-calm c = rw c.in-Err-NoMemory.is tt
