use Rattle.store_api.proofs.Drives.{answered-asked, failed-asked, starved-asked}
use Rattle.commit_path.proofs.commit.Commit.step.Goals as goal

pub returns-in-Ok-clause-step : goal.returns-in-Ok-clause-step
returns-in-Ok-clause-step g c = answered-asked _ _ _ _ c.in-Ok.reply _ c.in-Ok.ensures.fits c.in-Ok.ensures.called c.in-Ok.ensures.answered c.answer.ensures.took

pub returns-in-Err-Failed-clause-step : goal.returns-in-Err-Failed-clause-step
returns-in-Err-Failed-clause-step g c = failed-asked _ _ _ _ _ _ c.in-Err-Failed.field-0-is c.in-Err-Failed.ensures.called c.answer-in-Err-Failed.ensures.took

pub returns-in-Err-NoMemory-clause-step : goal.returns-in-Err-NoMemory-clause-step
returns-in-Err-NoMemory-clause-step g c = starved-asked _ _ _ _ _ c.in-Err-NoMemory.field-0-is c.stop.ensures.ended c.in-Err-NoMemory.ensures.called
