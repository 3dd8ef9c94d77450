use Rattle.two_stores.proofs.Drives.{answered-steps, failed-steps, starved-steps}
use Rattle.two_stores.proofs.driving.drive_pair.Goals as goal

pub returns-in-Ok-clause-step : goal.returns-in-Ok-clause-step
returns-in-Ok-clause-step g c = answered-steps _ _ _ _ _ c.in-Ok.ensures.fits c.in-Ok.ensures.called c.in-Ok.ensures.answered c.answer.ensures.took

pub returns-in-Err-Failed-clause-step : goal.returns-in-Err-Failed-clause-step
returns-in-Err-Failed-clause-step g c = failed-steps _ _ _ _ _ c.in-Err-Failed.field-0-is c.in-Err-Failed.ensures.called c.answer-in-Err-Failed.ensures.took

pub returns-in-Err-NoMemory-clause-step : goal.returns-in-Err-NoMemory-clause-step
returns-in-Err-NoMemory-clause-step g c = starved-steps _ _ _ _ _ c.in-Err-NoMemory.field-0-is c.in-Err-NoMemory.ensures.called c.stop.ensures.starves
