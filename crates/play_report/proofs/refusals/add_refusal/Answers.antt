use Rattle.play_report.proofs.refusals.add_refusal.Goals as goal

pub returns-in-CutoffAhead : goal.returns-in-CutoffAhead
returns-in-CutoffAhead g c = rw c.in-CutoffAhead.is c.add_told_number-in-CutoffAhead.ensures
