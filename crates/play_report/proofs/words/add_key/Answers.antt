use Rattle.play_report.proofs.words.add_key.Goals as goal

pub returns-in-Tombstone : goal.returns-in-Tombstone
returns-in-Tombstone g c = rw c.in-Tombstone.is c.add_ref_object-in-Tombstone.ensures
