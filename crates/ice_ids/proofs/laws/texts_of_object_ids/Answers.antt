use Rattle.ice_ids.proofs.TextLaws.{id12_of_text-id12_text, id12_of_text-Ok, length-id12_text, id12_text-plain}
use Rattle.ice_ids.proofs.laws.texts_of_object_ids.Goals as goal

pub returns-clause-read : goal.returns-clause-read
returns-clause-read c = id12_of_text-id12_text

pub returns-clause-written : goal.returns-clause-written
returns-clause-written c = id12_of_text-Ok

pub returns-clause-long : goal.returns-clause-long
returns-clause-long c = length-id12_text

pub returns-clause-plain : goal.returns-clause-plain
returns-clause-plain c = id12_text-plain
