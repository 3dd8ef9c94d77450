use Rattle.ice_ids.proofs.TextLaws.{id8_of_text-id8_text, id8_of_text-Ok, length-id8_text, id8_text-plain}
use Rattle.ice_ids.proofs.laws.texts_of_node_ids.Goals as goal

pub returns-clause-read : goal.returns-clause-read
returns-clause-read c = id8_of_text-id8_text

pub returns-clause-written : goal.returns-clause-written
returns-clause-written c = id8_of_text-Ok

pub returns-clause-long : goal.returns-clause-long
returns-clause-long c = length-id8_text

pub returns-clause-plain : goal.returns-clause-plain
returns-clause-plain c = id8_text-plain
