use Rattle.ice_ids.proofs.laws.any_source.Goals as goal

pub returns-clause-objects : goal.returns-clause-objects
returns-clause-objects g c = g.met.I.Ids.source12

pub returns-clause-nodes : goal.returns-clause-nodes
returns-clause-nodes g c = g.met.I.Ids.source8
