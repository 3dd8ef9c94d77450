use Rattle.ice_model.proofs.found.log_of.Goals as goal

pub write-written-requires : goal.write-written-requires
write-written-requires c = c.touched_law.ensures.writable _ c.args.lists c.requires
