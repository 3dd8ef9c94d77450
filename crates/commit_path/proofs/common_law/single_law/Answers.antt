use Rattle.commit_path.proofs.Singling.{single-law}
use Rattle.commit_path.proofs.common_law.single_law.Goals as goal

pub returns : goal.returns
returns c = single-law (record { snap = c.snapshot_law.ensures; log = c.log_law.ensures; reference = c.ref_law.ensures; initial = c.initial_law.ensures; proper = c.proper_law.ensures; nodes = c.nodes_law.ensures; tree = c.tree_law.ensures; frozen = c.frozen_law.ensures; ranked = c.ranked_law.ensures; own = c.own_law.ensures; manifest = c.manifest_law.ensures; merged = c.merged_law.ensures; lists = c.new_list_law.ensures; extents = c.extents_law.ensures })
