use Rattle.run_histories.proofs.Needed.{needed-law}
use Rattle.run_histories.proofs.needed_law.Goals as goal

pub returns : goal.returns
returns c = needed-law (record {
  owns = c.own_law.ensures;
  clients = c.client_collects.ensures;
  child = c.commits_child.ensures;
  refs = c.refs_kept.ensures.refs;
  bases = c.sessions_kept.ensures.bases;
  leases = c.sessions_kept.ensures.leases;
  puts = c.sessions_kept.ensures.puts;
  anchored = c.sessions_kept.ensures.anchored;
  refs_found = c.base_found.ensures.refs;
  bases_found = c.base_found.ensures.bases;
  leases_found = c.base_found.ensures.leases;
  own_found = c.base_found.ensures.own;
  missed = c.base_found.ensures.none_missing;
  nothing = c.base_found.ensures.nothing;
})
