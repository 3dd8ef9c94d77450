use Rattle.std.proofs.Common.{OnOk, subst}
use Rattle.tree_model.specs.Models.{changes_of, tree_of}
use Rattle.ice_model.specs.Lists.{TouchesAlike}
use Rattle.ice_model.proofs.listing.compare_touched.Goals as goal

pub returns : goal.returns
returns c = subst (λ lists. OnOk c.compare_net-compared.result (TouchesAlike lists (changes_of c.args.changes.now) (tree_of c.args.base.now))) c.in_ok-net.ensures c.compare_net-compared.ensures
