-- The log of a commit can be written.
use Rattle.std.proofs.Common.{◌≡◌, sym, subst}
use Rattle.ice_ids.specs.declared.Id12.{Id12}
use Rattle.zarr_tree.specs.declared.lists.Touched.{Touched as Lists}
use Rattle.zarr_tree.specs.Held.{touched}
use Rattle.zarr_tree.proofs.Listing.{ordered-law}
use Rattle.manifest_file.specs.declared.manifest.Place.{Place}
use Rattle.txn_file.specs.Layout.{IsOrdered}
use Rattle.txn_file.proofs.Orders.{both_orders}
use Rattle.session.specs.Sessions.{SessionState, base_nodes}

pub log-ordered : (s : SessionState) (id : Id12) (l : Lists) → l ≡ touched s.held (base_nodes s) → IsOrdered (record { id = id; lists = l })
log-ordered s id l e = subst (λ (x : Lists). IsOrdered (record { id = id; lists = x })) (sym e) (both_orders.writable id (touched s.held (base_nodes s)) (ordered-law {P = Place} s.held (base_nodes s)))
