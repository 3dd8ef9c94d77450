use Rattle.std.proofs.Common.{ap, sym, subst, ◌∙◌}
use Rattle.zarr_tree.specs.declared.lists.Touched.{Touched}
use Rattle.zarr_tree.specs.Touched.{IsOrdered}
use Rattle.txn_file.specs.declared.log.TxnFile.{TxnFile}
use Rattle.txn_file.specs.Logs.{lists_of, txn_of}
use Rattle.txn_file.proofs.Ordered.{txn_ordered}
use Rattle.txn_file.proofs.Orders.{both_orders}
use Rattle.held_manifest.proofs.Checked.{ok_by, ok_same}
use Rattle.held_log.specs.Files.{log_or_empty}
use Rattle.held_log.proofs.Parts.{log_ok, log_parts, root_same}
use Rattle.held_log.proofs.held.HeldLog.lists.Goals as goal

pub held_lists-requires : goal.held_lists-requires
held_lists-requires c =
    let file = c.self.inside.file in
    let parts = log_parts file c.self.invariant in
    let same = root_same file c.root.result _ parts (rw (← c.as_slice.ensures.value) c.root.ensures) in
    ok_by (lists_of c.root.result) _ (ap lists_of same ∙ parts.lists_are)

pub returns-clause-lists : goal.returns-clause-lists
returns-clause-lists c =
    let file = c.self.inside.file in
    let parts = log_parts file c.self.invariant in
    let same = root_same file c.root.result _ parts (rw (← c.as_slice.ensures.value) c.root.ensures) in
    ok_same c.held_lists.result _ (sym c.held_lists.ensures ∙ ap lists_of same ∙ parts.lists_are) ∙ ap (λ (m : TxnFile). m.lists) c.self.view_is

pub returns-clause-order : goal.returns-clause-order
returns-clause-order c =
    let file = c.self.inside.file in
    let parts = log_parts file c.self.invariant in
    let same = root_same file c.root.result _ parts (rw (← c.as_slice.ensures.value) c.root.ensures) in
    let log = log_or_empty (txn_of file) in
    let is = ok_same c.held_lists.result log.lists (sym c.held_lists.ensures ∙ ap lists_of same ∙ parts.lists_are) in
    subst (λ (s : Touched). IsOrdered s) (sym is) (both_orders.listed log.id log.lists (txn_ordered file log (log_ok (txn_of file) c.self.invariant)))
