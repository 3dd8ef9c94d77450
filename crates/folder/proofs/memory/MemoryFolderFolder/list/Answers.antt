use Rattle.std.proofs.Common.{sym, subst, arith, map, List, ℕ}
use Rattle.std.specs.Prelude.{string_bytes}
use Rattle.folder.specs.Memory.{AddsName}
use Rattle.folder.proofs.Changes.{tells-all, tells-more}
use Rattle.folder.proofs.memory.MemoryFolderFolder.list.Goals as goal

pub loop-change-preserved : goal.loop-change-preserved
loop-change-preserved c =
    let old : List (List ℕ) = map string_bytes c.loop-change.names.items in
    let new : List (List ℕ) = map string_bytes c.add_name.new.names.items in
    tells-more c.as_slice-change-items.result.now c.loop-change.change-index c.change-item.result c.args.path.now old new (omega arith) (sym c.change-item.is) c.loop-change.invariant
    (subst (λ (path : List ℕ). AddsName path c.args.path.now old new) c.as_str.ensures.value c.in_ok-add_name.ensures)

pub returns-clause-names : goal.returns-clause-names
returns-clause-names c = λ tells. tells-all c.as_slice-change-items.result.now c.args.self.now.changes.items c.loop-change.change-index c.args.path.now (map string_bytes c.loop-change.names.items) c.as_slice-change-items.ensures.value c.loop-change-test.false c.loop-change.invariant
