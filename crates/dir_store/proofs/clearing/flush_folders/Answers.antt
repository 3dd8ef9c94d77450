use Rattle.std.proofs.Common.{rules, ◌++◌, ◌+◌, sym, subst, arith, map, take, List, ℕ}
use Rattle.std.specs.Prelude.{string_bytes, codes}
use Rattle.folder.specs.Files.{Firms}
use Rattle.object_files.proofs.Found.{map-more}
use Rattle.dir_store.proofs.Flushing.{more-named}
use Rattle.dir_store.proofs.clearing.flush_folders.Goals as goal

pub loop-name-preserved : goal.loop-name-preserved
loop-name-preserved g c = record {
  files = search rules;
  loose = search rules;
  left = search rules;
  firm = λ tells.
      more-named c.args.folder.now (map string_bytes (take c.loop-name.name-index c.as_slice-name-items.result.now)) (map string_bytes (take (c.loop-name.name-index + 1) c.as_slice-name-items.result.now)) (string_bytes c.name-item.result)
      (g.F.Folder.loose c.args.tree.now) (g.F.Folder.loose c.loop-name.tree) (g.F.Folder.loose c.flush_part.new.tree)
      (map-more c.as_slice-name-items.result.now c.loop-name.name-index c.name-item.result (omega arith) (sym c.name-item.is)) (c.loop-name.invariant.firm tells)
      (subst (λ (name : List ℕ). Firms (c.args.folder.now ++ codes "/" ++ name) (g.F.Folder.loose c.loop-name.tree) (g.F.Folder.loose c.flush_part.new.tree)) c.as_str.ensures.value (c.in_ok-flush_part.ensures.firm tells));
}
