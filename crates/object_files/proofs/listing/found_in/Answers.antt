use Rattle.std.proofs.Common.{rules, ◌+◌, sym, subst, arith, map, take, List, ℕ}
use Rattle.std.specs.Prelude.{string_bytes}
use Rattle.object_files.specs.inside.Finding.{AddsEntry}
use Rattle.object_files.proofs.Found.{more-found, map-more}
use Rattle.object_files.proofs.listing.found_in.Goals as goal

pub loop-name-preserved : goal.loop-name-preserved
loop-name-preserved g c = record {
  of_part = search rules;
  right = search rules;
  all = λ tells. more-found (g.F.Folder.files c.args.tree.now) c.args.root.now c.args.part (map string_bytes (take c.loop-name.name-index c.args.names.now)) (map string_bytes (take (c.loop-name.name-index + 1) c.args.names.now)) (string_bytes c.name-item.result) c.loop-name.found c.add_found.new.found
      (map-more c.args.names.now c.loop-name.name-index c.name-item.result (omega arith) (sym c.name-item.is)) (c.loop-name.invariant.all tells)
      (subst (λ (name : List ℕ). AddsEntry (g.F.Folder.files c.args.tree.now) c.args.root.now c.args.part name c.loop-name.found c.add_found.new.found) c.as_str.ensures.value (c.in_ok-add_found.ensures.adds tells));
}
