use Rattle.std.proofs.Common.{sym, ◌∙◌, ap, arith}
use Rattle.std.specs.Prelude.{nat_eq}
use Rattle.std.specs.List.{starts_with}
use Rattle.zarr_path.specs.Paths.{root}
use Rattle.zarr_path.proofs.FolderTests.{begins-root, begins-short, begins-other, begins-slash, tested}
use Rattle.zarr_path.proofs.paths.begins_with_folder.Goals as goal

pub returns-then-eq : goal.returns-then-eq
returns-then-eq c = c.starts_with.ensures.value ∙ ap (starts_with nat_eq c.args.path.now) c.as_slice-then-eq.ensures ∙ begins-root c.args.of.now c.args.path.now (tested c.args.of.now _ root _ _ c.as_slice.ensures c.eq.ensures c.if-eq.true)

pub returns-then-path-of : goal.returns-then-path-of
returns-then-path-of c = begins-short c.args.of.now c.args.path.now (tested c.args.of.now _ root _ _ c.as_slice.ensures c.eq.ensures c.if-eq.false) (omega arith)

pub returns-then-not-starts_with : goal.returns-then-not-starts_with
returns-then-not-starts_with c = begins-other c.args.of.now c.args.path.now (tested c.args.of.now _ root _ _ c.as_slice.ensures c.eq.ensures c.if-eq.false) (sym c.starts_with-2.ensures.value ∙ c.if-not-starts_with.true)

pub returns : goal.returns
returns c = begins-slash c.args.of.now c.args.path.now (tested c.args.of.now _ root _ _ c.as_slice.ensures c.eq.ensures c.if-eq.false) (omega arith) (sym c.starts_with-2.ensures.value ∙ c.if-not-starts_with.false)
