use Rattle.std.proofs.lemmas.Bool.{iff_false}
use Rattle.zarr_path.proofs.KeyTests.{names-found}
use Rattle.zarr_path.proofs.paths.Path.names.Goals as goal

pub returns-else-is_root : goal.returns-else-is_root
returns-else-is_root c = names-found c.args.self.now c.as_str.result.now c.strip_prefix.result c.as_str.ensures.path (iff_false c.is_root.ensures c.if-is_root.false) c.as_str.ensures.value c.strip_prefix.ensures.cases
