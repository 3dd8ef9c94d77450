use Rattle.std.proofs.Common.{◌≡◌, ◌++◌, drop, map}
use Rattle.std.specs.Prelude.{codes}
use Rattle.std.specs.Fmt.{decimal}
use Rattle.std.specs.String.{string_bytes}
use Rattle.zarr_path.specs.Keys.{key_front}
use Rattle.zarr_path.specs.Paths.{joined}
use Rattle.zarr_path.proofs.keys.chunk_key.Given as goal

abbrev pub invariant-loop-number : goal.invariant-loop-number
invariant-loop-number l = string_bytes l.key ++ joined (map decimal (drop l.number-index l.number-items)) ≡ key_front l.fn.path ++ (codes "c" ++ joined (map decimal l.fn.index))
