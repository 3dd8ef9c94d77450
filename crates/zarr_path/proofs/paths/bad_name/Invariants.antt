use Rattle.std.proofs.Common.{◌≡◌, ◌+◌, ◌≤◌, length}
use denote.Text.{Utf8}
use denote.Shadow.{shadow}
use Rattle.zarr_path.specs.Paths.{first_bad, parts_of}
use Rattle.zarr_path.proofs.paths.bad_name.Given as goal

abbrev pub invariant-loop-name : goal.invariant-loop-name
invariant-loop-name l = shadow (Utf8 l.rest) × (first_bad l.at (parts_of l.rest) ≡ first_bad 1 (parts_of l.names)) × (l.at + length l.rest ≤ 1 + length l.names)

abbrev pub decreases-loop-name : goal.decreases-loop-name
decreases-loop-name l = length l.rest
