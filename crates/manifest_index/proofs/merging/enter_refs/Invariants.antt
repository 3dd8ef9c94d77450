use Rattle.std.proofs.Common.{◌≡◌, ℕ, List, None, drop}
use Rattle.std.specs.Prelude.{if◌then◌else◌}
use Rattle.std.specs.Option.{option_or}
use Rattle.held_manifest.specs.LookUp.{within, place_of}
use Rattle.manifest_index.specs.inside.Chunks.{chunk_at, ranked}
use Rattle.manifest_index.proofs.merging.enter_refs.Given as goal

abbrev pub invariant-loop-k : goal.invariant-loop-k
invariant-loop-k l = (q : List ℕ) → chunk_at q l.chunks ≡ option_or (ranked l.rank q (if within l.extents q then place_of q (drop l.k l.refs) else None)) (chunk_at q l.initial.chunks)
