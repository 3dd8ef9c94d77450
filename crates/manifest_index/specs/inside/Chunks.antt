-- The chunks that are collected, by their indices.
use Rattle.std.specs.Prelude.{◌≡◌, ◌<◌, ◌^◌, ℕ, ◌==◌, if◌then◌else◌}
use Rattle.std.specs.Prelude.{List, length, map, Option, None}
use Rattle.std.specs.BTreeMap.{BTreeMap, get, IsOrdered}
use Rattle.zarr_path.specs.Indices.{index_cmp}
use Rattle.manifest_file.specs.declared.manifest.Place.{Place}
use Rattle.manifest_file.specs.declared.manifest.ChunkRef.{ChunkRef}
use Rattle.manifest_index.specs.Merging.{entry_chunk}

-- where the chunk at an index is
abbrev pub chunk_at : List ℕ → BTreeMap (List ℕ) Place → Option Place
chunk_at index chunks = get index_cmp chunks index

-- a place that counts for an index of this rank alone
abbrev pub ranked : ℕ → List ℕ → Option Place → Option Place
ranked rank index place = if length index == rank then place else None

-- the chunks of a map whose indices ascend
abbrev pub AreRows : BTreeMap (List ℕ) Place → List ChunkRef → Type 0
AreRows chunks refs = (refs ≡ map entry_chunk chunks.entries) × IsOrdered index_cmp chunks

-- an extent has numbers of 32 bits
abbrev pub IsSized : ℕ × ℕ → Type 0
IsSized extent = extent.1 < 2 ^ 32
