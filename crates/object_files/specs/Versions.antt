-- The version of an object (own): of a key that is put over or removed at a version it is told by
-- the bytes, as the first 8 bytes of SHA-256 (FIPS 180-4), a number with the most significant byte
-- first; of a key that is put once it is 0, since nothing is put over it.
use Rattle.std.specs.Prelude.{ℕ, List}
use Rattle.object_store.specs.declared.keys.Key.{Key}
use Rattle.object_store.specs.declared.keys.Key.TheVariants.{Snapshot, Manifest, Txn, Chunk}
use Rattle.object_store.specs.declared.keys.Key.TheVariants.{Branch, Tag, Tombstone, Lease}
use Rattle.whole_files.specs.declared.versions.Putting.{Putting}
use Rattle.whole_files.specs.declared.versions.Putting.TheVariants.{Once, Over}
use Rattle.whole_files.specs.Versions.{version_by}
pub use Rattle.whole_files.specs.Versions.{first_number, version_of}

-- whether a key's object is put once, or may be put over; each kind is named,
-- so that a new one is asked for
abbrev pub putting_of : Key → Putting
putting_of (Snapshot id) = Over
putting_of (Manifest id) = Once
putting_of (Txn id) = Once
putting_of (Chunk id) = Once
putting_of (Branch name) = Over
putting_of (Tag name) = Over
putting_of (Tombstone name) = Once
putting_of (Lease id) = Once

-- the version of these bytes at a key
abbrev pub version_for : Key → List ℕ → ℕ
version_for key bytes = version_by (putting_of key) bytes
