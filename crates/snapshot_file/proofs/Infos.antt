-- The bytes of a manifest in the list of a snapshot.
use Rattle.std.proofs.Common.{◌≡◌, ℕ, length, Ok, refl, arith}
use Rattle.std.proofs.lemmas.List.{length-append}
use Rattle.flat_tables.specs.Places.{VectorIn, item_of}
use Rattle.flat_tables.specs.Layout.{zeros}
use Rattle.snapshot_file.specs.declared.snapshot.ManifestInfo.{ManifestInfo}
use Rattle.snapshot_file.specs.Snapshots.{info_of, info_at}
use Rattle.snapshot_file.specs.Layout.{info_head, info_tail, info_bytes, IsInfo}

pub info_is : (v : VectorIn) (i : ℕ) (file : ManifestInfo) → file ≡ info_of (item_of v i) → info_at v i ≡ Ok file
info_is v i file e = rw (← e) refl

-- they are 32
pub info_bytes_long : (file : ManifestInfo) → IsInfo file → length (info_bytes file) ≡ 32
info_bytes_long file is = omega (arith, length-append (info_head file.id) (info_tail file.size file.refs), length-append file.id.0 (zeros 4), is.id.0)
