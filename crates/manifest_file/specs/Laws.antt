-- Laws of manifests and their files.
use Rattle.std.specs.Prelude.{◌≡◌, ◌≤◌, ℕ, nat_lt, List, length, true, Ok}
use Rattle.std.specs.List.{list_all}
use Rattle.flat_tables.specs.File.{file_limit}
use Rattle.manifest_file.specs.declared.manifest.ManifestFile.{ManifestFile}
use Rattle.manifest_file.specs.Manifests.{manifest_of}
use Rattle.manifest_file.specs.Layout.{file_bytes, CanWrite, IsManifest}

-- what a file stands for can be written
abbrev pub OrderedLaw : Type 0
OrderedLaw =
    (file : List ℕ) (manifest : ManifestFile) → manifest_of file ≡ Ok manifest → CanWrite manifest

-- the one file of a manifest, if it isn't too long, stands for the manifest
abbrev pub RoundTripLaw : Type 0
RoundTripLaw =
    (manifest : ManifestFile) → IsManifest manifest → CanWrite manifest
    → length (file_bytes manifest) ≤ file_limit → manifest_of (file_bytes manifest) ≡ Ok manifest

-- what a file of bytes stands for can be written
pub record ReadLaw : Type 0 where
  pub sized : (file : List ℕ) (manifest : ManifestFile) → list_all (λ n. nat_lt n 256) file ≡ true
      → manifest_of file ≡ Ok manifest → IsManifest manifest
  pub writable : OrderedLaw
  -- and what is written is read again
  pub again : RoundTripLaw
  -- what is written is bytes
  pub bytes : (manifest : ManifestFile) → IsManifest manifest
      → list_all (λ n. nat_lt n 256) (file_bytes manifest) ≡ true
