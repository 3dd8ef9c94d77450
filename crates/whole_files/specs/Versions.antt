-- The version of a file that may be put over is told by its content (own): the first
-- 8 bytes of SHA-256 (FIPS 180-4) as a number, the most significant byte first. What
-- is put once has the version 0.
use Rattle.std.specs.Prelude.{ℕ, List, take}
use Rattle.std.specs.Int.{w64, from_be_bytes}
use Rattle.sha2.specs.Sha256.{sha256}
use Rattle.whole_files.specs.declared.versions.Putting.{Putting}
use Rattle.whole_files.specs.declared.versions.Putting.TheVariants.{Once, Over}

abbrev pub first_number : List ℕ → ℕ
first_number digest = from_be_bytes w64 (take 8 digest)

abbrev pub version_of : List ℕ → ℕ
version_of bytes = first_number (sha256 bytes)

-- the version of these bytes, where they are put so
abbrev pub version_by : Putting → List ℕ → ℕ
version_by Once bytes = 0
version_by Over bytes = version_of bytes
