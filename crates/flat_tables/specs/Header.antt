-- Own: the header of a file, 39 bytes, after the manner of the Icechunk specification, version 1.
use Rattle.std.specs.Prelude.{ℕ, List, [], ◌∷◌, ◌++◌, length, slice_index, replicate}
use Rattle.std.specs.Prelude.{Result, Ok, Err, nat_lt, nat_eq, ◌==◌, if◌then◌else◌}
use Rattle.std.specs.List.{starts_with}
use Rattle.flat_tables.specs.declared.header.Kind.{Kind}
use Rattle.flat_tables.specs.declared.header.Kind.TheVariants.{Snapshot, Manifest, Log}
use Rattle.flat_tables.specs.declared.header.HeaderFault.{HeaderFault}
use Rattle.flat_tables.specs.declared.header.HeaderFault.TheVariants.{Short, Magic, Version}
use Rattle.flat_tables.specs.declared.header.HeaderFault.TheVariants.{FileType, Compression}

-- the bytes that each file begins with
abbrev pub magic : List ℕ
magic = 0x49 ∷ 0x43 ∷ 0x45 ∷ 0xf0 ∷ 0x9f ∷ 0xa7 ∷ 0x8a ∷ 0x43 ∷ 0x48 ∷ 0x55 ∷ 0x4e ∷ 0x4b ∷ []

-- `icerepo`, and spaces up to 24 bytes
abbrev pub implementation : List ℕ
implementation = 0x69 ∷ 0x63 ∷ 0x65 ∷ 0x72 ∷ 0x65 ∷ 0x70 ∷ 0x6f ∷ replicate 17 0x20

abbrev pub type_of : Kind → ℕ
type_of Snapshot = 1
type_of Manifest = 2
type_of Log = 4

-- version 1, the type, and no compression
unfoldable pub header : Kind → List ℕ
header kind = magic ++ implementation ++ (1 ∷ type_of kind ∷ 0 ∷ [])

abbrev pub kind_by : ℕ → Result Kind HeaderFault
kind_by n =
    if n == 1 then Ok Snapshot
    else if n == 2 then Ok Manifest else if n == 4 then Ok Log else Err (FileType n)

abbrev pub uncompressed : ℕ → Result Kind HeaderFault → Result Kind HeaderFault
uncompressed n (Ok kind) = if n == 0 then Ok kind else Err (Compression n)
uncompressed n (Err e) = Err e

-- what a header says, or its first fault; the implementation's name isn't looked at
unfoldable pub kind_of : List ℕ → Result Kind HeaderFault
kind_of file =
    if nat_lt (length file) 39 then Err Short else
    if starts_with nat_eq file magic then
    (if slice_index file 36 == 1
    then uncompressed (slice_index file 38) (kind_by (slice_index file 37))
    else Err (Version (slice_index file 36)))
    else Err Magic
