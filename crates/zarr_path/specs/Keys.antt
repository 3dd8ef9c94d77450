-- The keys under which a Zarr store keeps the metadata and the chunks of a node.
use Rattle.std.specs.Prelude.{◌≡◌, ℕ, ◌^◌, not, ◌&&◌, nat_lt, if◌then◌else◌}
use Rattle.std.specs.Prelude.{List, [], ◌∷◌, ◌++◌, drop, map, reverse, Option, Some, None}
use Rattle.std.specs.Prelude.{option_map, option_and_then, Result, Ok, Err, IsTrue, codes}
use Rattle.std.specs.Fmt.{decimal}
use Rattle.std.specs.Str.{bytes_eq}
use Rattle.std.specs.Str.Parse.{digits_value}
use Rattle.zarr_path.specs.declared.keys.KeyFault.{KeyFault}
use Rattle.zarr_path.specs.declared.keys.KeyFault.TheVariants as f
use Rattle.zarr_path.specs.declared.keys.ZarrKey.{ZarrKey}
use Rattle.zarr_path.specs.declared.keys.ZarrKey.TheVariants as k
use Rattle.zarr_path.specs.Paths.{root, same_path, folder, is_path, parts_of, joined}
use Rattle.zarr_path.specs.Indices.{is_index}

-- Zarr v3 core specification, "Stores": what a node's keys begin with: nothing for
-- `/`, else its names and a slash
abbrev pub key_front : List ℕ → List ℕ
key_front path = drop 1 (folder path)

-- Zarr v3 core specification, "Stores": the key of a node's metadata
unfoldable pub meta_key : List ℕ → List ℕ
meta_key path = key_front path ++ codes "zarr.json"

-- Zarr v3 core specification, "Chunk key encoding", `default` with the separator `/`:
-- `c`, and each number of the index
unfoldable pub chunk_key : List ℕ → List ℕ → List ℕ
chunk_key path index = key_front path ++ (codes "c" ++ joined (map decimal index))

-- this is the key of that metadata or chunk
abbrev pub IsKeyOf : List ℕ → ZarrKey → Type 0
IsKeyOf key (k.Meta path) = IsTrue (is_path path) × (key ≡ meta_key path)
IsKeyOf key (k.Chunk path index) =
    IsTrue (is_path path) × IsTrue (is_index index) × (key ≡ chunk_key path index)

-- what reading a key says: whose it is, or that it is nobody's; want of memory may come instead
abbrev pub SaysWhose : List ℕ → Result ZarrKey KeyFault → Type 0
SaysWhose key (Ok found) = IsKeyOf key found
SaysWhose key (Err f.NotAKey) = (found : ZarrKey) → ¬ IsKeyOf key found
SaysWhose key (Err f.NoMemory) = Unit {0}

-- ---- the same as a function of the key, read from its last part on

-- the number of 32 bits that a part spells as `decimal` writes it
unfoldable pub number_of : List ℕ → Option ℕ
number_of part =
    if bytes_eq (decimal (digits_value 10 part)) part && nat_lt (digits_value 10 part) (2 ^ 32)
    then Some (digits_value 10 part)
    else None

-- the path of names that stand each behind a slash
unfoldable pub path_spelled : List ℕ → Option (List ℕ)
path_spelled [] = Some root
path_spelled (b ∷ bs) =
    if is_path (b ∷ bs) && not (same_path (b ∷ bs) root) then Some (b ∷ bs) else None

-- the parts of a text, the last one first
abbrev pub parts_back : List ℕ → List (List ℕ)
parts_back text = reverse (parts_of text)

-- the chunk that is told by these parts, the last one first, and by the numbers behind them
abbrev pub chunk_at : List (List ℕ) → List ℕ → Option ZarrKey
chunk_at [] index = None
chunk_at (part ∷ before) index =
    if bytes_eq part (codes "c")
    then option_map (λ path. k.Chunk path index) (path_spelled (joined (reverse before)))
    else option_and_then (λ n. chunk_at before (n ∷ index)) (number_of part)

-- whose key a text of these parts is, the last one first
abbrev pub key_at : List (List ℕ) → Option ZarrKey
key_at [] = None
key_at (part ∷ before) =
    if bytes_eq part (codes "zarr.json")
    then option_map k.Meta (path_spelled (joined (reverse before)))
    else chunk_at (part ∷ before) []

-- whose key a text is
unfoldable pub key_of : List ℕ → Option ZarrKey
key_of key = key_at (parts_back key)

-- what reading a key answers
abbrev pub ReadsKey : List ℕ → Result ZarrKey KeyFault → Type 0
ReadsKey key (Ok found) = key_of key ≡ Some found
ReadsKey key (Err f.NotAKey) = key_of key ≡ None
ReadsKey key (Err f.NoMemory) = Unit {0}

-- ---- what the code's parts answer

-- the parts before the last slash, the last one first
abbrev pub before_back : Option (List ℕ) → List (List ℕ)
before_back None = []
before_back (Some text) = parts_back text

-- the path that stands before a key's own parts
abbrev pub path_before : Option (List ℕ) → Option (List ℕ)
path_before None = Some root
path_before (Some text) = path_spelled (47 ∷ text)

-- what reading that path answers
abbrev pub ReadsBefore : Option (List ℕ) → Result (List ℕ) KeyFault → Type 0
ReadsBefore before (Ok path) = path_before before ≡ Some path
ReadsBefore before (Err f.NotAKey) = path_before before ≡ None
ReadsBefore before (Err f.NoMemory) = Unit {0}

-- what reading a key as a chunk's answers
abbrev pub ReadsChunk : List ℕ → Result ZarrKey KeyFault → Type 0
ReadsChunk key (Ok found) = chunk_at (parts_back key) [] ≡ Some found
ReadsChunk key (Err f.NotAKey) = chunk_at (parts_back key) [] ≡ None
ReadsChunk key (Err f.NoMemory) = Unit {0}
