-- The laws of keys.
use Rattle.std.specs.Prelude.{◌≡◌, ℕ, List, Some, Result, Ok, Err, ◌↔◌, ◌⊎◌, IsTrue}
use Rattle.zarr_path.specs.declared.keys.KeyFault.{KeyFault}
use Rattle.zarr_path.specs.declared.keys.KeyFault.TheVariants as f
use Rattle.zarr_path.specs.declared.keys.ZarrKey.{ZarrKey}
use Rattle.zarr_path.specs.declared.keys.ZarrKey.TheVariants as k
use Rattle.zarr_path.specs.Paths.{is_path}
use Rattle.zarr_path.specs.Indices.{is_index}
use Rattle.zarr_path.specs.Keys.{IsKeyOf, key_of, meta_key, chunk_key, ReadsKey}

-- `key_of` tells exactly whose key a text is
abbrev pub KeyLaw : Type 0
KeyLaw = (key : List ℕ) (found : ZarrKey) → (key_of key ≡ Some found) ↔ IsKeyOf key found

-- this, or want of memory
abbrev pub Gives : ZarrKey → Result ZarrKey KeyFault → Type 0
Gives z result = (result ≡ Ok z) ⊎ (result ≡ Err f.NoMemory)

-- reading what was written gives it back, for every path and every index
abbrev pub RoundTripLaw : Type 0
RoundTripLaw = (path : List ℕ) → IsTrue (is_path path)
    → ((result : Result ZarrKey KeyFault) → ReadsKey (meta_key path) result
    → Gives (k.Meta path) result)
    × ((index : List ℕ) → IsTrue (is_index index)
    → (result : Result ZarrKey KeyFault) → ReadsKey (chunk_key path index) result
    → Gives (k.Chunk path index) result)

-- what has one key is the same
abbrev pub OneKeyLaw : Type 0
OneKeyLaw = (key : List ℕ) (y z : ZarrKey) → IsKeyOf key y → IsKeyOf key z → y ≡ z
