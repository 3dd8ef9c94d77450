-- What a listing of the directory says (own): keys of the part alone, each
-- once, in the order of listings.
use Rattle.std.specs.Prelude.{◌≡◌, ◌<◌, ℕ, List, Some, slice_get, IfSome, string_bytes}
use Rattle.std.specs.declared.cmp.Ordering.TheVariants.{Less}
use Rattle.object_store.specs.declared.keys.Key.{Key}
use Rattle.object_store.specs.declared.keys.Part.{Part}
use Rattle.object_store.specs.declared.events.Entry.{Entry}
use Rattle.object_store.specs.Machine.{part_of, listing_cmp}
use Rattle.object_files.specs.declared.listing.ListFault.{ListFault}
use Rattle.object_files.specs.Paths.{path_in}

pub record IsListed (part : Part) (entries : List Entry) : Type 0 where
  pub parts : (k : ℕ) (e : Entry) → slice_get entries k ≡ Some e → part_of e.key ≡ part
  pub ascending : (j k : ℕ) (d e : Entry) → j < k → slice_get entries j ≡ Some d
      → slice_get entries k ≡ Some e → listing_cmp d.key e.key ≡ Less

-- the path of an object of the part
abbrev pub IsObjectPath : (root : List ℕ) → Part → List ℕ → Type 0
IsObjectPath root part path = (key : Key) × (part_of key ≡ part) × (path ≡ path_in root key)

-- where a fault of a listing tells a path, it is that of an object of the part
abbrev pub IsFaultIn : (root : List ℕ) → Part → ListFault → Type 0
IsFaultIn root part fault = IfSome fault.path (λ path. IsObjectPath root part (string_bytes path))
