-- Files of a directory as the objects of a store: the version of an object is told by its key and
-- its content, and its time is that of its file's last change.
use Rattle.std.specs.Prelude.{◌≡◌, ◌<◌, ℕ, List, Option, Some, option_map, slice_get}
use Rattle.std.specs.declared.cmp.Ordering.TheVariants.{Less}
use Rattle.folder.specs.Files.{StoredFile}
use Rattle.object_store.specs.declared.keys.Key.{Key}
use Rattle.object_store.specs.declared.keys.Part.{Part}
use Rattle.object_store.specs.declared.events.Entry.{Entry}
use Rattle.object_store.specs.Machine.{Stored, IsEntry, HasEntry, part_of, listing_cmp}
use Rattle.object_files.specs.Versions.{version_for}
use Rattle.object_files.specs.Paths.{IsKey, path_in}

-- the object that a key's file is
abbrev pub object_of : Key → StoredFile → Stored
object_of key file = record {
  bytes = file.bytes;
  version = version_for key file.bytes;
  created = file.changed;
}

-- what stands at a key, of the files of a directory
abbrev pub object_at : (List ℕ → Option StoredFile) → List ℕ → Key → Option Stored
object_at files root key = option_map (object_of key) (files (path_in root key))

-- The entries are those of what stands in the part, each once, in the order of listings.
pub record ListsAll (at : Key → Option Stored) (part : Part) (entries : List Entry) : Type 0 where
  pub right : (k : ℕ) (e : Entry) → slice_get entries k ≡ Some e → IsEntry at part e
  pub whole : (key : Key) (s : Stored) → IsKey key → part_of key ≡ part → at key ≡ Some s
      → HasEntry entries key
  pub ascending : (j k : ℕ) (d e : Entry) → j < k → slice_get entries j ≡ Some d
      → slice_get entries k ≡ Some e → listing_cmp d.key e.key ≡ Less
