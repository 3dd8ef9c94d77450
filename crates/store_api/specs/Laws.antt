-- Laws of journals.
use Rattle.std.specs.Prelude.{◌≡◌, ◌≢◌, ◌⊎◌, ℕ, List, [], ◌++◌, Some, option_and_then}
use Rattle.ice_ids.specs.declared.Id12.{Id12}
use Rattle.ice_ids.specs.Text.{initial_id}
use Rattle.repo_objects.specs.Readings.{snapshot_by, manifest_by}
use Rattle.repo_objects.specs.Trees.{Extends}
use Rattle.repo_objects.specs.Laws.{initial_bytes}
use Rattle.object_store.specs.declared.keys.Key.{Key}
use Rattle.object_store.specs.declared.keys.Key.TheVariants.{Snapshot, Manifest, Txn, Chunk}
use Rattle.object_store.specs.declared.keys.Key.TheVariants.{Branch, Tag, Tombstone, Lease}
use Rattle.object_store.specs.declared.events.Op.{Op}
use Rattle.object_store.specs.declared.events.Op.TheVariants.{Get, PutNew, PutOver, Remove}
use Rattle.object_store.specs.declared.events.Op.TheVariants.{RemoveAt, List as ListPart}
use Rattle.object_store.specs.declared.events.Event.{Event}
use Rattle.object_store.specs.Machine.{Stored, found, first_put}
use Rattle.store_api.specs.Journal.{Each, IsGood, IsFirst, IsFirstOp, IsOnce, IsUnused}
use Rattle.store_api.specs.Journal.{IsPolite, WasPut, StoodAt, NamesPut, ParentPut, ManifestsPut}
use Rattle.store_api.specs.Journal.{ChunksPut, puts_of, tree_of, rows_of, snap_made}

-- Standing trees: where a legal polite journal in which nothing is put again goes on so, each
-- snapshot that was put keeps its tree, or keeps having none.
abbrev pub TreesLaw : Type 0
TreesLaw =
    (id : Id12) (journal more : List Event) → IsOnce journal
    → WasPut journal (Snapshot id) → Each IsGood journal more → Each IsFirst journal more
    → tree_of (journal ++ more) id ≡ tree_of journal id

-- and it keeps its rows
abbrev pub RowsLaw : Type 0
RowsLaw =
    (id : Id12) (journal more : List Event) → IsOnce journal
    → WasPut journal (Snapshot id) → Each IsGood journal more → Each IsFirst journal more
    → rows_of (journal ++ more) id ≡ rows_of journal id

-- and what was put of manifests and of objects with chunks stays put and readable
abbrev pub PutsLaw : Type 0
PutsLaw =
    (journal more : List Event) → IsOnce journal → Each IsGood journal more
    → Each IsFirst journal more → Extends (puts_of journal) (puts_of (journal ++ more))

-- What is polite stays polite, whatever good events come.
abbrev pub PoliteLaw : Type 0
PoliteLaw =
    (journal more : List Event) (op : Op) → Each IsGood journal more → IsPolite journal op
    → IsPolite (journal ++ more) op

-- Each ref and each lease names a snapshot that was put; of each snapshot that was put, its log was
-- put (the initial one needs none), and so were the parent that it named when it was first put, and
-- the manifests that any put of it named; and of each manifest that was put the objects in which it
-- has chunks, and so of each that any put of one named.
pub record AllNamed (journal : List Event) : Type 0 where
  pub branches : (name : List ℕ) (s : Stored) → found journal (Branch name) ≡ Some s
      → NamesPut journal s.bytes
  pub tags : (name : List ℕ) (s : Stored) → found journal (Tag name) ≡ Some s
      → NamesPut journal s.bytes
  pub leases : (id : Id12) (s : Stored) → found journal (Lease id) ≡ Some s
      → NamesPut journal s.bytes
  pub logs : (id : Id12) → WasPut journal (Snapshot id)
      → (id ≡ initial_id) ⊎ WasPut journal (Txn id)
  pub parents : (id : Id12) → ParentPut journal (snap_made journal id)
  pub manifests : (id : Id12) → ManifestsPut journal (snap_made journal id)
  pub standing : (id : Id12) (version : ℕ) (bytes : List ℕ)
      → StoodAt journal (Snapshot id) version bytes → ManifestsPut journal (snapshot_by id bytes)
  pub chunks : (id : Id12)
      → ChunksPut journal (option_and_then (manifest_by id) (first_put journal (Manifest id)))
  pub standing_manifests : (id : Id12) (version : ℕ) (bytes : List ℕ)
      → StoodAt journal (Manifest id) version bytes → ChunksPut journal (manifest_by id bytes)

abbrev pub NamesLaw : Type 0
NamesLaw = (journal : List Event) → Each IsGood [] journal → AllNamed journal

-- ---- what is put once
abbrev pub NewOnce : List Event → List ℕ → Key → Type 0
NewOnce journal bytes (Snapshot id) =
    (id ≡ initial_id → bytes ≡ initial_bytes) × (id ≢ initial_id → IsUnused journal (Snapshot id))
NewOnce journal bytes (Manifest id) = IsUnused journal (Manifest id)
NewOnce journal bytes (Txn id) = IsUnused journal (Txn id)
NewOnce journal bytes (Chunk id) = IsUnused journal (Chunk id)
NewOnce journal bytes (Branch name) = Unit {0}
NewOnce journal bytes (Tag name) = Unit {0}
NewOnce journal bytes (Tombstone name) = Unit {0}
NewOnce journal bytes (Lease id) = Unit {0}

-- the operation puts no removed object again, and the initial snapshot with its own bytes alone
abbrev pub PutsOnce : List Event → Op → Type 0
PutsOnce journal (PutNew key bytes why) = NewOnce journal bytes key
PutsOnce journal (Get key) = Unit {0}
PutsOnce journal (PutOver key bytes old why) = Unit {0}
PutsOnce journal (Remove key why) = Unit {0}
PutsOnce journal (RemoveAt key old why) = Unit {0}
PutsOnce journal (ListPart part) = Unit {0}

-- A polite operation that puts nothing again is one of a journal in which nothing is put
-- again: what its bytes name was put.
abbrev pub FirstLaw : Type 0
FirstLaw =
    (journal : List Event) (op : Op) → IsOnce journal → IsPolite journal op → PutsOnce journal op
    → IsFirstOp journal op
