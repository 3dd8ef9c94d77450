-- What a snapshot that was put holds stays, where nothing is put again.
use Rattle.std.proofs.Common.{◌≡◌, List, [], ◌++◌, sym, ◌∙◌, ap, subst}
use Rattle.std.specs.Prelude.{Option, Some, None, option_map}
use Rattle.std.specs.Option.{option_and_then}
use Rattle.ice_ids.specs.declared.Id12.{Id12}
use Rattle.snapshot_file.specs.declared.snapshot.SnapshotFile.{SnapshotFile}
use Rattle.snapshot_file.specs.declared.nodes.NodeRow.{NodeRow}
use Rattle.repo_objects.specs.Readings.{manifest_by}
use Rattle.repo_objects.specs.Trees.{NamesManifest, manifest_put}
use Rattle.object_store.specs.declared.keys.Key.{Key}
use Rattle.object_store.specs.declared.keys.Key.TheVariants.{Snapshot, Manifest, Txn, Chunk, Branch, Tag, Tombstone, Lease}
use Rattle.object_store.specs.declared.events.Event.{Event}
use Rattle.object_store.specs.Machine.{last_put}
use Rattle.object_store.proofs.Journals.{Each-back}
use Rattle.store_api.specs.Journal.{Each, WasPut, puts_of, rows_of, snap_in, ManifestsPut, IsFirst, IsOnce, IsGood}
use Rattle.store_api.proofs.Once.{manifests-put}
use Rattle.store_api.proofs.Standing.{manifest-stays, rows-stay}
use Rattle.reach.specs.Holding.{HoldsManifest, Holds}

-- ---- what a snapshot holds that was put
-- the manifests that it names were put
pub named-put : (journal : List Event) (id manifest : Id12) → IsOnce journal → HoldsManifest journal id manifest → WasPut journal (Manifest manifest)
named-put journal id manifest once h = at (snap_in id (last_put journal (Snapshot id))) h.are (manifests-put id journal once)
  where
    at : (o : Option SnapshotFile) → option_map (λ (s : SnapshotFile). s.nodes) o ≡ Some h.rows → ManifestsPut journal o → WasPut journal (Manifest manifest)
    at None e puts = cc
    at (Some s) e puts = let same : h.rows ≡ s.nodes = cc in puts manifest (subst (λ (rows : List NodeRow). NamesManifest rows manifest) same h.names)

module _ (journal more : List Event) (good : Each IsGood journal more) (once : IsOnce (journal ++ more)) where
  before : IsOnce journal
  before = (Each-back IsFirst [] journal more once).0

  firsts : Each IsFirst journal more
  firsts = (Each-back IsFirst [] journal more once).1

  module _ (id : Id12) (put : WasPut journal (Snapshot id)) where
    same-rows : rows_of (journal ++ more) id ≡ rows_of journal id
    same-rows = rows-stay id journal more before put good firsts

    manifest-fore : (manifest : Id12) → HoldsManifest journal id manifest → HoldsManifest (journal ++ more) id manifest
    manifest-fore manifest h = record { rows = h.rows; are = same-rows ∙ h.are; names = h.names }

    manifest-back : (manifest : Id12) → HoldsManifest (journal ++ more) id manifest → HoldsManifest journal id manifest
    manifest-back manifest h = record { rows = h.rows; are = sym same-rows ∙ h.are; names = h.names }

    same-file : (manifest : Id12) → HoldsManifest journal id manifest → manifest_put (puts_of (journal ++ more)) manifest ≡ manifest_put (puts_of journal) manifest
    same-file manifest h = ap (option_and_then (manifest_by manifest)) (manifest-stays journal more manifest (named-put journal id manifest before h) good firsts)

    pub holds-fore : (key : Key) → Holds journal id key → Holds (journal ++ more) id key
    holds-fore (Txn log) h = h
    holds-fore (Manifest manifest) h = manifest-fore manifest h
    holds-fore (Chunk object) h = record { manifest = h.manifest; held = manifest-fore h.manifest h.held; file = h.file; is = same-file h.manifest h.held ∙ h.is; names = h.names }
    holds-fore (Snapshot other) h = h
    holds-fore (Branch name) h = h
    holds-fore (Tag name) h = h
    holds-fore (Tombstone name) h = h
    holds-fore (Lease lease) h = h

    pub holds-back : (key : Key) → Holds (journal ++ more) id key → Holds journal id key
    holds-back (Txn log) h = h
    holds-back (Manifest manifest) h = manifest-back manifest h
    holds-back (Chunk object) h = let held = manifest-back h.manifest h.held in record { manifest = h.manifest; held = held; file = h.file; is = sym (same-file h.manifest held) ∙ h.is; names = h.names }
    holds-back (Snapshot other) h = h
    holds-back (Branch name) h = h
    holds-back (Tag name) h = h
    holds-back (Tombstone name) h = h
    holds-back (Lease lease) h = h
