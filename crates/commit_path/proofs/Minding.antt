-- A commit that puts its branch over is its client's own.
use Rattle.std.proofs.Common.{◌≡◌, ◌⊎◌, inl, inr, ℕ, List, sym, ◌∙◌, ap, subst}
use Rattle.std.specs.Prelude.{Some}
use Rattle.std.specs.Option.{option_and_then}
use Rattle.ice_ids.specs.declared.Id12.{Id12}
use Rattle.ice_ids.specs.declared.drawing.AnyIds.{AnyIds}
use Rattle.ice_ids.specs.Text.{IsId12}
use Rattle.manifest_file.specs.declared.manifest.ManifestFile.{ManifestFile}
use Rattle.snapshot_file.specs.declared.snapshot.SnapshotFile.{SnapshotFile}
use Rattle.snapshot_file.specs.declared.nodes.NodeRow.{NodeRow}
use Rattle.ref_file.specs.Refs.{ref_bytes}
use Rattle.zarr_changes.specs.Sets.{changed_arrays}
use Rattle.repo_objects.specs.Trees.{NamesManifest, NamesChunk, manifest_put}
use Rattle.changed_snapshot.specs.Rows.{rows_over}
use Rattle.object_store.specs.declared.keys.Key.TheVariants.{Snapshot, Manifest, Txn, Chunk, Branch, Tag, Tombstone, Lease}
use Rattle.object_store.specs.declared.events.Op.{Op}
use Rattle.object_store.specs.declared.events.Op.TheVariants.{Get, PutNew, PutOver, Remove, RemoveAt, List as ListPart}
use Rattle.object_store.specs.declared.events.Event.{Event}
use Rattle.store_api.specs.Journal.{puts_of, IsOnce}
use Rattle.session.specs.Sessions.{SessionState, base_nodes}
use Rattle.commit_path.specs.Committing.{Written}
use Rattle.commit_path.specs.Owed.{Sessions, IsCareful}
use Rattle.reach.specs.Holding.{HoldsManifest, HoldsChunk}
use Rattle.reach.specs.Own.{PutItself, IsOwn}
use Rattle.commit_path.specs.Own.{OwnsChunks, IsOwnCommit}
use Rattle.commit_path.specs.Answered.{WasLogged, WasSnapped}
use Rattle.commit_path.proofs.Spelling.{Spellings}
use Rattle.commit_path.proofs.Having.{Wrote}
use Rattle.commit_path.proofs.Owing.{Snapped, new-own}

-- where the client put the objects of the session's chunks itself, what is put over a branch is its own commit
abbrev pub OwesCommit : SessionState → ℕ → List Event → Op → List Event → Type 0
OwesCommit s client start (Get key) journal = Unit {0}
OwesCommit s client start (ListPart part) journal = Unit {0}
OwesCommit s client start (PutNew key bytes why) journal = Unit {0}
OwesCommit s client start (PutOver key bytes old why) journal = OwnsChunks client s.held.chunks start journal → IsOwnCommit client bytes start journal
OwesCommit s client start (Remove key why) journal = Unit {0}
OwesCommit s client start (RemoveAt key old why) journal = Unit {0}

-- an operation of a session's commit is careful, and owed so
abbrev pub IsMinded : AnyIds → Sessions → SessionState → List Event → List Event → ℕ → Op → Type 0
IsMinded ids mine s start journal client op = IsCareful ids mine journal client op × OwesCommit s client start op journal

module _ (L : Spellings) (client : ℕ) (s : SessionState) (message : List ℕ) (start : List Event) (x : Written) (id : Id12) (flushed : ℕ) (journal : List Event)
    (k : Wrote s client start (changed_arrays s.held (base_nodes s)) x journal) (p : Snapped s message x.news flushed id journal) where
  abbrev rows : List NodeRow
  rows = rows_over s.held x.news s.rows

  module _ (l : WasLogged client id flushed start journal) (owns : OwnsChunks client s.held.chunks start journal) (once : IsOnce journal) where
    base-holds : (manifest : Id12) → NamesManifest s.rows manifest → HoldsManifest journal s.base manifest
    base-holds manifest n = record { rows = s.rows; are = k.opened.rows once; names = n }

    named-in : (manifest : Id12) → HoldsManifest journal id manifest → NamesManifest (rows_over s.held x.news s.rows) manifest
    named-in manifest h = let same : h.rows ≡ rows_over s.held x.news s.rows = some-same h.rows rows (sym h.are ∙ p.rows once) in subst (λ (r : List NodeRow). NamesManifest r manifest) same h.names
      where
        some-same : (a b : List NodeRow) → Some a ≡ Some b → a ≡ b
        some-same a b e = cc

    holds-manifest : (manifest : Id12) → HoldsManifest journal id manifest → HoldsManifest journal s.base manifest ⊎ PutItself client (Manifest manifest) start journal
    holds-manifest manifest h = elim (L.own s.held x.news s.rows manifest (named-in manifest h)) [
      | inl base ↦ inl (base-holds manifest base)
      | inr new ↦ inr (subst (λ (i : Id12). PutItself client (Manifest i) start journal) new.is (new-own s client start journal (changed_arrays s.held (base_nodes s)) x.news k.lists new.list new.manifest new.among new.has).own)
    ]

    holds-chunk : (object : Id12) → HoldsChunk journal id object → HoldsChunk journal s.base object ⊎ PutItself client (Chunk object) start journal
    holds-chunk object h = elim (L.own s.held x.news s.rows h.manifest (named-in h.manifest h.held)) [
      | inl base ↦ inl (record { manifest = h.manifest; held = base-holds h.manifest base; file = h.file; is = h.is; names = h.names })
      | inr new ↦
          let filled = (new-own s client start journal (changed_arrays s.held (base_nodes s)) x.news k.lists new.list new.manifest new.among new.has).filled once in
          let same : h.file ≡ filled.file = file-same h.file filled.file (sym h.is ∙ (ap (manifest_put (puts_of journal)) (sym new.is) ∙ filled.put)) in
          elim (filled.chunks object (subst (λ (f : ManifestFile). NamesChunk f object) same h.names)) [
            | inl own ↦ inr (owns own.node own.index object own.offset own.size own.entry)
            | inr old ↦ inl (record { manifest = old.manifest; held = base-holds old.manifest old.named; file = old.file; is = old.put; names = old.names })
          ]
    ]
      where
        file-same : (a b : ManifestFile) → Some a ≡ Some b → a ≡ b
        file-same a b e = cc

    is-own : IsOwn client s.base id start journal
    is-own (Txn log) e = inr (subst (λ (i : Id12). PutItself client (Txn i) start journal) (sym e) (record { bytes = l.bytes; put = record { version = l.version; now = flushed; own = l.own } }))
    is-own (Manifest manifest) h = holds-manifest manifest h
    is-own (Chunk object) h = holds-chunk object h
    is-own (Snapshot other) h = absurd h
    is-own (Branch name) h = absurd h
    is-own (Tag name) h = absurd h
    is-own (Tombstone name) h = absurd h
    is-own (Lease lease) h = absurd h

  pub own-commit : IsId12 id → WasLogged client id flushed start journal → WasSnapped client id message flushed start journal → OwnsChunks client s.held.chunks start journal → IsOwnCommit client (ref_bytes id) start journal
  own-commit is_id l n owns = record {
    id = id;
    names = L.reference.written id is_id;
    put = record { bytes = n.bytes; put = record { version = n.version; now = n.now; own = n.own } };
    base = s.base;
    base_put = k.opened.put;
    parent = λ once. ap (option_and_then (λ (f : SnapshotFile). f.parent)) (p.made once);
    own = is-own l owns;
  }
