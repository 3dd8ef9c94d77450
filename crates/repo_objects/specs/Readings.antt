-- What the bytes of an object stand for, under the id of its key, or why they stand for nothing.
-- (Icechunk specification version 1, "File Layout"; that a file tells the id of its key, and that
-- the texts of a snapshot's nodes are metadata, is own.)
use Rattle.std.specs.Prelude.{ℕ, ◌+◌, ◌&&◌, ◌==◌, nat_lt, nat_le, if◌then◌else◌, List, [], ◌∷◌}
use Rattle.std.specs.Prelude.{length, take, drop, Option, Some, None, Result, Ok, Err}
use Rattle.std.specs.List.{list_all}
use Rattle.std.specs.Result.{result_ok}
use Rattle.ice_ids.specs.declared.Id12.{Id12}
use Rattle.ice_ids.specs.Text.{same_id12, id12_of_text}
use Rattle.flat_tables.specs.declared.fault.FileFault.{FileFault}
use Rattle.flat_tables.specs.declared.fault.FileFault.TheVariants.{Header}
use Rattle.flat_tables.specs.declared.header.HeaderFault.TheVariants.{Short}
use Rattle.serde_json.specs.Data.{Data}
use Rattle.json_words.specs.Reading.{text_member}
use Rattle.zarr_meta.specs.declared.faults.MetaFault.{MetaFault}
use Rattle.zarr_meta.specs.declared.faults.MetaFault.TheVariants.{NodeType}
use Rattle.zarr_meta.specs.declared.views.MetaView.{MetaView}
use Rattle.zarr_meta.specs.declared.views.MetaView.TheVariants as view
use Rattle.zarr_meta.specs.Meta.{meta_of, json_of}
use Rattle.snapshot_file.specs.declared.nodes.NodeKind.{NodeKind}
use Rattle.snapshot_file.specs.declared.nodes.NodeKind.TheVariants as kind
use Rattle.snapshot_file.specs.declared.nodes.NodeRow.{NodeRow}
use Rattle.snapshot_file.specs.declared.snapshot.SnapshotFile.{SnapshotFile}
use Rattle.snapshot_file.specs.Snapshots.{snapshot_of}
use Rattle.manifest_file.specs.declared.manifest.ManifestFile.{ManifestFile}
use Rattle.manifest_file.specs.Manifests.{manifest_of}
use Rattle.txn_file.specs.declared.log.TxnFile.{TxnFile}
use Rattle.txn_file.specs.Logs.{txn_of}
use Rattle.ref_file.specs.Refs.{member_name}
use Rattle.ref_file.specs.declared.RefFault.TheVariants as ref
use Rattle.repo_objects.specs.declared.bad_objects.Bad.{Bad}
use Rattle.repo_objects.specs.declared.bad_objects.Bad.TheVariants.{File, Ref, WrongId, Node, Chunk}

-- a step, and what follows with its value; the first fault is the answer
infixl 10 ◌>>=◌
abbrev pub ◌>>=◌ : {A B : Type 0} → Result A Bad → (A → Result B Bad) → Result B Bad
(Ok x) >>= next = next x
(Err bad) >>= next = Err bad

-- what a file stands for
abbrev pub in_file : {A : Type 0} → Result A FileFault → Result A Bad
in_file (Ok x) = Ok x
in_file (Err fault) = Err (File fault)

-- a value whose own id is that of its key
abbrev pub under : {A : Type 0} → (key own : Id12) → A → Result A Bad
under key own x = if same_id12 own key then Ok x else Err (WrongId own)

-- ---- snapshots

-- the fault of a row whose text says this: it is no metadata, or says another kind of node
abbrev pub kind_fault : NodeKind → Result MetaView MetaFault → Option MetaFault
kind_fault kind (Err fault) = Some fault
kind_fault kind.Group (Ok view.Group) = None
kind_fault kind.Group (Ok (view.Array array)) = Some NodeType
kind_fault (kind.Array shape names manifests) (Ok view.Group) = Some NodeType
kind_fault (kind.Array shape names manifests) (Ok (view.Array array)) = None

abbrev pub row_fault : NodeRow → Option MetaFault
row_fault row = kind_fault row.kind (meta_of row.user_data)

-- the first row with a fault, where the first one has this number
unfoldable pub first_bad : (at : ℕ) → List NodeRow → Option Bad
first_bad at [] = None
first_bad at (row ∷ rows) = elim (row_fault row) [
  | Some fault ↦ Some (Node at fault)
  | None ↦ first_bad (at + 1) rows
]

abbrev pub unless : {A : Type 0} → Option Bad → A → Result A Bad
unless None x = Ok x
unless (Some bad) x = Err bad

-- own: what isn't a list of bytes is no file
abbrev pub of_bytes : List ℕ → Result (List ℕ) Bad
of_bytes file = if list_all (λ n. nat_lt n 256) file then Ok file else Err (File (Header Short))

unfoldable pub read_snapshot : Id12 → List ℕ → Result SnapshotFile Bad
read_snapshot id file = do
  bytes ← of_bytes file
  s ← in_file (snapshot_of bytes)
  own ← under id s.id s
  unless (first_bad 0 own.nodes) own

-- ---- manifests and logs
unfoldable pub read_manifest : Id12 → List ℕ → Result ManifestFile Bad
read_manifest id file = do
  bytes ← of_bytes file
  manifest ← in_file (manifest_of bytes)
  under id manifest.id manifest

unfoldable pub read_log : Id12 → List ℕ → Result TxnFile Bad
read_log id file = in_file (txn_of file) >>= λ log. under id log.id log

-- ---- chunks

-- the bytes of a chunk in a manifest: as many as a chunk has
abbrev pub read_inline : (want : ℕ) → List ℕ → Result (List ℕ) Bad
read_inline want bytes = if length bytes == want then Ok bytes else Err (Chunk want (length bytes))

-- what an object gives of a part
abbrev pub given : (offset size : ℕ) → List ℕ → List ℕ
given offset size bytes = take size (drop offset bytes)

-- the part of an object that is a chunk: it lies in the object and has as many bytes as a chunk
abbrev pub read_chunk : (want offset size : ℕ) → List ℕ → Result (List ℕ) Bad
read_chunk want offset size bytes =
    if nat_le (offset + size) (length bytes) && size == want then Ok (given offset size bytes)
    else Err (Chunk want (length (given offset size bytes)))

-- ---- references
abbrev pub id_in : Option (List ℕ) → Result Id12 Bad
id_in None = Err (Ref ref.Member)
id_in (Some text) = elim (id12_of_text text) [
  | Ok id ↦ Ok id
  | Err fault ↦ Err (Ref (ref.Id fault))
]

abbrev pub id_of_value : Option Data → Result Id12 Bad
id_of_value None = Err (Ref ref.Json)
id_of_value (Some value) = id_in (text_member member_name value)

-- the snapshot to which bytes refer
unfoldable pub read_ref : List ℕ → Result Id12 Bad
read_ref file = id_of_value (json_of file)

-- ---- what bytes stand for, if they stand for anything
abbrev pub snapshot_by : Id12 → List ℕ → Option SnapshotFile
snapshot_by id file = result_ok (read_snapshot id file)

abbrev pub manifest_by : Id12 → List ℕ → Option ManifestFile
manifest_by id file = result_ok (read_manifest id file)

abbrev pub log_by : Id12 → List ℕ → Option TxnFile
log_by id file = result_ok (read_log id file)

abbrev pub ref_of : List ℕ → Option Id12
ref_of file = result_ok (read_ref file)
