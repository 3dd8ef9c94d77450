-- What an expiry makes of a ref, by the history of its snapshots. (Icechunk's manual,
-- "Expiring snapshots"; that a ref is dropped where the snapshot that it names is older, and
-- that `main` never is, is own.)
use Rattle.std.specs.Prelude.{ℕ, nat_lt, Bool, false, ◌&&◌, not, if◌then◌else◌, List, [], ◌∷◌, Some}
use Rattle.ice_base.specs.Names.{main_name, same_name}
use Rattle.ice_ids.specs.Text.{initial_id}
use Rattle.snapshot_file.specs.declared.snapshot.SnapshotFile.{SnapshotFile}
use Rattle.object_store.specs.declared.keys.Key.{Key}
use Rattle.object_store.specs.declared.keys.Key.TheVariants.{Snapshot, Manifest, Txn, Chunk}
use Rattle.object_store.specs.declared.keys.Key.TheVariants.{Branch, Tag, Tombstone, Lease}
use Rattle.expiry.specs.declared.terms.Terms.{Terms}

-- its history stays as it is; or it is to end at this snapshot; or the ref is to be dropped
pub data Verdict : Type 0 where
  ToKeep : Verdict
  ToCut : SnapshotFile → Verdict
  ToDrop : Verdict

-- flushed before the cutoff
abbrev pub is_older : (cutoff : ℕ) → SnapshotFile → Bool
is_older cutoff s = nat_lt s.flushed_at cutoff

-- It is to end at the last snapshot before the first one below that is older.
abbrev pub cut_of : (cutoff : ℕ) → (last : SnapshotFile) → (below : List SnapshotFile) → Verdict
cut_of cutoff last [] = ToKeep
cut_of cutoff last (s ∷ ss) = if is_older cutoff s then ToCut last else cut_of cutoff s ss

-- A ref is dropped where it may be and the snapshot that it names is older; otherwise its history
-- is cut, if one below is older.
abbrev pub expiry_of : (cutoff : ℕ) → (drops : Bool) → (head : SnapshotFile)
    → (below : List SnapshotFile) → Verdict
expiry_of cutoff drops head below =
    if drops && is_older cutoff head then ToDrop else cut_of cutoff head below

-- whether this ref may be dropped; the branch `main` never
abbrev pub may_drop : Terms → Key → Bool
may_drop t (Branch name) = t.drop_branches && not (same_name name main_name)
may_drop t (Tag name) = t.drop_tags
may_drop t (Snapshot id) = false
may_drop t (Manifest id) = false
may_drop t (Txn id) = false
may_drop t (Chunk id) = false
may_drop t (Tombstone name) = false
may_drop t (Lease id) = false

-- a snapshot whose history ends there: it follows the initial one, and all else stays
abbrev pub cut_file : SnapshotFile → SnapshotFile
cut_file s = record s { parent = Some initial_id }
