-- What a fine reply of the store tells of what stood.
use Rattle.std.proofs.Common.{◌≡◌, ◌⊎◌, inl, inr, ℕ, true, List, length, refl, sym, ◌∙◌, ap, subst}
use Rattle.std.specs.Prelude.{Option, Some, None, Result, Ok, Err}
use Rattle.ice_ids.specs.declared.Id12.{Id12}
use Rattle.snapshot_file.specs.declared.snapshot.SnapshotFile.{SnapshotFile}
use Rattle.manifest_file.specs.declared.manifest.ManifestFile.{ManifestFile}
use Rattle.txn_file.specs.declared.log.TxnFile.{TxnFile}
use Rattle.repo_objects.specs.declared.bad_objects.Bad.{Bad}
use Rattle.repo_objects.specs.Readings.{read_snapshot, read_manifest, read_log, read_chunk, read_ref}
use Rattle.object_store.specs.declared.keys.Key.{Key}
use Rattle.object_store.specs.declared.keys.Part.{Part as Part_of_store}
use Rattle.object_store.specs.declared.events.Op.{Op}
use Rattle.object_store.specs.declared.events.Op.TheVariants.{Get, List as ListPart}
use Rattle.object_store.specs.declared.events.Entry.{Entry}
use Rattle.object_store.specs.declared.events.Reply.{Reply}
use Rattle.object_store.specs.declared.events.Reply.TheVariants.{Got as Is_got, New as Is_new, Over as Is_over, Gone as Is_gone, GoneAt as Is_gone_at, Listed as Is_listed, Failed}
use Rattle.object_store.specs.declared.events.Event.{Event}
use Rattle.object_store.specs.Machine.{Stored, found, got_of, IsHonest, IsListing, UnlessFailed}
use Rattle.store_api.specs.Journal.{IsGood}
use Rattle.store_api.specs.Callers.{has_failed}
use Rattle.intact.specs.declared.visits.FileVisit.{FileVisit}
use Rattle.intact.specs.declared.visits.PartVisit.{PartVisit}
use Rattle.intact.specs.Rows.{first_unwell}
use Rattle.intact.specs.Parts.{entries_of, first_short}
use Rattle.intact.specs.Told.{found_ref, found_snapshot, found_log, found_manifest, found_part, some_ref, well, unless_unwell, any_log, long, unless_short, any_part}
use Rattle.intact.specs.Visits.{Visit, Refs, Ref, Snap, Log, File, Part, told, leading, nowhere, behind_ref, behind_snapshot, behind_manifest}

ok-same : {A E : Type 0} (a b : A) → ◌≡◌ {A = Result A E} (Ok a) (Ok b) → a ≡ b
ok-same a b e = cc

-- ---- honest answers
honest : (journal : List Event) (event : Event) (op : Op) (reply : Reply) → IsGood journal event → event.op ≡ op → event.reply ≡ reply → UnlessFailed (IsHonest (found journal) (length journal) event.time op) reply
honest journal event op reply good o r =
    subst (λ (x : Reply). UnlessFailed (IsHonest (found journal) (length journal) event.time op) x) r
    (subst (λ (x : Op). UnlessFailed (IsHonest (found journal) (length journal) event.time x) event.reply) o good.legal.answered)

-- it failed, or answers what stands
pub got-honest : (journal : List Event) (event : Event) (key : Key) (reply : Reply) → IsGood journal event → event.op ≡ Get key → event.reply ≡ reply → (has_failed reply ≡ true) ⊎ (reply ≡ Is_got (got_of event.time (found journal key)))
got-honest journal event key reply good o r = by reply (honest journal event (Get key) reply good o r)
  where
    by : (x : Reply) → UnlessFailed (IsHonest (found journal) (length journal) event.time (Get key)) x → (has_failed x ≡ true) ⊎ (x ≡ Is_got (got_of event.time (found journal key)))
    by (Failed done) h = inl refl
    by (Is_got g) h = inr h
    by (Is_new g) h = inr h
    by (Is_over g) h = inr h
    by (Is_gone g) h = inr h
    by (Is_gone_at g) h = inr h
    by (Is_listed l) h = inr h

-- it failed, or lists what stands
pub record ListsAll (journal : List Event) (part : Part_of_store) (reply : Reply) : Type 0 where
  pub entries : List Entry
  pub now : ℕ
  pub is : reply ≡ Is_listed (record { entries = entries; now = now })
  pub listing : IsListing (found journal) part entries

pub list-honest : (journal : List Event) (event : Event) (part : Part_of_store) (reply : Reply) → IsGood journal event → event.op ≡ ListPart part → event.reply ≡ reply → (has_failed reply ≡ true) ⊎ ListsAll journal part reply
list-honest journal event part reply good o r = by reply (honest journal event (ListPart part) reply good o r)
  where
    by : (x : Reply) → UnlessFailed (IsHonest (found journal) (length journal) event.time (ListPart part)) x → (has_failed x ≡ true) ⊎ ListsAll journal part x
    by (Failed done) h = inl refl
    by (Is_got g) h = inr (record { entries = h.0; now = event.time; is = h.1; listing = h.2 })
    by (Is_new g) h = inr (record { entries = h.0; now = event.time; is = h.1; listing = h.2 })
    by (Is_over g) h = inr (record { entries = h.0; now = event.time; is = h.1; listing = h.2 })
    by (Is_gone g) h = inr (record { entries = h.0; now = event.time; is = h.1; listing = h.2 })
    by (Is_gone_at g) h = inr (record { entries = h.0; now = event.time; is = h.1; listing = h.2 })
    by (Is_listed l) h = inr (record { entries = h.0; now = event.time; is = h.1; listing = h.2 })

-- what failed is never fine
pub failed-unfine : (v : Visit) (reply : Reply) (next : List Visit) → has_failed reply ≡ true → told v reply ≡ Ok next → ⊥
failed-unfine (Refs part) (Failed done) next f h = cc
failed-unfine (Ref key) (Failed done) next f h = cc
failed-unfine (Snap id) (Failed done) next f h = cc
failed-unfine (Log id) (Failed done) next f h = cc
failed-unfine (File x) (Failed done) next f h = cc
failed-unfine (Part p) (Failed done) next f h = cc
failed-unfine v (Is_got g) next f h = absurd cc
failed-unfine v (Is_new g) next f h = absurd cc
failed-unfine v (Is_over g) next f h = absurd cc
failed-unfine v (Is_gone g) next f h = absurd cc
failed-unfine v (Is_gone_at g) next f h = absurd cc
failed-unfine v (Is_listed l) next f h = absurd cc

-- ---- a ref
pub record RefAt (bytes : List ℕ) (next : List Visit) : Type 0 where
  pub id : Id12
  pub read : read_ref bytes ≡ Ok id
  pub leads : next ≡ behind_ref (Some id)

pub ref-at : (now : ℕ) (s : Stored) (next : List Visit) → leading behind_ref (found_ref (got_of now (Some s))) ≡ Ok next → RefAt s.bytes next
ref-at now s next h = by (read_ref s.bytes) refl h
  where
    by : (r : Result Id12 Bad) → read_ref s.bytes ≡ r → leading behind_ref (some_ref r) ≡ Ok next → RefAt s.bytes next
    by (Ok id) e k = record { id = id; read = e; leads = sym (ok-same (behind_ref (Some id)) next k) }
    by (Err bad) e k = absurd cc

-- ---- a snapshot
pub record SnapAt (now : ℕ) (at : Option Stored) (id : Id12) (next : List Visit) : Type 0 where
  pub stored : Stored
  pub stands : at ≡ Some stored
  pub snap : SnapshotFile
  pub read : read_snapshot id stored.bytes ≡ Ok snap
  pub no_unwell : first_unwell snap.nodes ≡ None
  pub told_is : found_snapshot id (got_of now at) ≡ Ok snap
  pub leads : next ≡ behind_snapshot id snap

pub snap-at : (id : Id12) (now : ℕ) (at : Option Stored) (next : List Visit) → leading (behind_snapshot id) (found_snapshot id (got_of now at)) ≡ Ok next → SnapAt now at id next
snap-at id now None next h = absurd cc
snap-at id now (Some s) next h = by (read_snapshot id s.bytes) refl h
  where
    by_row : (snap : SnapshotFile) → read_snapshot id s.bytes ≡ Ok snap → (o : Option ℕ) → first_unwell snap.nodes ≡ o → leading (behind_snapshot id) (unless_unwell o snap) ≡ Ok next → SnapAt now (Some s) id next
    by_row snap e None w k = record { stored = s; stands = refl; snap = snap; read = e; no_unwell = w; told_is = ap well e ∙ ap (λ (o : Option ℕ). unless_unwell o snap) w; leads = sym (ok-same (behind_snapshot id snap) next k) }
    by_row snap e (Some at) w k = absurd cc

    by : (r : Result SnapshotFile Bad) → read_snapshot id s.bytes ≡ r → leading (behind_snapshot id) (well r) ≡ Ok next → SnapAt now (Some s) id next
    by (Ok snap) e k = by_row snap e (first_unwell snap.nodes) refl k
    by (Err bad) e k = absurd cc

-- ---- a log
pub record LogAt (at : Option Stored) (id : Id12) : Type 0 where
  pub stored : Stored
  pub stands : at ≡ Some stored
  pub log : TxnFile
  pub read : read_log id stored.bytes ≡ Ok log

pub log-at : (id : Id12) (now : ℕ) (at : Option Stored) (next : List Visit) → leading nowhere (found_log id (got_of now at)) ≡ Ok next → LogAt at id
log-at id now None next h = absurd cc
log-at id now (Some s) next h = by (read_log id s.bytes) refl h
  where
    by : (r : Result TxnFile Bad) → read_log id s.bytes ≡ r → leading nowhere (any_log r) ≡ Ok next → LogAt (Some s) id
    by (Ok log) e k = record { stored = s; stands = refl; log = log; read = e }
    by (Err bad) e k = absurd cc

-- ---- a manifest
pub record FileAt (now : ℕ) (at : Option Stored) (f : FileVisit) (next : List Visit) : Type 0 where
  pub stored : Stored
  pub stands : at ≡ Some stored
  pub file : ManifestFile
  pub read : read_manifest f.manifest stored.bytes ≡ Ok file
  pub no_short : first_short f.want (entries_of f.node file) ≡ None
  pub told_is : found_manifest f (got_of now at) ≡ Ok file
  pub leads : next ≡ behind_manifest f file

pub file-at : (f : FileVisit) (now : ℕ) (at : Option Stored) (next : List Visit) → leading (behind_manifest f) (found_manifest f (got_of now at)) ≡ Ok next → FileAt now at f next
file-at f now None next h = absurd cc
file-at f now (Some s) next h = by (read_manifest f.manifest s.bytes) refl h
  where
    by_entry : (file : ManifestFile) → read_manifest f.manifest s.bytes ≡ Ok file → (o : Option Bad) → first_short f.want (entries_of f.node file) ≡ o → leading (behind_manifest f) (unless_short o file) ≡ Ok next → FileAt now (Some s) f next
    by_entry file e None l k = record { stored = s; stands = refl; file = file; read = e; no_short = l; told_is = ap (long f) e ∙ ap (λ (o : Option Bad). unless_short o file) l; leads = sym (ok-same (behind_manifest f file) next k) }
    by_entry file e (Some bad) l k = absurd cc

    by : (r : Result ManifestFile Bad) → read_manifest f.manifest s.bytes ≡ r → leading (behind_manifest f) (long f r) ≡ Ok next → FileAt now (Some s) f next
    by (Ok file) e k = by_entry file e (first_short f.want (entries_of f.node file)) refl k
    by (Err bad) e k = absurd cc

-- ---- a part of an object
pub record PartAt (at : Option Stored) (p : PartVisit) : Type 0 where
  pub stored : Stored
  pub stands : at ≡ Some stored
  pub bytes : List ℕ
  pub read : read_chunk p.want p.offset p.size stored.bytes ≡ Ok bytes

pub part-at : (p : PartVisit) (now : ℕ) (at : Option Stored) (next : List Visit) → leading nowhere (found_part p (got_of now at)) ≡ Ok next → PartAt at p
part-at p now None next h = absurd cc
part-at p now (Some s) next h = by (read_chunk p.want p.offset p.size s.bytes) refl h
  where
    by : (r : Result (List ℕ) Bad) → read_chunk p.want p.offset p.size s.bytes ≡ r → leading nowhere (any_part r) ≡ Ok next → PartAt (Some s) p
    by (Ok bytes) e k = record { stored = s; stands = refl; bytes = bytes; read = e }
    by (Err bad) e k = absurd cc
