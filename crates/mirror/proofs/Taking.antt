-- What a mirror has still to do behind what it has read and put.
use Rattle.std.proofs.Common.{◌≡◌, ◌⊎◌, ℕ, inl, inr, Bool, true, false, List, [], ◌∷◌, refl, sym, ◌∙◌, ap}
use Rattle.std.specs.Prelude.{Option, Some, None, Result, Ok, Err}
use Rattle.ice_ids.specs.declared.Id12.{Id12}
use Rattle.snapshot_file.specs.declared.snapshot.SnapshotFile.{SnapshotFile}
use Rattle.manifest_file.specs.declared.manifest.ManifestFile.{ManifestFile}
use Rattle.held_manifest.specs.Objects.{objects_of}
use Rattle.repo_objects.specs.declared.bad_objects.Bad.{Bad}
use Rattle.repo_objects.specs.Readings.{read_snapshot}
use Rattle.object_store.specs.declared.keys.Key.{Key}
use Rattle.object_store.specs.declared.keys.Key.TheVariants.{Snapshot, Manifest}
use Rattle.store_api.specs.declared.machines.Refusal.{Refusal}
use Rattle.store_api.specs.declared.machines.Refusal.TheVariants.{NoMemory, Differs}
use Rattle.store_api.specs.Program.{is_no_memory}
use Rattle.repo_read.specs.Answers.{at_key}
use Rattle.mirror_reports.specs.declared.outcome.Mirrored.{Mirrored}
use Rattle.mirror.specs.declared.lines.Link.{Link}
use Rattle.mirror.specs.declared.mirror.Mirror.{Mirror}
use Rattle.mirror.specs.declared.mirror.Object.{Object}
use Rattle.mirror.specs.declared.mirror.Object.TheVariants as object
use Rattle.repo_objects.specs.Lines.{Line, found, enter_ids, enter_rows}
use Rattle.mirror_reports.specs.Told.{file_under}
use Rattle.mirror.specs.Programs.{Work, Answer, refused, on_told, unless_differs, with_manifest, with_snapshot, fill_snapshot, with_copied, copy_line}
use Rattle.mirror.specs.inside.Working.{work_of, behind_line, behind_snapshot, behind_manifest, behind_chunk, behind_object, Entered, Lands, Refuses}
use Rattle.mirror.proofs.Answering.{no-memory-is}

-- ---- what was read
pub log-taken : {A : Type 0} (w : Work) (key : Key) (r : Result A Bad) (p : Answer) → Entered r (λ log. Unit {0}) → p ≡ on_told w (λ log. p) (at_key key r)
log-taken w key (Ok log) p e = refl
log-taken w key (Err bad) p e = absurd e

-- with the objects of a manifest found, and its file held
abbrev filled : Mirror → Id12 → List ℕ → Answer
filled n id bytes = behind_chunk (record n { file = id; manifest = bytes }) (work_of (record n { file = id; manifest = bytes }))

pub manifest-taken : (m n : Mirror) (id : Id12) (bytes : List ℕ) (r : Result ManifestFile Bad) → Entered r (λ f. n ≡ record m { chunks = enter_ids (objects_of f) (found m.chunks.all) }) → filled n id bytes ≡ on_told (work_of m) (with_manifest id bytes (work_of m) (behind_manifest m)) (at_key (Manifest id) r)
manifest-taken m n id bytes (Ok f) e = ap (λ (x : Mirror). filled x id bytes) e
manifest-taken m n id bytes (Err bad) e = absurd e

-- with the manifests of a snapshot found, and its file held
abbrev named : Mirror → List ℕ → Answer
named n file = behind_manifest (record n { snapshot = file }) (work_of (record n { snapshot = file }))

-- what follows the file that is put of a snapshot
abbrev under-file : Mirror → SnapshotFile → Result (List ℕ) Refusal → Answer
under-file m s r = on_told (work_of m) (λ file. fill_snapshot m.link.id file (work_of m) (behind_snapshot m) (enter_rows s.nodes (found m.files.all))) r

abbrev read-so : Mirror → List ℕ → Result SnapshotFile Bad → Answer
read-so m bytes r = on_told (work_of m) (with_snapshot m.link bytes (work_of m) (behind_snapshot m)) (at_key (Snapshot m.link.id) r)

pub snapshot-taken : (m n : Mirror) (bytes file : List ℕ) (r : Result SnapshotFile Bad) → Entered r (λ s. (n ≡ record m { files = enter_rows s.nodes (found m.files.all) }) × (file_under m.link.parent bytes s ≡ Ok file)) → named n file ≡ read-so m bytes r
snapshot-taken m n bytes file (Ok s) e = ap (λ (x : Mirror). named x file) e.0 ∙ sym (ap (under-file m s) e.1)
snapshot-taken m n bytes file (Err bad) e = absurd e

refuses-so : (m : Mirror) (bytes : List ℕ) (reason : Refusal) → Refuses m.link bytes reason → refused (work_of m) reason ≡ read-so m bytes (read_snapshot m.link.id bytes)
refuses-so m bytes reason (inl e) = sym (ap (λ (r : Result SnapshotFile Refusal). on_told (work_of m) (with_snapshot m.link bytes (work_of m) (behind_snapshot m)) r) e)
refuses-so m bytes reason (inr (s, read, e)) = sym (ap (read-so m bytes) read ∙ ap (under-file m s) e)

pub snapshot-refused : (m : Mirror) (bytes : List ℕ) (reason : Refusal) → (is_no_memory reason ≡ false → Refuses m.link bytes reason) → Lands m.register.refs (read-so m bytes (read_snapshot m.link.id bytes)) (refused (work_of m) reason)
snapshot-refused m bytes reason t = by_memory (is_no_memory reason) refl
  where
    by_memory : (b : Bool) → is_no_memory reason ≡ b → Lands m.register.refs (read-so m bytes (read_snapshot m.link.id bytes)) (refused (work_of m) reason)
    by_memory false e = inl (refuses-so m bytes reason (t e))
    by_memory true e = inr (ap (λ (r : Refusal). refused (work_of m) r) (no-memory-is reason e))

-- ---- what was put
pub behind-counted : (o : Object) (m : Mirror) (counts : Mirrored) → behind_object o (record m { counts = counts }) (work_of (record m { counts = counts })) ≡ behind_object o m (record (work_of m) { counts = counts })
behind-counted (object.Chunk id) m counts = refl
behind-counted (object.Manifest id) m counts = refl
behind-counted object.Log m counts = refl
behind-counted object.Snapshot m counts = refl

pub behind-copied : (m : Mirror) (copied : List Id12) → copied ≡ (with_copied m.link.id (work_of m)).snapshots → copy_line m.line (work_of (record m { copied = copied })) (behind_line m) ≡ behind_snapshot m (with_copied m.link.id (work_of m))
behind-copied m copied e = ap (λ (ids : List Id12). copy_line m.line (work_of (record m { copied = ids })) (behind_line m)) e

-- ---- what stands in the target
pub was-fine : (w : Work) (key : Key) (next : Work → Answer) (r : Result Bool Refusal) → r ≡ Ok true → next w ≡ on_told w (unless_differs key w next) r
was-fine w key next r e = rw e refl

pub was-other : (w : Work) (key : Key) (next : Work → Answer) (r : Result Bool Refusal) → r ≡ Ok false → refused w (Differs key) ≡ on_told w (unless_differs key w next) r
was-other w key next r e = rw e refl
