-- A mirror tells a failure of a store there alone where that store's operation failed.
use Rattle.std.proofs.Common.{◌≡◌, ◌⊎◌, ℕ, zero, suc, inl, inr, Bool, true, false, List, [], ◌∷◌, refl, sym, ◌∙◌, ap, subst}
use Rattle.std.specs.Prelude.{nat_lt, bytes_eq, if◌then◌else◌, length, Option, Some, None, Result, Ok, Err}
use Rattle.flat_tables.specs.declared.header.Kind.TheVariants as kinds
use Rattle.flat_tables.specs.File.{file_limit}
use Rattle.ice_ids.specs.declared.Id12.{Id12}
use Rattle.ice_ids.specs.Text.{same_id12, initial_id}
use Rattle.ice_ids.specs.Sets.{has_object}
use Rattle.snapshot_file.specs.declared.snapshot.SnapshotFile.{SnapshotFile}
use Rattle.snapshot_file.specs.Layout.{snapshot_bytes}
use Rattle.manifest_file.specs.declared.manifest.ManifestFile.{ManifestFile}
use Rattle.held_manifest.specs.Objects.{objects_of}
use Rattle.ref_file.specs.Refs.{ref_bytes}
use Rattle.repo_objects.specs.declared.bad_objects.Bad.{Bad}
use Rattle.repo_objects.specs.Readings.{read_snapshot, read_manifest, read_log, read_ref, snapshot_by}
use Rattle.object_store.specs.declared.keys.Key.{Key}
use Rattle.object_store.specs.declared.keys.Key.TheVariants.{Snapshot, Manifest, Txn, Chunk, Branch, Tag, Tombstone, Lease}
use Rattle.object_store.specs.declared.keys.Part.{Part}
use Rattle.object_store.specs.declared.keys.Part.TheVariants as part
use Rattle.object_store.specs.declared.keys.Why.{Why}
use Rattle.object_store.specs.declared.keys.Why.TheVariants as why
use Rattle.object_store.specs.declared.events.Version.{Version}
use Rattle.object_store.specs.declared.events.Op.{Op}
use Rattle.object_store.specs.declared.events.Op.TheVariants.{Get, PutNew, PutOver, List as ListPart}
use Rattle.object_store.specs.declared.events.Got.TheVariants.{Found, Absent}
use Rattle.object_store.specs.declared.events.New.TheVariants.{Done as New_done, Present}
use Rattle.object_store.specs.declared.events.Over.TheVariants.{Done as Over_done, Moved as Over_moved}
use Rattle.object_store.specs.declared.events.Reply.{Reply}
use Rattle.object_store.specs.declared.events.Reply.TheVariants as R
use Rattle.store_api.specs.declared.machines.Refusal.{Refusal}
use Rattle.store_api.specs.declared.machines.Refusal.TheVariants.{Missing, BadFile, TooDeep, TooLarge, StoreFault, TargetFault, NoMemory, Differs, RefExists, Moved as Has_moved}
use Rattle.store_api.specs.Callers.{Fits, has_failed}
use Rattle.repo_read.specs.declared.answers.Resolved.{Resolved}
use Rattle.repo_read.specs.Answers.{at_key, snapshot_told, resolved_at}
use Rattle.repo_read.specs.Chains.{most_snapshots}
use Rattle.live_refs.specs.Live.{live}
use Rattle.two_stores.specs.declared.side.Side.{Side}
use Rattle.two_stores.specs.declared.side.Side.TheVariants.{From, To}
use Rattle.two_stores.specs.Pairs.{PairProg, Done, IsFair, dooms}
use Rattle.mirror_reports.specs.declared.outcome.RefId.{RefId}
use Rattle.mirror_reports.specs.declared.outcome.Mirrored.{Mirrored}
use Rattle.mirror_reports.specs.declared.outcome.MirrorEnd.{MirrorEnd}
use Rattle.mirror.specs.declared.lines.Link.{Link}
use Rattle.repo_objects.specs.Lines.{Line, found, enter_ids, enter_rows}
use Rattle.mirror_reports.specs.Told.{key_of, fault_of, listed_told, bytes_told, if_there, ref_told, buried_told, put_told, made_told, moved_told, same_parent, file_of, file_under, if_equal, same_but_parent, is_fine}
use Rattle.mirror.specs.Programs.{Work, Answer, no_work, ends, refused, on_told, asks, with_put, cause_of, fits_there, unless_differs, compare, put_behind, put_object, take_object, copy_chunks, with_chunks, with_manifest, copy_manifest, copy_manifests, copy_log, with_copied, put_snapshot, with_manifests, fill_snapshot, with_snapshot, copy_snapshot, copy_line, down, down_onto, down_behind, with_ref, make_ref, move_ref, unless_buried, see_tag, see_branch, see_ref, point, behind_ref, copy_ref, copy_refs, ref_ids, copy_part, finish, copy_tags, mirror_program}
use Rattle.mirror.proofs.Parts.{log-behind, down-onto}
use Rattle.mirror.specs.Laws.{blames_side, is_target_fault, tells_fault}

-- ---- refusals
err-is : {A : Type 0} (a b : Refusal) → ◌≡◌ {A = Result A Refusal} (Err a) (Err b) → a ≡ b
err-is a b e = cc

-- a refusal that tells no failure
abbrev Quiet : Refusal → Type 0
Quiet reason = (side : Side) → blames_side side reason ≡ false

quiet-missing : (key : Key) → Quiet (Missing key)
quiet-missing key From = refl
quiet-missing key To = refl

quiet-bad : (key : Key) (bad : Bad) → Quiet (BadFile key bad)
quiet-bad key bad From = refl
quiet-bad key bad To = refl

quiet-deep : Quiet TooDeep
quiet-deep From = refl
quiet-deep To = refl

quiet-large : Quiet (TooLarge kinds.Snapshot)
quiet-large From = refl
quiet-large To = refl

quiet-memory : Quiet NoMemory
quiet-memory From = refl
quiet-memory To = refl

quiet-differs : (key : Key) → Quiet (Differs key)
quiet-differs key From = refl
quiet-differs key To = refl

quiet-exists : (version : Version) → Quiet (RefExists version)
quiet-exists version From = refl
quiet-exists version To = refl

quiet-moved : (there : Option Version) → Quiet (Has_moved there)
quiet-moved there From = refl
quiet-moved there To = refl

never : (b : Bool) → b ≡ false → b ≡ true → ⊥
never true e f = absurd (cc)
never false e f = absurd (cc)

quiet-err : {A : Type 0} (a reason : Refusal) (side : Side) → ◌≡◌ {A = Result A Refusal} (Err a) (Err reason) → Quiet a → blames_side side reason ≡ true → ⊥
quiet-err a reason side e q d = never (blames_side side a) (q side) (ap (blames_side side) (err-is a reason e) ∙ d)

ok-err : {A : Type 0} (x : A) (reason : Refusal) → ◌≡◌ {A = Result A Refusal} (Ok x) (Err reason) → ⊥
ok-err x reason e = cc

-- a side's failure is told of that side alone
fault-side : (side other : Side) → blames_side other (fault_of side) ≡ true → other ≡ side
fault-side From From d = refl
fault-side From To d = absurd (cc)
fault-side To From d = absurd (cc)
fault-side To To d = refl

failed-side : {A : Type 0} (side other : Side) (reason : Refusal) → ◌≡◌ {A = Result A Refusal} (Err (fault_of side)) (Err reason) → blames_side other reason ≡ true → other ≡ side
failed-side side other reason e d = fault-side side other (ap (blames_side other) (err-is (fault_of side) reason e) ∙ d)

-- ---- what replies tell
-- a failure is told by this of a failed operation of this side alone
abbrev FairTold : {A : Type 0} → Side → Op → (Reply → Result A Refusal) → Type 0
FairTold side op told = (reply : Reply) (reason : Refusal) → Fits op reply → told reply ≡ Err reason → (other : Side) → blames_side other reason ≡ true → (other ≡ side) × (has_failed reply ≡ true)

fair-bytes : (side : Side) (key : Key) → FairTold side (Get key) (bytes_told side key)
fair-bytes side key (R.Got (Found bytes version now)) reason f e other d = absurd (ok-err bytes reason e)
fair-bytes side key (R.Got (Absent now)) reason f e other d = absurd (quiet-err (Missing key) reason other e (quiet-missing key) d)
fair-bytes side key (R.Failed x) reason f e other d = (failed-side side other reason e d, refl)
fair-bytes side key (R.New x) reason f e other d = absurd f
fair-bytes side key (R.Over x) reason f e other d = absurd f
fair-bytes side key (R.Gone x) reason f e other d = absurd f
fair-bytes side key (R.GoneAt x) reason f e other d = absurd f
fair-bytes side key (R.Listed x) reason f e other d = absurd f

there-quiet : (key : Key) (version : Version) (r : Result Id12 Bad) (reason : Refusal) (side : Side) → if_there (resolved_at version (at_key key r)) ≡ Err reason → blames_side side reason ≡ true → ⊥
there-quiet key version (Ok id) reason side e d = ok-err (Some (record { id = id; version = version })) reason e
there-quiet key version (Err bad) reason side e d = quiet-err (BadFile key bad) reason side e (quiet-bad key bad) d

fair-ref : (side : Side) (key : Key) → FairTold side (Get key) (ref_told side key)
fair-ref side key (R.Got (Found bytes version now)) reason f e other d = absurd (there-quiet key version (read_ref bytes) reason other e d)
fair-ref side key (R.Got (Absent now)) reason f e other d = absurd (ok-err None reason e)
fair-ref side key (R.Failed x) reason f e other d = (failed-side side other reason e d, refl)
fair-ref side key (R.New x) reason f e other d = absurd f
fair-ref side key (R.Over x) reason f e other d = absurd f
fair-ref side key (R.Gone x) reason f e other d = absurd f
fair-ref side key (R.GoneAt x) reason f e other d = absurd f
fair-ref side key (R.Listed x) reason f e other d = absurd f

key-quiet : {A : Type 0} (key : Key) (r : Result A Bad) (reason : Refusal) (side : Side) → at_key key r ≡ Err reason → blames_side side reason ≡ true → ⊥
key-quiet key (Ok x) reason side e d = ok-err x reason e
key-quiet key (Err bad) reason side e d = quiet-err (BadFile key bad) reason side e (quiet-bad key bad) d

fair-snapshot : (id : Id12) → FairTold From (Get (Snapshot id)) (snapshot_told id)
fair-snapshot id (R.Got (Found bytes version now)) reason f e other d = absurd (key-quiet (Snapshot id) (read_snapshot id bytes) reason other e d)
fair-snapshot id (R.Got (Absent now)) reason f e other d = absurd (quiet-err (Missing (Snapshot id)) reason other e (quiet-missing (Snapshot id)) d)
fair-snapshot id (R.Failed x) reason f e other d = (failed-side From other reason e d, refl)
fair-snapshot id (R.New x) reason f e other d = absurd f
fair-snapshot id (R.Over x) reason f e other d = absurd f
fair-snapshot id (R.Gone x) reason f e other d = absurd f
fair-snapshot id (R.GoneAt x) reason f e other d = absurd f
fair-snapshot id (R.Listed x) reason f e other d = absurd f

fair-buried : (key : Key) → FairTold To (Get key) buried_told
fair-buried key (R.Got (Found bytes version now)) reason f e other d = absurd (ok-err true reason e)
fair-buried key (R.Got (Absent now)) reason f e other d = absurd (ok-err false reason e)
fair-buried key (R.Failed x) reason f e other d = (failed-side To other reason e d, refl)
fair-buried key (R.New x) reason f e other d = absurd f
fair-buried key (R.Over x) reason f e other d = absurd f
fair-buried key (R.Gone x) reason f e other d = absurd f
fair-buried key (R.GoneAt x) reason f e other d = absurd f
fair-buried key (R.Listed x) reason f e other d = absurd f

fair-listed : (p : Part) → FairTold From (ListPart p) listed_told
fair-listed p (R.Listed x) reason f e other d = absurd (ok-err x reason e)
fair-listed p (R.Failed x) reason f e other d = (failed-side From other reason e d, refl)
fair-listed p (R.Got x) reason f e other d = absurd f
fair-listed p (R.New x) reason f e other d = absurd f
fair-listed p (R.Over x) reason f e other d = absurd f
fair-listed p (R.Gone x) reason f e other d = absurd f
fair-listed p (R.GoneAt x) reason f e other d = absurd f

fair-put : (key : Key) (bytes : List ℕ) (w : Why) → FairTold To (PutNew key bytes w) put_told
fair-put key bytes w (R.New (New_done version now)) reason f e other d = absurd (ok-err true reason e)
fair-put key bytes w (R.New (Present version now)) reason f e other d = absurd (ok-err false reason e)
fair-put key bytes w (R.Failed x) reason f e other d = (failed-side To other reason e d, refl)
fair-put key bytes w (R.Got x) reason f e other d = absurd f
fair-put key bytes w (R.Over x) reason f e other d = absurd f
fair-put key bytes w (R.Gone x) reason f e other d = absurd f
fair-put key bytes w (R.GoneAt x) reason f e other d = absurd f
fair-put key bytes w (R.Listed x) reason f e other d = absurd f

fair-made : (key : Key) (bytes : List ℕ) (w : Why) → FairTold To (PutNew key bytes w) made_told
fair-made key bytes w (R.New (New_done version now)) reason f e other d = absurd (ok-err tt reason e)
fair-made key bytes w (R.New (Present version now)) reason f e other d = absurd (quiet-err (RefExists version) reason other e (quiet-exists version) d)
fair-made key bytes w (R.Failed x) reason f e other d = (failed-side To other reason e d, refl)
fair-made key bytes w (R.Got x) reason f e other d = absurd f
fair-made key bytes w (R.Over x) reason f e other d = absurd f
fair-made key bytes w (R.Gone x) reason f e other d = absurd f
fair-made key bytes w (R.GoneAt x) reason f e other d = absurd f
fair-made key bytes w (R.Listed x) reason f e other d = absurd f

fair-moved : (key : Key) (bytes : List ℕ) (old : Version) (w : Why) → FairTold To (PutOver key bytes old w) moved_told
fair-moved key bytes old w (R.Over (Over_done version now)) reason f e other d = absurd (ok-err tt reason e)
fair-moved key bytes old w (R.Over (Over_moved there now)) reason f e other d = absurd (quiet-err (Has_moved there) reason other e (quiet-moved there) d)
fair-moved key bytes old w (R.Failed x) reason f e other d = (failed-side To other reason e d, refl)
fair-moved key bytes old w (R.Got x) reason f e other d = absurd f
fair-moved key bytes old w (R.New x) reason f e other d = absurd f
fair-moved key bytes old w (R.Gone x) reason f e other d = absurd f
fair-moved key bytes old w (R.GoneAt x) reason f e other d = absurd f
fair-moved key bytes old w (R.Listed x) reason f e other d = absurd f

-- ---- one operation
-- it is fair, and where memory is wanting from here on it tells no failure
record Mild (p : Answer) : Type 0 where
  fair : IsFair tells_fault p
  calm : (side : Side) → dooms tells_fault side p ≡ false

mild-ended : (w : Work) (result : Result Mirrored Refusal) → ((side : Side) → tells_fault side (ends w result) ≡ false) → Mild (Done (ends w result))
unfolding IsFair
mild-ended w result calm = record { fair = tt; calm = calm }

mild-refused : (w : Work) (reason : Refusal) → Quiet reason → Mild (refused w reason)
mild-refused w reason q = mild-ended w (Err reason) q

fair-refused : (w : Work) (reason : Refusal) → IsFair tells_fault (refused w reason)
unfolding IsFair
fair-refused w reason = tt

mild-asks : {A : Type 0} (w : Work) (side : Side) (op : Op) (told : Reply → Result A Refusal) (next : A → Answer) → FairTold side op told → ((x : A) → Mild (next x)) → Mild (asks w side op told next)
unfolding IsFair
mild-asks {A} w side op told next fair m = record { fair = λ reply fits. go reply fits (told reply) refl; calm = quiet-memory }
  where
    go : (reply : Reply) → Fits op reply → (r : Result A Refusal) → told reply ≡ r → ((other : Side) → dooms tells_fault other (on_told w next r) ≡ true → (tells_fault other (ends w (Err NoMemory)) ≡ true) ⊎ ((other ≡ side) × (has_failed reply ≡ true))) × IsFair tells_fault (on_told w next r)
    go reply fits (Ok x) e = (λ other d. absurd (never (dooms tells_fault other (next x)) ((m x).calm other) d), (m x).fair)
    go reply fits (Err reason) e = (λ other d. inr (fair reply reason fits e other d), fair-refused w reason)

mild-told : {A : Type 0} (w : Work) (next : A → Answer) (result : Result A Refusal) → ((x : A) → Mild (next x)) → ((reason : Refusal) → result ≡ Err reason → Quiet reason) → Mild (on_told w next result)
mild-told w next (Ok x) m q = m x
mild-told w next (Err reason) m q = mild-refused w reason (q reason refl)

not-true : (b : Bool) → (b ≡ true → ⊥) → b ≡ false
not-true true n = absurd (n refl)
not-true false n = refl

quiet-by : (reason : Refusal) → ((side : Side) → blames_side side reason ≡ true → ⊥) → Quiet reason
quiet-by reason n side = not-true (blames_side side reason) (n side)

key-is-quiet : {A : Type 0} (key : Key) (r : Result A Bad) (reason : Refusal) → at_key key r ≡ Err reason → Quiet reason
key-is-quiet key r reason e = quiet-by reason (λ side. key-quiet key r reason side e)

-- ---- files of snapshots
file-quiet : (s : SnapshotFile) (reason : Refusal) → file_of s ≡ Err reason → Quiet reason
file-quiet s reason e = go (nat_lt file_limit (length (snapshot_bytes s))) e
  where
    go : (b : Bool) → (if b then Err (TooLarge kinds.Snapshot) else Ok (snapshot_bytes s)) ≡ Err reason → Quiet reason
    go true x = quiet-by reason (λ side d. quiet-err (TooLarge kinds.Snapshot) reason side x quiet-large d)
    go false x = absurd (ok-err (snapshot_bytes s) reason x)

under-quiet : (parent : Option Id12) (bytes : List ℕ) (s : SnapshotFile) (reason : Refusal) → file_under parent bytes s ≡ Err reason → Quiet reason
under-quiet parent bytes s reason e = go (same_parent s.parent parent) e
  where
    go : (b : Bool) → (if b then Ok bytes else file_of (record s { parent = parent })) ≡ Err reason → Quiet reason
    go true x = absurd (ok-err bytes reason x)
    go false x = file-quiet (record s { parent = parent }) reason x

equal-quiet : (a b : Result (List ℕ) Refusal) (reason : Refusal) → ((r : Refusal) → a ≡ Err r → Quiet r) → ((r : Refusal) → b ≡ Err r → Quiet r) → if_equal a b ≡ Err reason → Quiet reason
equal-quiet (Ok a) (Ok b) reason p q e = absurd (ok-err (bytes_eq a b) reason e)
equal-quiet (Ok a) (Err r) reason p q e = subst Quiet (err-is r reason e) (q r refl)
equal-quiet (Err r) b reason p q e = subst Quiet (err-is r reason e) (p r refl)

but-quiet : (s t : Option SnapshotFile) (reason : Refusal) → same_but_parent s t ≡ Err reason → Quiet reason
but-quiet (Some s) (Some t) reason e = equal-quiet (file_of (record s { parent = None })) (file_of (record t { parent = None })) reason (file-quiet (record s { parent = None })) (file-quiet (record t { parent = None })) e
but-quiet (Some s) None reason e = absurd (ok-err false reason e)
but-quiet None t reason e = absurd (ok-err false reason e)

fine-quiet : (id : Id12) (bytes there : List ℕ) (reason : Refusal) → is_fine id bytes there ≡ Err reason → Quiet reason
fine-quiet id bytes there reason e = go (bytes_eq bytes there) e
  where
    go : (b : Bool) → (if b then Ok true else same_but_parent (snapshot_by id bytes) (snapshot_by id there)) ≡ Err reason → Quiet reason
    go true x = absurd (ok-err true reason x)
    go false x = but-quiet (snapshot_by id bytes) (snapshot_by id there) reason x

fits-quiet : (key : Key) (bytes there : List ℕ) (reason : Refusal) → fits_there key bytes there ≡ Err reason → Quiet reason
fits-quiet (Snapshot id) bytes there reason e = fine-quiet id bytes there reason e
fits-quiet (Txn id) bytes there reason e = absurd (ok-err (bytes_eq bytes there) reason e)
fits-quiet (Manifest id) bytes there reason e = absurd (ok-err (bytes_eq bytes there) reason e)
fits-quiet (Chunk id) bytes there reason e = absurd (ok-err (bytes_eq bytes there) reason e)
fits-quiet (Branch name) bytes there reason e = absurd (ok-err (bytes_eq bytes there) reason e)
fits-quiet (Tag name) bytes there reason e = absurd (ok-err (bytes_eq bytes there) reason e)
fits-quiet (Tombstone name) bytes there reason e = absurd (ok-err (bytes_eq bytes there) reason e)
fits-quiet (Lease id) bytes there reason e = absurd (ok-err (bytes_eq bytes there) reason e)

-- ---- objects
abbrev Next : Type 0
Next = Work → Answer

mild-if : (b : Bool) (p q : Answer) → Mild p → Mild q → Mild (if b then p else q)
mild-if true p q m n = m
mild-if false p q m n = n

mild-compare : (key : Key) (bytes : List ℕ) (w : Work) (next : Next) → Mild (next w) → Mild (compare key bytes w next)
mild-compare key bytes w next m = mild-asks w To (Get key) (bytes_told To key) (λ there. on_told w (unless_differs key w next) (fits_there key bytes there)) (fair-bytes To key) (λ there. mild-told w (unless_differs key w next) (fits_there key bytes there) judged (fits-quiet key bytes there))
  where
    judged : (fine : Bool) → Mild (unless_differs key w next fine)
    judged true = m
    judged false = mild-refused w (Differs key) (quiet-differs key)

mild-put : (key : Key) (bytes : List ℕ) (w : Work) (next : Next) → ((v : Work) → Mild (next v)) → Mild (put_object key bytes w next)
mild-put key bytes w next m = mild-asks w To (PutNew key bytes (cause_of key)) put_told (put_behind key bytes w next) (fair-put key bytes (cause_of key)) behind
  where
    behind : (put : Bool) → Mild (put_behind key bytes w next put)
    behind true = m (with_put key w)
    behind false = mild-compare key bytes w next (m w)

mild-take : (key : Key) (w : Work) (next : List ℕ → Answer) → ((bytes : List ℕ) → Mild (next bytes)) → Mild (take_object key w next)
mild-take key w next m = mild-asks w From (Get key) (bytes_told From key) next (fair-bytes From key) m

mild-chunks : (ids : List Id12) (w : Work) (next : Next) → ((v : Work) → Mild (next v)) → Mild (copy_chunks ids w next)
unfolding copy_chunks
mild-chunks [] w next m = m w
mild-chunks (id ∷ ids) w next m = mild-take (Chunk id) w (λ bytes. put_object (Chunk id) bytes w (λ v. copy_chunks ids v next)) (λ bytes. mild-put (Chunk id) bytes w (λ v. copy_chunks ids v next) (λ v. mild-chunks ids v next m))

mild-filled : (id : Id12) (bytes : List ℕ) (w : Work) (next : Next) (m : ManifestFile) → ((v : Work) → Mild (next v)) → Mild (with_manifest id bytes w next m)
mild-filled id bytes w next m f =
    let line : Line = enter_ids (objects_of m) (found w.chunks) in
    mild-chunks line.todo (with_chunks line w) (λ v. put_object (Manifest id) bytes v next) (λ v. mild-put (Manifest id) bytes v next f)

mild-manifest : (id : Id12) (w : Work) (next : Next) → ((v : Work) → Mild (next v)) → Mild (copy_manifest id w next)
mild-manifest id w next f = mild-take (Manifest id) w (λ bytes. on_told w (with_manifest id bytes w next) (at_key (Manifest id) (read_manifest id bytes))) (λ bytes. mild-told w (with_manifest id bytes w next) (at_key (Manifest id) (read_manifest id bytes)) (λ m. mild-filled id bytes w next m f) (key-is-quiet (Manifest id) (read_manifest id bytes)))

mild-manifests : (ids : List Id12) (w : Work) (next : Next) → ((v : Work) → Mild (next v)) → Mild (copy_manifests ids w next)
unfolding copy_manifests
mild-manifests [] w next f = f w
mild-manifests (id ∷ ids) w next f = mild-manifest id w (λ v. copy_manifests ids v next) (λ v. mild-manifests ids v next f)

mild-log : (id : Id12) (w : Work) (next : Next) → ((v : Work) → Mild (next v)) → Mild (copy_log id w next)
mild-log id w next f = mild-if (same_id12 id initial_id) (next w) (take_object (Txn id) w (log-behind id w next)) (f w) (mild-take (Txn id) w (log-behind id w next) (λ bytes. mild-told w (λ log. put_object (Txn id) bytes w next) (at_key (Txn id) (read_log id bytes)) (λ log. mild-put (Txn id) bytes w next f) (key-is-quiet (Txn id) (read_log id bytes))))

mild-under : (link : Link) (file : List ℕ) (w : Work) (next : Next) (line : Line) → ((v : Work) → Mild (next v)) → Mild (fill_snapshot link.id file w next line)
mild-under link file w next line f = mild-manifests line.todo (with_manifests line w) (λ v. copy_log link.id v (λ u. put_snapshot link.id file u next)) (λ v. mild-log link.id v (λ u. put_snapshot link.id file u next) (λ u. mild-put (Snapshot link.id) file u (λ x. next (with_copied link.id x)) (λ x. f (with_copied link.id x))))

mild-snapshot : (link : Link) (w : Work) (next : Next) → ((v : Work) → Mild (next v)) → Mild (copy_snapshot link w next)
mild-snapshot link w next f = mild-take (Snapshot link.id) w (λ bytes. on_told w (with_snapshot link bytes w next) (at_key (Snapshot link.id) (read_snapshot link.id bytes))) (λ bytes. mild-told w (with_snapshot link bytes w next) (at_key (Snapshot link.id) (read_snapshot link.id bytes)) (λ s. mild-told w (λ file. fill_snapshot link.id file w next (enter_rows s.nodes (found w.manifests))) (file_under link.parent bytes s) (λ file. mild-under link file w next (enter_rows s.nodes (found w.manifests)) f) (under-quiet link.parent bytes s)) (key-is-quiet (Snapshot link.id) (read_snapshot link.id bytes)))

mild-line : (links : List Link) (w : Work) (next : Next) → ((v : Work) → Mild (next v)) → Mild (copy_line links w next)
unfolding copy_line
mild-line [] w next f = f w
mild-line (link ∷ links) w next f = mild-snapshot link w (λ v. copy_line links v next) (λ v. mild-line links v next f)

-- what follows a snapshot of the way down
mild-onto : (onto : List Link → Id12 → Answer) (links : List Link) (w : Work) (next : Next) (id : Id12) (parent : Option Id12) → ((v : Work) → Mild (next v)) → ((more : List Link) (p : Id12) → Mild (onto more p)) → Mild (down_onto onto links w next id parent)
mild-onto onto links w next id None f g = mild-line (record { id = id; parent = None } ∷ links) w next f
mild-onto onto links w next id (Some p) f g = g (record { id = id; parent = Some p } ∷ links) p

mild-down : (left : ℕ) (links : List Link) (w : Work) (next : Next) (id : Id12) → ((v : Work) → Mild (next v)) → Mild (down left links w next id)
unfolding down
mild-down zero links w next id f = mild-if (has_object w.snapshots id) (copy_line links w next) (refused w TooDeep) (mild-line links w next f) (mild-refused w TooDeep quiet-deep)
mild-down (suc left) links w next id f = mild-if (has_object w.snapshots id) (copy_line links w next) (asks w From (Get (Snapshot id)) (snapshot_told id) (down_behind (down-onto left w next) links w next id)) (mild-line links w next f) (mild-asks w From (Get (Snapshot id)) (snapshot_told id) (down_behind (down-onto left w next) links w next id) (fair-snapshot id) (λ s. mild-onto (down-onto left w next) links w next id s.parent f (λ more p. mild-down left more w next p f)))

-- ---- refs
module _ (r : RefId) (id : Id12) (w : Work) (next : Next) (f : (v : Work) → Mild (next v)) where
  mild-made : Mild (make_ref r id w next)
  mild-made = mild-asks w To (PutNew (key_of r) (ref_bytes id) (cause_of (key_of r))) made_told (λ done. next (with_ref r id true w)) (fair-made (key_of r) (ref_bytes id) (cause_of (key_of r))) (λ done. f (with_ref r id true w))

  mild-moved : (old : Version) → Mild (move_ref r id w next old)
  mild-moved old = mild-asks w To (PutOver (key_of r) (ref_bytes id) old why.Reset) moved_told (λ done. next (with_ref r id true w)) (fair-moved (key_of r) (ref_bytes id) old why.Reset) (λ done. f (with_ref r id true w))

  mild-buried : (there : Id12) (buried : Bool) → Mild (unless_buried r id w next there buried)
  mild-buried there true = mild-refused w (Differs (key_of r)) (quiet-differs (key_of r))
  mild-buried there false = mild-if (same_id12 there id) (next (with_ref r id false w)) (refused w (Differs (key_of r))) (f (with_ref r id false w)) (mild-refused w (Differs (key_of r)) (quiet-differs (key_of r)))

  mild-tag : (there : Id12) → Mild (see_tag r id w next there)
  mild-tag there = mild-asks w To (Get (Tombstone r.name)) buried_told (unless_buried r id w next there) (fair-buried (Tombstone r.name)) (mild-buried there)

  mild-branch : (there : Resolved) → Mild (see_branch r id w next there)
  mild-branch there = mild-if (same_id12 there.id id) (next (with_ref r id false w)) (move_ref r id w next there.version) (f (with_ref r id false w)) (mild-moved there.version)

  mild-seen : (there : Option Resolved) → Mild (see_ref r id w next there)
  mild-seen None = mild-made
  mild-seen (Some there) = mild-if r.tag (see_tag r id w next there.id) (see_branch r id w next there) (mild-tag there.id) (mild-branch there)

  mild-point : Mild (point r id w next)
  mild-point = mild-asks w To (Get (key_of r)) (ref_told To (key_of r)) (see_ref r id w next) (fair-ref To (key_of r)) mild-seen

mild-ref : (r : RefId) (w : Work) (next : Next) → ((v : Work) → Mild (next v)) → Mild (copy_ref r w next)
mild-ref r w next f = mild-asks w From (Get (key_of r)) (ref_told From (key_of r)) (behind_ref r w next) (fair-ref From (key_of r)) behind
  where
    behind : (named : Option Resolved) → Mild (behind_ref r w next named)
    behind None = f w
    behind (Some named) = mild-down most_snapshots [] w (λ v. point r named.id v next) named.id (λ v. mild-point r named.id v next f)

mild-refs : (rs : List RefId) (w : Work) (next : Next) → ((v : Work) → Mild (next v)) → Mild (copy_refs rs w next)
unfolding copy_refs
mild-refs [] w next f = f w
mild-refs (r ∷ rs) w next f = mild-ref r w (λ v. copy_refs rs v next) (λ v. mild-refs rs v next f)

mild-part : (p : Part) (w : Work) (next : Next) → ((v : Work) → Mild (next v)) → Mild (copy_part p w next)
mild-part p w next f = mild-asks w From (ListPart p) listed_told (λ l. copy_refs (ref_ids (live l.entries)) w next) (fair-listed p) (λ l. mild-refs (ref_ids (live l.entries)) w next f)

mild-finish : (w : Work) → Mild (finish w)
mild-finish w = mild-ended w (Ok w.counts) (λ side. refl)

-- a mirror is fair
pub fair-mirror : IsFair tells_fault mirror_program
fair-mirror = (mild-part part.Branches no_work copy_tags (λ v. mild-part part.Tags v finish mild-finish)).fair
