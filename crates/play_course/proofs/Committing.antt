-- What a commit answers in a run over an empty store.
use Rattle.std.proofs.Common.{◌≡◌, ◌≢◌, ℕ, Bool, true, false, cond, List, [], ◌∷◌, ◌++◌, length, refl, sym, ap, subst}
use Rattle.std.specs.Prelude.{Option, Some, None, Result, Ok, Err, nat_lt}
use Rattle.ice_ids.specs.declared.Id12.{Id12}
use Rattle.ice_ids.specs.declared.drawing.AnyIds.{AnyIds}
use Rattle.ice_ids.specs.Drawing.{drawn12, after12}
use Rattle.flat_tables.specs.declared.header.Kind.TheVariants as kinds
use Rattle.zarr_tree.specs.Held.{HeldEntry, touched}
use Rattle.zarr_tree.specs.Touched.{is_untouched}
use Rattle.zarr_changes.specs.declared.chunks.ChangedArray.{ChangedArray}
use Rattle.zarr_changes.specs.Sets.{chunks_of, changed_arrays}
use Rattle.manifest_file.specs.declared.manifest.ArrayRefs.{ArrayRefs}
use Rattle.manifest_file.specs.declared.manifest.ManifestFile.{ManifestFile}
use Rattle.manifest_file.specs.declared.manifest.Place.{Place}
use Rattle.manifest_file.specs.Manifests.{refs_limit}
use Rattle.manifest_file.specs.Layout.{file_bytes}
use Rattle.held_manifest.specs.LookUp.{Listed}
use Rattle.manifest_index.specs.Merging.{merged_array}
use Rattle.snapshot_file.specs.declared.nodes.ManifestRef.{ManifestRef}
use Rattle.snapshot_file.specs.Layout.{snapshot_bytes}
use Rattle.txn_file.specs.Layout.{log_file}
use Rattle.ref_file.specs.Refs.{ref_bytes}
use Rattle.repo_objects.specs.declared.bad_objects.Bad.{Bad}
use Rattle.repo_objects.specs.Readings.{read_manifest}
use Rattle.changed_snapshot.specs.Rows.{own_manifests}
use Rattle.object_store.specs.declared.keys.Key.TheVariants.{Snapshot, Manifest, Txn, Branch}
use Rattle.object_store.specs.declared.keys.Why.TheVariants.{Set, Commit as For_commit}
use Rattle.object_store.specs.declared.events.Op.TheVariants.{Get, PutNew, PutOver}
use Rattle.object_store.specs.declared.events.Over.TheVariants.{Done as Over_done, Moved}
use Rattle.object_store.specs.declared.events.Reply.{Reply}
use Rattle.object_store.specs.declared.events.Reply.TheVariants.{Got as Is_got, New as Is_new, Over as Is_over, Gone as Is_gone, GoneAt as Is_gone_at, Listed as Is_listed, Failed}
use Rattle.object_store.specs.declared.events.Event.{Event}
use Rattle.store_api.specs.declared.machines.Refusal.{Refusal}
use Rattle.store_api.specs.declared.machines.Refusal.TheVariants as R
use Rattle.object_store.specs.Machine.{found, version_at, is_on}
use Rattle.store_api.specs.Journal.{Each, IsGood}
use Rattle.store_api.specs.Program.{Done, Ask}
use Rattle.store_api.specs.Running.{on_answer}
use Rattle.object_store.proofs.Journals.{Each-one, Each-weaker}
use Rattle.repo_read.specs.Answers.{at_key, manifest_told}
use Rattle.session.specs.Sessions.{SessionState, base_nodes, branch_of, version_of, writes}
use Rattle.session.specs.Sources.{MayDrawObject}
use Rattle.commit_path.specs.declared.commit.Tried.{Tried}
use Rattle.commit_path.specs.declared.commit.Tried.TheVariants.{Done as Was_done, Lost}
use Rattle.commit_path.specs.Opened.{IsOpened}
use Rattle.commit_path.specs.Committing.{Written, is_long, manifest_for, with_list, with_manifest, after_manifest, put_manifest, write_array, old_program, array_program, arrays_program, log_for, snap_for, after_branch, put_branch, after_snapshot, after_log, put_log, after_arrays, unwritten, write_all, commit_program}
use Rattle.commit_path.proofs.Knowing.{IsOpened-append}
use Rattle.run_histories.proofs.Drawing.{drawn12-of, object-draws}
use Rattle.play_course.specs.Refusing.{is_strange}
use Rattle.play_course.proofs.Tidy.{Client, Draws, AreIts, IsTidy, spared-snapshot, free-others, free-apart}
use Rattle.play_course.proofs.Meeting.{was-read, Meets, done-meets, ask-meets, then-meets, got-meets, put-meets}
use Rattle.play_course.proofs.Knowing.{OfOthers, OfOwn, Before, beside, before-others, before-got, before-under, before-put, before-over, spent-differs, drawn-now, good-others, missing-plain}
use Rattle.play_course.proofs.Holding.{MayCommit, AreOfBase, own-of-base, manifest-stands}

module _ (client : Client) (ids : AnyIds) (s : SessionState) where
  -- what is held while objects are written: nothing stands under what is still to be drawn, and the base is known
  pub record Writes (next : AnyIds) (journal : List Event) : Type 0 where
    pub before : Before client next journal
    pub known : AreIts client next
    pub opened : IsOpened s journal

  writes-others : (next : AnyIds) (journal more : List Event) → Each (OfOthers client ids) journal more → Writes next journal → Writes next (journal ++ more)
  writes-others next journal more others k = record {
    before = before-others client ids next k.known journal more others k.before;
    known = k.known;
    opened = IsOpened-append s journal more (good-others client ids journal more others) k.opened;
  }

  opened-own : (journal : List Event) (event : Event) → OfOwn client ids journal event → IsOpened s journal → IsOpened s (journal ++ event ∷ [])
  opened-own journal event own o = IsOpened-append s journal (event ∷ []) (Each-one IsGood journal event own.tidy.good) o

  drawn-known : (next : AnyIds) → AreIts client next → AreIts client (after12 next)
  drawn-known next known = drawn12-of client.draw client.number next known

  abbrev WritesWell : Result Written Refusal → List Event → Type 0
  WritesWell (Ok w) h = Writes w.ids h
  WritesWell (Err why) h = is_strange client.collects why ≡ false

  abbrev GotWell : Written → Result (List Listed) Refusal → List Event → Type 0
  GotWell w (Ok old) h = Writes w.ids h
  GotWell w (Err why) h = is_strange client.collects why ≡ false

  -- ---- old manifests
  old-meets : (w : Written) (ms : List ManifestRef) → AreOfBase s.rows ms → (seen : List Listed) (journal : List Event) → Writes w.ids journal → Meets (GotWell w) (beside client ids) (old_program ms seen) journal
  unfolding old_program
  old-meets w [] of_base seen journal k = done-meets (GotWell w) (beside client ids) (Ok seen) journal k
  old-meets w (m ∷ ms) of_base seen journal k =
      ask-meets (GotWell w) (beside client ids) (Get (Manifest m.id)) (λ reply. on_answer (λ file. old_program ms (seen ++ (m.extents, file) ∷ [])) (manifest_told m.id reply)) journal (λ more event others own is.
      let mid = writes-others w.ids journal more others k in
      let after : Writes w.ids ((journal ++ more) ++ event ∷ []) = record { before = before-got client ids w.ids k.known (journal ++ more) event (Manifest m.id) own is mid.before; known = k.known; opened = opened-own (journal ++ more) event own mid.opened } in
      let stands = manifest-stands client.collects s (journal ++ more) mid.before.so_far mid.opened m of_base.0 in
      got-meets (GotWell w) (beside client ids) (λ reply. on_answer (λ file. old_program ms (seen ++ (m.extents, file) ∷ [])) (manifest_told m.id reply)) (journal ++ more) event own.tidy.good ((journal ++ more) ++ event ∷ []) (Manifest m.id) is
      (λ st e.
      let read : read_manifest m.id st.bytes ≡ Ok stands.file = was-read (read_manifest m.id st.bytes) stands.file (stands.read st e) in
      subst (λ (r : Result ManifestFile Bad). Meets (GotWell w) (beside client ids) (on_answer (λ file. old_program ms (seen ++ (m.extents, file) ∷ [])) (at_key (Manifest m.id) r)) ((journal ++ more) ++ event ∷ [])) (sym read)
      (old-meets w ms of_base.1 (seen ++ (m.extents, stands.file) ∷ []) ((journal ++ more) ++ event ∷ []) after))
      (λ gone. done-meets (GotWell w) (beside client ids) (Err (R.Missing (Manifest m.id))) ((journal ++ more) ++ event ∷ []) (missing-plain client.collects (Manifest m.id) (λ none. stands.there none gone)))
      (λ done. done-meets (GotWell w) (beside client ids) (Err R.StoreFault) ((journal ++ more) ++ event ∷ []) refl))

  -- ---- a new manifest
  long-meets : (w : Written) (a : ChangedArray) (array : ArrayRefs) (id : Id12) → drawn12 w.ids ≡ Some id → (long : Bool) (journal : List Event) → Writes w.ids journal
      → Meets WritesWell (beside client ids) (cond long (Done (Err (R.TooLarge kinds.Manifest))) (Ask (PutNew (Manifest id) (file_bytes (manifest_for id array)) Set) (after_manifest (with_manifest w a array id) id))) journal
  long-meets w a array id d true journal k = done-meets WritesWell (beside client ids) (Err (R.TooLarge kinds.Manifest)) journal refl
  long-meets w a array id d false journal k = ask-meets WritesWell (beside client ids) (PutNew (Manifest id) (file_bytes (manifest_for id array)) Set) (after_manifest (with_manifest w a array id) id) journal (λ more event others own is.
      let mid = writes-others w.ids journal more others k in
      put-meets WritesWell (beside client ids) (after_manifest (with_manifest w a array id) id) (journal ++ more) event own.tidy.good ((journal ++ more) ++ event ∷ []) (Manifest id) (file_bytes (manifest_for id array)) Set is (mid.before.free id (drawn-now w.ids id d)).manifest
      (λ told. done-meets WritesWell (beside client ids) (Ok (with_manifest w a array id)) ((journal ++ more) ++ event ∷ []) (record {
        before = before-put client ids w.ids k.known (journal ++ more) event (Manifest id) (file_bytes (manifest_for id array)) Set id own is refl d mid.before;
        known = drawn-known w.ids k.known;
        opened = opened-own (journal ++ more) event own mid.opened;
      }))
      (λ done. done-meets WritesWell (beside client ids) (Err R.StoreFault) ((journal ++ more) ++ event ∷ []) refl))

  manifest-meets : (w : Written) (a : ChangedArray) (array : ArrayRefs) (o : Option Id12) → drawn12 w.ids ≡ o → (journal : List Event) → Writes w.ids journal → Meets WritesWell (beside client ids) (put_manifest w a array o) journal
  manifest-meets w a array None d journal k = done-meets WritesWell (beside client ids) (Err R.IdsSpent) journal refl
  manifest-meets w a array (Some id) d journal k = long-meets w a array id d (is_long (file_bytes (manifest_for id array))) journal k

  many-meets : (w : Written) (a : ChangedArray) (array : ArrayRefs) (many : Bool) (journal : List Event) → Writes w.ids journal → Meets WritesWell (beside client ids) (cond many (Done (Err (R.TooLarge kinds.Manifest))) (put_manifest w a array (drawn12 w.ids))) journal
  many-meets w a array true journal k = done-meets WritesWell (beside client ids) (Err (R.TooLarge kinds.Manifest)) journal refl
  many-meets w a array false journal k = manifest-meets w a array (drawn12 w.ids) refl journal k

  write-meets : (w : Written) (a : ChangedArray) (o : Option ArrayRefs) (journal : List Event) → Writes w.ids journal → Meets WritesWell (beside client ids) (write_array w a o) journal
  write-meets w a None journal k = done-meets WritesWell (beside client ids) (Ok (with_list w a None)) journal (record { before = k.before; known = k.known; opened = k.opened })
  write-meets w a (Some array) journal k = many-meets w a array (nat_lt refs_limit (length array.refs)) journal k

  arrays-meets : (entries : List (HeldEntry Place)) (arrays : List ChangedArray) (w : Written) (journal : List Event) → Writes w.ids journal → Meets WritesWell (beside client ids) (arrays_program s.rows entries arrays w) journal
  unfolding arrays_program
  arrays-meets entries [] w journal k = done-meets WritesWell (beside client ids) (Ok w) journal k
  arrays-meets entries (a ∷ more) w journal k =
      then-meets WritesWell WritesWell (beside client ids) (array_program s.rows entries w a) (arrays_program s.rows entries more) journal
      (then-meets (GotWell w) WritesWell (beside client ids) (old_program (own_manifests s.rows a.path a.node) []) (λ old. write_array w a (merged_array a.rank a.node old (chunks_of entries a.node))) journal
      (old-meets w (own_manifests s.rows a.path a.node) (own-of-base s.rows a.path a.node) [] journal k)
      (λ old h x. write-meets w a (merged_array a.rank a.node old (chunks_of entries a.node)) h x) (λ why h p. p))
      (λ next h x. arrays-meets entries more next h x) (λ why h p. p)

  -- ---- the branch, the snapshot and the log
  -- It was done; or the session may commit again, with the ids that are left; or it was refused as it may be.
  abbrev pub CommitsWell : Result Tried Refusal → List Event → Type 0
  CommitsWell (Ok (Was_done made)) h = Unit {0}
  CommitsWell (Ok (Lost old found next)) h = MayCommit client (record s { ids = next }) h
  CommitsWell (Err why) h = is_strange client.collects why ≡ false

  -- the session that draws other ids
  left-opened : (next : AnyIds) (journal : List Event) → IsOpened s journal → IsOpened (record s { ids = next }) journal
  left-opened next journal o = record { named = o.named; put = o.put; had = o.had; rows = o.rows; objects = o.objects; chunks = o.chunks }

  branch-meets : (id : Id12) (next : AnyIds) (reply : Reply) (journal : List Event) → Writes next journal → Meets CommitsWell (beside client ids) (after_branch s id next reply) journal
  branch-meets id next (Is_over (Over_done version now)) journal k = done-meets CommitsWell (beside client ids) (Ok (Was_done (record { id = id; version = version }))) journal tt
  branch-meets id next (Is_over (Moved there now)) journal k =
      done-meets CommitsWell (beside client ids) (Ok (Lost (version_at (version_of s)) there next)) journal (record { before = k.before; known = k.known; opened = left-opened next journal k.opened })
  branch-meets id next (Is_got x) journal k = done-meets CommitsWell (beside client ids) (Err R.StoreFault) journal refl
  branch-meets id next (Is_new x) journal k = done-meets CommitsWell (beside client ids) (Err R.StoreFault) journal refl
  branch-meets id next (Is_gone x) journal k = done-meets CommitsWell (beside client ids) (Err R.StoreFault) journal refl
  branch-meets id next (Is_gone_at x) journal k = done-meets CommitsWell (beside client ids) (Err R.StoreFault) journal refl
  branch-meets id next (Is_listed x) journal k = done-meets CommitsWell (beside client ids) (Err R.StoreFault) journal refl
  branch-meets id next (Failed done) journal k = done-meets CommitsWell (beside client ids) (Err (R.InDoubt id)) journal refl

  over-meets : (id : Id12) (next : AnyIds) (journal : List Event) → Writes next journal → Meets CommitsWell (beside client ids) (put_branch s id next) journal
  over-meets id next journal k = ask-meets CommitsWell (beside client ids) (PutOver (Branch (branch_of s)) (ref_bytes id) (version_at (version_of s)) For_commit) (after_branch s id next) journal (λ more event others own is.
      let mid = writes-others next journal more others k in
      branch-meets id next event.reply ((journal ++ more) ++ event ∷ []) (record {
        before = before-over client ids next (journal ++ more) event (branch_of s) (ref_bytes id) (version_at (version_of s)) For_commit own is mid.before;
        known = k.known;
        opened = opened-own (journal ++ more) event own mid.opened;
      }))

  abbrev Who : Id12 → Type 0
  Who id = ¬ Draws client id

  snapshot-free : (id : Id12) → Draws client id → (old more : List Event) → Each (OfOthers client ids) old more → found old (Snapshot id) ≡ None → found (old ++ more) (Snapshot id) ≡ None
  snapshot-free id d old more others f = free-others Who (Snapshot id) old more (spared-snapshot client id d Who (λ n. n d)) (Each-weaker (OfOthers client ids) (IsTidy Who) (λ h event o. o.tidy) old more others) f

  -- unless the file is too long
  snapshot-meets : (id : Id12) (next : AnyIds) (file : List ℕ) (journal : List Event) (long : Bool) → Draws client id → ((other : Id12) → MayDrawObject next other → id ≢ other) → found journal (Snapshot id) ≡ None → Writes next journal
      → Meets CommitsWell (beside client ids) (cond long (Done (Err (R.TooLarge kinds.Snapshot))) (Ask (PutNew (Snapshot id) file Set) (after_snapshot s id next))) journal
  snapshot-meets id next file journal true d differs free k = done-meets CommitsWell (beside client ids) (Err (R.TooLarge kinds.Snapshot)) journal refl
  snapshot-meets id next file journal false d differs free k = ask-meets CommitsWell (beside client ids) (PutNew (Snapshot id) file Set) (after_snapshot s id next) journal (λ more event others own is.
      let mid = writes-others next journal more others k in
      put-meets CommitsWell (beside client ids) (after_snapshot s id next) (journal ++ more) event own.tidy.good ((journal ++ more) ++ event ∷ []) (Snapshot id) file Set is (snapshot-free id d journal more others free)
      (λ told. over-meets id next ((journal ++ more) ++ event ∷ []) (record {
        before = before-under client ids next (journal ++ more) event (Snapshot id) file Set id own is refl differs mid.before;
        known = k.known;
        opened = opened-own (journal ++ more) event own mid.opened;
      }))
      (λ done. done-meets CommitsWell (beside client ids) (Err R.StoreFault) ((journal ++ more) ++ event ∷ []) refl))

  log-meets : (message : List ℕ) (w : Written) (id : Id12) → drawn12 w.ids ≡ Some id → (long : Bool) (journal : List Event) → Writes w.ids journal
      → Meets CommitsWell (beside client ids) (cond long (Done (Err (R.TooLarge kinds.Log))) (Ask (PutNew (Txn id) (log_file (log_for s id)) Set) (after_log s message w.news id (after12 w.ids)))) journal
  log-meets message w id d true journal k = done-meets CommitsWell (beside client ids) (Err (R.TooLarge kinds.Log)) journal refl
  log-meets message w id d false journal k = ask-meets CommitsWell (beside client ids) (PutNew (Txn id) (log_file (log_for s id)) Set) (after_log s message w.news id (after12 w.ids)) journal (λ more event others own is.
      let mid = writes-others w.ids journal more others k in
      let free = mid.before.free id (drawn-now w.ids id d) in
      let off : is_on (Snapshot id) event.op ≡ false = ap (is_on (Snapshot id)) is in
      put-meets CommitsWell (beside client ids) (after_log s message w.news id (after12 w.ids)) (journal ++ more) event own.tidy.good ((journal ++ more) ++ event ∷ []) (Txn id) (log_file (log_for s id)) Set is free.log
      (λ told. snapshot-meets id (after12 w.ids) (snapshot_bytes (snap_for s message w.news id event.time)) ((journal ++ more) ++ event ∷ []) (is_long (snapshot_bytes (snap_for s message w.news id event.time)))
      (object-draws client.draw client.number w.ids id k.known (drawn-now w.ids id d)) (spent-differs client w.ids id k.known d) (free-apart (Snapshot id) (journal ++ more) event off free.snapshot) (record {
        before = before-put client ids w.ids k.known (journal ++ more) event (Txn id) (log_file (log_for s id)) Set id own is refl d mid.before;
        known = drawn-known w.ids k.known;
        opened = opened-own (journal ++ more) event own mid.opened;
      }))
      (λ done. done-meets CommitsWell (beside client ids) (Err R.StoreFault) ((journal ++ more) ++ event ∷ []) refl))

  drawn-meets : (message : List ℕ) (w : Written) (o : Option Id12) → drawn12 w.ids ≡ o → (journal : List Event) → Writes w.ids journal → Meets CommitsWell (beside client ids) (put_log s message w.news o (after12 w.ids)) journal
  drawn-meets message w None d journal k = done-meets CommitsWell (beside client ids) (Err R.IdsSpent) journal refl
  drawn-meets message w (Some id) d journal k = log-meets message w id d (is_long (log_file (log_for s id))) journal k

  -- ---- the commit
  all-meets : (message : List ℕ) (journal : List Event) → MayCommit client s journal → Meets CommitsWell (beside client ids) (write_all s message) journal
  all-meets message journal m =
      then-meets WritesWell CommitsWell (beside client ids) (arrays_program s.rows s.held.chunks (changed_arrays s.held (base_nodes s)) (unwritten s)) (after_arrays s message) journal
      (arrays-meets s.held.chunks (changed_arrays s.held (base_nodes s)) (unwritten s) journal (record { before = m.before; known = m.known; opened = m.opened }))
      (λ w h k. drawn-meets message w (drawn12 w.ids) refl h k) (λ why h p. p)

  tests-meets : (message : List ℕ) (journal : List Event) (writes untouched : Bool) → MayCommit client s journal → Meets CommitsWell (beside client ids) (cond writes (cond untouched (Done (Err R.NothingToCommit)) (write_all s message)) (Done (Err R.ReadOnly))) journal
  tests-meets message journal false untouched m = done-meets CommitsWell (beside client ids) (Err R.ReadOnly) journal refl
  tests-meets message journal true true m = done-meets CommitsWell (beside client ids) (Err R.NothingToCommit) journal refl
  tests-meets message journal true false m = all-meets message journal m

  -- a commit is never refused so
  pub commit-meets : (message : List ℕ) (journal : List Event) → MayCommit client s journal → Meets CommitsWell (beside client ids) (commit_program s message) journal
  unfolding commit_program
  commit-meets message journal m = tests-meets message journal (writes s) (is_untouched (touched s.held (base_nodes s))) m
