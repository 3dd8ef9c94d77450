-- What programs may do, and what they may answer: which gets a session's lines and commits make, which a rebase.
use Rattle.std.proofs.Common.{◌≡◌, refl, sym, cond, Bool, true, false, ℕ, zero, suc, ◌+◌, List, [], ◌∷◌, ◌++◌, length, Option, None, Some, Result, Ok, Err}
use Rattle.std.specs.Prelude.{IfOk, nat_le, nat_lt}
use Rattle.std.specs.FinMap.{FinMap, len}
use Rattle.ice_ids.specs.declared.Id8.{Id8}
use Rattle.ice_ids.specs.declared.Id12.{Id12}
use Rattle.ice_ids.specs.declared.drawing.AnyIds.{AnyIds}
use Rattle.ice_ids.specs.Drawing.{drawn12, after12}
use Rattle.ice_ids.specs.Text.{same_id12}
use Rattle.ice_ids.proofs.TextLaws.{same_id12-true}
use Rattle.zarr_path.specs.Paths.{path_cmp}
use Rattle.zarr_tree.specs.declared.cases.Conflict.{Conflict}
use Rattle.zarr_tree.specs.declared.edit.EditFault.{EditFault}
use Rattle.zarr_tree.specs.Edits.{most_nodes}
use Rattle.zarr_tree.specs.Held.{HeldEntry, Held, touched, entry_in, nodes_over}
use Rattle.zarr_tree.specs.Nodes.{Node}
use Rattle.zarr_tree.specs.Touched.{is_untouched}
use Rattle.zarr_changes.specs.declared.chunks.ChangedArray.{ChangedArray}
use Rattle.zarr_changes.specs.declared.chunks.ChunkAt.{ChunkAt}
use Rattle.zarr_changes.specs.Sets.{set_refusal, chunk_found, chunks_of, changed_arrays}
use Rattle.manifest_file.specs.declared.manifest.Place.{Place}
use Rattle.manifest_file.specs.declared.manifest.Place.TheVariants.{Inline, Object}
use Rattle.manifest_file.specs.declared.manifest.ManifestFile.{ManifestFile}
use Rattle.manifest_file.specs.declared.manifest.ArrayRefs.{ArrayRefs}
use Rattle.manifest_file.specs.Manifests.{refs_limit}
use Rattle.manifest_file.specs.Layout.{file_bytes}
use Rattle.held_manifest.specs.LookUp.{Listed, entry_of}
use Rattle.manifest_index.specs.Merging.{merged_array, ids_within}
use Rattle.snapshot_file.specs.declared.nodes.ManifestRef.{ManifestRef}
use Rattle.snapshot_file.specs.declared.nodes.NodeRow.{NodeRow}
use Rattle.snapshot_file.specs.declared.snapshot.SnapshotFile.{SnapshotFile}
use Rattle.snapshot_file.specs.Layout.{snapshot_bytes}
use Rattle.txn_file.specs.declared.log.TxnFile.{TxnFile}
use Rattle.txn_file.specs.Layout.{log_file}
use Rattle.repo_objects.specs.Trees.{nodes_in}
use Rattle.changed_snapshot.specs.declared.new_snapshot.NewList.{NewList}
use Rattle.changed_snapshot.specs.Rows.{own_manifests}
use Rattle.conflicts.specs.declared.solving.Policy.{Policy}
use Rattle.object_store.specs.declared.keys.Key.{Key}
use Rattle.object_store.specs.declared.keys.Key.TheVariants.{Snapshot, Manifest, Txn, Chunk}
use Rattle.object_store.specs.declared.keys.Why.{Why}
use Rattle.object_store.specs.declared.keys.Why.TheVariants.{Set}
use Rattle.object_store.specs.declared.events.Op.{Op}
use Rattle.object_store.specs.declared.events.Op.TheVariants.{Get, PutNew}
use Rattle.object_store.specs.declared.events.New.TheVariants.{Done as New_done, Present}
use Rattle.object_store.specs.declared.events.Over.TheVariants.{Done as Over_done, Moved as Over_moved}
use Rattle.object_store.specs.declared.events.Reply.{Reply}
use Rattle.object_store.specs.declared.events.Reply.TheVariants.{Got as Is_got, New as Is_new, Over as Is_over, Gone as Is_gone, GoneAt as Is_gone_at, Listed as Is_listed, Failed}
use Rattle.store_api.specs.declared.machines.Refusal.{Refusal}
use Rattle.store_api.specs.declared.machines.Refusal.TheVariants.{NotAncestor}
use Rattle.store_api.specs.Program.{Prog, Done, Ask, bind, is_branch}
use Rattle.store_api.specs.Running.{Program, ◌>>=◌, on_answer}
use Rattle.repo_read.specs.declared.answers.Resolved.{Resolved}
use Rattle.repo_read.specs.Answers.{manifest_told, log_told, snapshot_told, object_told}
use Rattle.repo_read.specs.Programs.{manifest_program, log_program, snapshot_program, object_program}
use Rattle.repo_read.specs.Chains.{most_snapshots}
use Rattle.session.specs.declared.chunks.Value.{Value}
use Rattle.session.specs.declared.chunks.Value.TheVariants.{Bytes}
use Rattle.session.specs.Sessions.{SessionState, writes, base_nodes, nodes_seen, origin_at, rebased_to}
use Rattle.session.specs.Chunks.{set_program, put_chunk, put_object, after_object, after_draw, with_chunk, unless_fault, most_inline, get_program, read_listed, read_entry, read_place, read_object, read_own, read_at, read_found, found_bytes}
use Rattle.commit_path.specs.declared.commit.Tried.{Tried}
use Rattle.commit_path.specs.Committing.{Written, manifest_for, is_long, snap_for, after_manifest, with_manifest, put_manifest, write_array, old_program, array_program, arrays_program, put_log, after_log, put_snapshot, after_snapshot, after_branch, after_arrays, log_for, unwritten, commit_program}
use Rattle.rebase.specs.declared.machine.Rebased.{Rebased}
use Rattle.rebase.specs.declared.machine.Rebased.TheVariants.{OnHead, UpToDate}
use Rattle.rebase.specs.Along.{Link, left_at, solved_at, first_hidden}
use Rattle.rebase.specs.Rebasing.{CommitsSince, head_of, walk_down, if_solved, solve_link, solve_program, on_head, over_commits, after_ref}
use Rattle.play_tasks.specs.Bases.{GetsBranch, GetsWalked, IsLeaseOf, LeasesBase}

-- each operation of the program may be made, and each of its answers is so
unfoldable pub Within : {A : Type 0} → (Op → Type 0) → (A → Type 0) → Prog A → Type 0
Within may Q (Done a) = Q a
Within may Q (Ask op next) = may op × ((reply : Reply) → Within may Q (next reply))

-- where it isn't refused
abbrev pub WithinOk : {A : Type 0} → (Op → Type 0) → (A → Type 0) → Program A → Type 0
WithinOk may Q p = Within may (λ r. IfOk r Q) p

-- it gets no branch, and puts no lease
abbrev pub Still : Op → Type 0
Still op = ¬ GetsBranch op × ((base : Id12) → LeasesBase base op)

-- it gets a snapshot or a log
abbrev pub Climbs : Op → Type 0
Climbs op = GetsWalked op × ¬ GetsBranch op

module _ (may : Op → Type 0) where
  pub bind-within : {A B : Type 0} (Q : A → Type 0) (R : B → Type 0) (p : Prog A) (f : A → Prog B) → Within may Q p → ((a : A) → Q a → Within may R (f a)) → Within may R (bind p f)
  unfolding Within
  bind-within Q R (Done a) f p g = g a p
  bind-within Q R (Ask op next) f p g = (p.0, λ reply. bind-within Q R (next reply) f (p.1 reply) g)

  answer-within : {A B : Type 0} (Q : A → Type 0) (R : B → Type 0) (f : A → Program B) → ((a : A) → Q a → WithinOk may R (f a)) → (r : Result A Refusal) → IfOk r Q → WithinOk may R (on_answer f r)
  unfolding Within
  answer-within Q R f g (Ok a) q = g a q
  answer-within Q R f g (Err why) q = tt

  pub then-within : {A B : Type 0} (Q : A → Type 0) (R : B → Type 0) (p : Program A) (f : A → Program B) → WithinOk may Q p → ((a : A) → Q a → WithinOk may R (f a)) → WithinOk may R (p >>= f)
  then-within Q R p f k g = bind-within (λ r. IfOk r Q) (λ r. IfOk r R) p (on_answer f) k (answer-within Q R f g)

  pub done-within : {A : Type 0} (Q : A → Type 0) (a : A) → Q a → WithinOk may Q (Done (Ok a))
  unfolding Within
  done-within Q a q = q

  pub refused-within : {A : Type 0} (Q : A → Type 0) (why : Refusal) → WithinOk may Q (Done (Err why))
  unfolding Within
  refused-within Q why = tt

  any-ok : {A : Type 0} (r : Result A Refusal) → IfOk r (λ a. Unit {0})
  any-ok (Ok a) = tt
  any-ok (Err why) = tt

  -- one operation, whatever it tells
  pub asks-within : {A : Type 0} (op : Op) (told : Reply → Result A Refusal) → may op → WithinOk may (λ a. Unit {0}) (Ask op (λ reply. Done (told reply)))
  unfolding Within
  asks-within op told m = (m, λ reply. any-ok (told reply))

  either-within : {A : Type 0} (Q : A → Type 0) (b : Bool) (p q : Program A) → (b ≡ true → WithinOk may Q p) → (b ≡ false → WithinOk may Q q) → WithinOk may Q (cond b p q)
  either-within Q true p q f g = f refl
  either-within Q false p q f g = g refl

-- ---- a chunk
-- what a line leaves of a session: its base, and what named it
pub record IsSame (s t : SessionState) : Type 0 where
  pub base : t.base ≡ s.base
  pub origin : t.origin ≡ s.origin

abbrev Any : Value → Type 0
Any v = Unit {0}

abbrev pub Wrote : Written → Type 0
Wrote w = Unit {0}

-- any operation that gets what is no branch, or puts something new that is no lease
module _ (may : Op → Type 0) (gets : (key : Key) → is_branch key ≡ false → may (Get key)) (puts : (key : Key) (bytes : List ℕ) (why : Why) → ((base : Id12) → IsLeaseOf base key bytes) → may (PutNew key bytes why)) where
  object-within : (s t : SessionState) (id : Id12) → IsSame s t → (reply : Reply) → WithinOk may (IsSame s) (after_object t id reply)
  unfolding Within
  object-within s t id same (Is_new (New_done version now)) = same
  object-within s t id same (Is_new (Present version now)) = tt
  object-within s t id same (Is_got x) = tt
  object-within s t id same (Is_over x) = tt
  object-within s t id same (Is_gone x) = tt
  object-within s t id same (Is_gone_at x) = tt
  object-within s t id same (Is_listed x) = tt
  object-within s t id same (Failed done) = tt

  put-within : (s : SessionState) (path index bytes : List ℕ) (o : Option Id12) → WithinOk may (IsSame s) (put_object s path index bytes o)
  unfolding Within
  put-within s path index bytes None = tt
  put-within s path index bytes (Some id) = (puts (Chunk id) bytes Set (λ base. tt), object-within s (with_chunk (after_draw s) path index (Object id 0 (length bytes))) id (record { base = refl; origin = refl }))

  fault-within : (s : SessionState) (o : Option EditFault) (p : Program SessionState) → WithinOk may (IsSame s) p → WithinOk may (IsSame s) (unless_fault o p)
  unfolding Within
  fault-within s None p w = w
  fault-within s (Some fault) p w = tt

  pub set-within : (s : SessionState) (path index bytes : List ℕ) → WithinOk may (IsSame s) (set_program s path index bytes)
  unfolding set_program
  set-within s path index bytes =
      either-within may (IsSame s) (writes s) _ _
      (λ e. fault-within s (set_refusal (nodes_seen s) path index (length bytes)) (put_chunk s path index bytes)
      (either-within may (IsSame s) (nat_le (length bytes) most_inline) _ _ (λ short. done-within may (IsSame s) (with_chunk s path index (Inline bytes)) (record { base = refl; origin = refl })) (λ long. put-within s path index bytes (drawn12 s.ids))))
      (λ e. refused-within may (IsSame s) _)

  -- ---- a chunk that is read
  found-within : (r : Result (List ℕ) Refusal) → WithinOk may Any (found_bytes r)
  unfolding Within
  found-within (Ok bytes) = tt
  found-within (Err why) = tt

  part-within : (want : ℕ) (id : Id12) (offset size : ℕ) → WithinOk may Any (read_object want id offset size)
  part-within want id offset size =
      then-within may (λ (bytes : List ℕ). Unit {0}) Any (object_program want id offset size) (λ bytes. Done (Ok (Bytes bytes))) (asks-within may (Get (Chunk id)) (object_told want id offset size) (gets (Chunk id) refl)) (λ bytes q. done-within may Any (Bytes bytes) tt)

  place-within : (want : ℕ) (manifest : Id12) (place : Place) → WithinOk may Any (read_place want manifest place)
  place-within want manifest (Inline bytes) = found-within _
  place-within want manifest (Object id offset size) = part-within want id offset size

  entry-within : (want : ℕ) (manifest : Id12) (rest : Program Value) → WithinOk may Any rest → (o : Option Place) → WithinOk may Any (read_entry want manifest rest o)
  entry-within want manifest rest w None = w
  entry-within want manifest rest w (Some place) = place-within want manifest place

  listed-within : (want : ℕ) (node : Id8) (index : List ℕ) (ids : List Id12) → WithinOk may Any (read_listed want node index ids)
  unfolding read_listed
  listed-within want node index [] = done-within may Any _ tt
  listed-within want node index (manifest ∷ more) =
      then-within may (λ (file : ManifestFile). Unit {0}) Any (manifest_program manifest) (λ file. read_entry want manifest (read_listed want node index more) (entry_of node index file)) (asks-within may (Get (Manifest manifest)) (manifest_told manifest) (gets (Manifest manifest) refl))
      (λ file q. entry-within want manifest (read_listed want node index more) (listed-within want node index more) (entry_of node index file))

  own-within : (want : ℕ) (place : Place) → WithinOk may Any (read_own want place)
  own-within want (Inline bytes) = done-within may Any _ tt
  own-within want (Object id offset size) = part-within want id offset size

  at-within : (s : SessionState) (path index : List ℕ) (at : ChunkAt) (entry : Option (Option Place)) → WithinOk may Any (read_at s path index at entry)
  at-within s path index at (Some (Some place)) = own-within at.bytes place
  at-within s path index at (Some None) = done-within may Any _ tt
  at-within s path index at None = listed-within at.bytes at.node index (ids_within index (own_manifests s.rows path at.node))

  place_found-within : (s : SessionState) (path index : List ℕ) (r : Result ChunkAt EditFault) → WithinOk may Any (read_found s path index r)
  place_found-within s path index (Err fault) = refused-within may Any _
  place_found-within s path index (Ok at) = at-within s path index at (entry_in s.held.chunks at.node index)

  pub get-within : (s : SessionState) (path index : List ℕ) → WithinOk may Any (get_program s path index)
  unfolding get_program
  get-within s path index = place_found-within s path index (chunk_found (nodes_seen s) path index)

  -- ---- a commit
  old-within : (manifests : List ManifestRef) (seen : List Listed) → WithinOk may (λ (x : List Listed). Unit {0}) (old_program manifests seen)
  unfolding old_program
  old-within [] seen = done-within may (λ (x : List Listed). Unit {0}) seen tt
  old-within (m ∷ more) seen =
      then-within may (λ (file : ManifestFile). Unit {0}) (λ (x : List Listed). Unit {0}) (manifest_program m.id) (λ file. old_program more (seen ++ (m.extents, file) ∷ [])) (asks-within may (Get (Manifest m.id)) (manifest_told m.id) (gets (Manifest m.id) refl)) (λ file q. old-within more (seen ++ (m.extents, file) ∷ []))

  manifest_told-within : (w : Written) (id : Id12) (reply : Reply) → WithinOk may Wrote (after_manifest w id reply)
  unfolding Within
  manifest_told-within w id (Is_new (New_done version now)) = tt
  manifest_told-within w id (Is_new (Present version now)) = tt
  manifest_told-within w id (Is_got x) = tt
  manifest_told-within w id (Is_over x) = tt
  manifest_told-within w id (Is_gone x) = tt
  manifest_told-within w id (Is_gone_at x) = tt
  manifest_told-within w id (Is_listed x) = tt
  manifest_told-within w id (Failed done) = tt

  manifest_put-within : (w : Written) (a : ChangedArray) (array : ArrayRefs) (id : Id12) → WithinOk may Wrote (Ask (PutNew (Manifest id) (file_bytes (manifest_for id array)) Set) (after_manifest (with_manifest w a array id) id))
  unfolding Within
  manifest_put-within w a array id = (puts (Manifest id) (file_bytes (manifest_for id array)) Set (λ base. tt), manifest_told-within (with_manifest w a array id) id)

  manifest-within : (w : Written) (a : ChangedArray) (array : ArrayRefs) (o : Option Id12) → WithinOk may Wrote (put_manifest w a array o)
  manifest-within w a array None = refused-within may Wrote _
  manifest-within w a array (Some id) = either-within may Wrote (is_long (file_bytes (manifest_for id array))) _ _ (λ long. refused-within may Wrote _) (λ fits. manifest_put-within w a array id)

  array_write-within : (w : Written) (a : ChangedArray) (refs : Option ArrayRefs) → WithinOk may Wrote (write_array w a refs)
  array_write-within w a None = done-within may Wrote _ tt
  array_write-within w a (Some array) = either-within may Wrote (nat_lt refs_limit (length array.refs)) _ _ (λ many. refused-within may Wrote _) (λ few. manifest-within w a array (drawn12 w.ids))

  pub arrays-within : (rows : List NodeRow) (entries : List (HeldEntry Place)) (arrays : List ChangedArray) (w : Written) → WithinOk may Wrote (arrays_program rows entries arrays w)
  unfolding arrays_program
  arrays-within rows entries [] w = done-within may Wrote w tt
  arrays-within rows entries (a ∷ more) w =
      then-within may Wrote Wrote (array_program rows entries w a) (arrays_program rows entries more)
      (then-within may (λ (x : List Listed). Unit {0}) Wrote (old_program (own_manifests rows a.path a.node) []) (λ old. write_array w a (merged_array a.rank a.node old (chunks_of entries a.node))) (old-within (own_manifests rows a.path a.node) []) (λ old q. array_write-within w a (merged_array a.rank a.node old (chunks_of entries a.node))))
      (λ v q. arrays-within rows entries more v)

-- ---- a commit gets no branch
pub still-gets : (key : Key) → is_branch key ≡ false → Still (Get key)
still-gets key e = (λ g. cc, λ base. tt)

pub still-puts : (key : Key) (bytes : List ℕ) (why : Why) → ((base : Id12) → IsLeaseOf base key bytes) → Still (PutNew key bytes why)
still-puts key bytes why leases = (λ g. g, leases)

abbrev Tries : Tried → Type 0
Tries t = Unit {0}

branch-within : (s : SessionState) (id : Id12) (next : AnyIds) (reply : Reply) → WithinOk Still Tries (after_branch s id next reply)
unfolding Within
branch-within s id next (Is_over (Over_done version now)) = tt
branch-within s id next (Is_over (Over_moved there now)) = tt
branch-within s id next (Is_got x) = tt
branch-within s id next (Is_new x) = tt
branch-within s id next (Is_gone x) = tt
branch-within s id next (Is_gone_at x) = tt
branch-within s id next (Is_listed x) = tt
branch-within s id next (Failed done) = tt

snapshot-within : (s : SessionState) (id : Id12) (next : AnyIds) (reply : Reply) → WithinOk Still Tries (after_snapshot s id next reply)
unfolding Within
snapshot-within s id next (Is_new (New_done version now)) = ((λ g. g, λ base. tt), branch-within s id next)
snapshot-within s id next (Is_new (Present version now)) = tt
snapshot-within s id next (Is_got x) = tt
snapshot-within s id next (Is_over x) = tt
snapshot-within s id next (Is_gone x) = tt
snapshot-within s id next (Is_gone_at x) = tt
snapshot-within s id next (Is_listed x) = tt
snapshot-within s id next (Failed done) = tt

snapshot_asked-within : (s : SessionState) (id : Id12) (next : AnyIds) (file : List ℕ) → WithinOk Still Tries (Ask (PutNew (Snapshot id) file Set) (after_snapshot s id next))
unfolding Within
snapshot_asked-within s id next file = ((λ g. g, λ base. tt), snapshot-within s id next)

snapshot_put-within : (s : SessionState) (id : Id12) (next : AnyIds) (file : List ℕ) → WithinOk Still Tries (put_snapshot s id next file)
snapshot_put-within s id next file = either-within Still Tries (is_long file) _ _ (λ long. refused-within Still Tries _) (λ fits. snapshot_asked-within s id next file)

log-within : (s : SessionState) (message : List ℕ) (news : List NewList) (id : Id12) (next : AnyIds) (reply : Reply) → WithinOk Still Tries (after_log s message news id next reply)
unfolding Within
log-within s message news id next (Is_new (New_done version now)) = snapshot_put-within s id next (snapshot_bytes (snap_for s message news id now))
log-within s message news id next (Is_new (Present version now)) = tt
log-within s message news id next (Is_got x) = tt
log-within s message news id next (Is_over x) = tt
log-within s message news id next (Is_gone x) = tt
log-within s message news id next (Is_gone_at x) = tt
log-within s message news id next (Is_listed x) = tt
log-within s message news id next (Failed done) = tt

log_asked-within : (s : SessionState) (message : List ℕ) (news : List NewList) (id : Id12) (next : AnyIds) → WithinOk Still Tries (Ask (PutNew (Txn id) (log_file (log_for s id)) Set) (after_log s message news id next))
unfolding Within
log_asked-within s message news id next = ((λ g. g, λ base. tt), log-within s message news id next)

log_put-within : (s : SessionState) (message : List ℕ) (news : List NewList) (o : Option Id12) (next : AnyIds) → WithinOk Still Tries (put_log s message news o next)
log_put-within s message news None next = refused-within Still Tries _
log_put-within s message news (Some id) next = either-within Still Tries (is_long (log_file (log_for s id))) _ _ (λ long. refused-within Still Tries _) (λ fits. log_asked-within s message news id next)

pub commit-within : (s : SessionState) (message : List ℕ) → WithinOk Still Tries (commit_program s message)
unfolding commit_program
commit-within s message =
    either-within Still Tries (writes s) _ _
    (λ e. either-within Still Tries (is_untouched (touched s.held (base_nodes s))) _ _ (λ none. refused-within Still Tries _)
    (λ some. then-within Still Wrote Tries (arrays_program s.rows s.held.chunks (changed_arrays s.held (base_nodes s)) (unwritten s)) (after_arrays s message)
    (arrays-within Still still-gets still-puts s.rows s.held.chunks (changed_arrays s.held (base_nodes s)) (unwritten s)) (λ w q. log_put-within s message w.news (drawn12 w.ids) (after12 w.ids))))
    (λ e. refused-within Still Tries _)

-- ---- a rebase behind its get of the branch
-- the session is on what the branch named
abbrev pub IsOnHead : SessionState → Resolved → Rebased → Type 0
IsOnHead s named (OnHead t count) = (t.base ≡ named.id) × (t.origin ≡ origin_at named.version.0 s.origin)
IsOnHead s named (UpToDate t) = (t.base ≡ named.id) × (t.origin ≡ origin_at named.version.0 s.origin)

abbrev Came : CommitsSince → Type 0
Came c = Unit {0}

abbrev behind : (base head : Id12) → (left : ℕ) → (above : List SnapshotFile) → SnapshotFile → Option Id12 → Program CommitsSince
behind base head left above f parent = elim parent [
  | Some parent ↦ cond (same_id12 parent base) (Done (Ok (record { oldest = f; later = above }))) (walk_down base head left (f ∷ above) parent)
  | None ↦ Done (Err (NotAncestor head))
]

parent-within : (base head : Id12) (left : ℕ) (above : List SnapshotFile) (f : SnapshotFile) → ((id : Id12) → WithinOk Climbs Came (walk_down base head left (f ∷ above) id)) → (parent : Option Id12) → WithinOk Climbs Came (behind base head left above f parent)
parent-within base head left above f w (Some parent) = either-within Climbs Came (same_id12 parent base) _ _ (λ same. done-within Climbs Came _ tt) (λ apart. w parent)
parent-within base head left above f w None = refused-within Climbs Came _

walk-within : (base head : Id12) (left : ℕ) (above : List SnapshotFile) (id : Id12) → WithinOk Climbs Came (walk_down base head left above id)
unfolding walk_down
walk-within base head zero above id = refused-within Climbs Came _
walk-within base head (suc left) above id =
    then-within Climbs (λ (f : SnapshotFile). Unit {0}) Came (snapshot_program id) (λ f. behind base head left above f f.parent) (asks-within Climbs (Get (Snapshot id)) (snapshot_told id) (tt, λ g. cc))
    (λ f q. parent-within base head left above f (λ next. walk-within base head left (f ∷ above) next) f.parent)

abbrev Solved : Held Place → Type 0
Solved held = Unit {0}

solved-within : (at : Id12) (left : List Conflict) (hidden : Option Id8) (p : Program (Held Place)) → WithinOk Climbs Solved p → WithinOk Climbs Solved (if_solved at left hidden p)
solved-within at (x ∷ xs) hidden p w = refused-within Climbs Solved _
solved-within at [] (Some node) p w = refused-within Climbs Solved _
solved-within at [] None p w = w

link-within : (policy : Policy) (held : Held Place) (before : FinMap path_cmp Node) (l : Link) (next : Held Place → Program (Held Place)) → ((left : Held Place) → WithinOk Climbs Solved (next left)) → WithinOk Climbs Solved (solve_link policy held before l next)
link-within policy held before l next w = solved-within l.file.id (left_at policy held before l) (first_hidden (nodes_in l.file.nodes) held.metas) (next (solved_at policy held before l)) (w (solved_at policy held before l))

solve-within : (policy : Policy) (held : Held Place) (before : FinMap path_cmp Node) (fs : List SnapshotFile) → WithinOk Climbs Solved (solve_program policy held before fs)
unfolding solve_program
solve-within policy held before [] = done-within Climbs Solved held tt
solve-within policy held before (f ∷ fs) =
    let next : Held Place → Program (Held Place) = λ left. solve_program policy left (nodes_in f.nodes) fs in
    then-within Climbs (λ (log : TxnFile). Unit {0}) Solved (log_program f.id) (λ log. solve_link policy held before (record { file = f; lists = log.lists }) next) (asks-within Climbs (Get (Txn f.id)) (log_told f.id) (tt, λ g. cc))
    (λ log q. link-within policy held before (record { file = f; lists = log.lists }) next (λ left. solve-within policy left (nodes_in f.nodes) fs))

pub ref-within : (policy : Policy) (s : SessionState) (named : Resolved) → WithinOk Climbs (IsOnHead s named) (after_ref policy s named)
ref-within policy s named =
    either-within Climbs (IsOnHead s named) (same_id12 named.id s.base) _ _
    (λ same. done-within Climbs (IsOnHead s named) (UpToDate (record s { origin = origin_at named.version.0 s.origin })) (sym (same_id12-true named.id s.base same), refl))
    (λ apart. then-within Climbs Came (IsOnHead s named) (walk_down s.base named.id most_snapshots [] named.id) (over_commits policy s named) (walk-within s.base named.id most_snapshots [] named.id)
    (λ c q. then-within Climbs Solved (IsOnHead s named) (solve_program policy s.held (base_nodes s) (c.oldest ∷ c.later)) (on_head s named (length c.later + 1) (head_of c.oldest c.later)) (solve-within policy s.held (base_nodes s) (c.oldest ∷ c.later))
    (λ held r. either-within Climbs (IsOnHead s named) (nat_lt most_nodes (len (nodes_over held (nodes_in (head_of c.oldest c.later).nodes)))) _ _ (λ many. refused-within Climbs (IsOnHead s named) _)
    (λ few. done-within Climbs (IsOnHead s named) (OnHead (rebased_to s named.id named.version.0 (head_of c.oldest c.later) held) (length c.later + 1)) (refl, refl)))))
