-- Programs that a line begins: where they end at once, they tell no fault of the store.
use Rattle.std.proofs.Common.{◌≡◌, refl, sym, ◌∙◌, ap, cond, Bool, true, false, ℕ, List, [], ◌∷◌, length, Option, None, Some, Result, Ok, Err}
use Rattle.std.specs.Prelude.{nat_le, nat_lt}
use Rattle.ice_ids.specs.declared.Id8.{Id8}
use Rattle.ice_ids.specs.declared.Id12.{Id12}
use Rattle.ice_ids.specs.declared.drawing.AnyIds.{AnyIds}
use Rattle.ice_ids.specs.Drawing.{drawn12, after12}
use Rattle.flat_tables.specs.declared.header.Kind.TheVariants as kinds
use Rattle.zarr_tree.specs.declared.edit.EditFault.{EditFault}
use Rattle.zarr_tree.specs.declared.edit.EditFault.TheVariants as E
use Rattle.zarr_tree.specs.Held.{HeldEntry, touched, entry_in}
use Rattle.zarr_tree.specs.Touched.{is_untouched}
use Rattle.zarr_changes.specs.declared.chunks.ChangedArray.{ChangedArray}
use Rattle.zarr_changes.specs.declared.chunks.ChunkAt.{ChunkAt}
use Rattle.zarr_changes.specs.Sets.{set_refusal, chunk_found, chunks_of, changed_arrays}
use Rattle.manifest_file.specs.declared.manifest.Place.{Place}
use Rattle.manifest_file.specs.declared.manifest.Place.TheVariants.{Inline, Object}
use Rattle.manifest_file.specs.declared.manifest.ArrayRefs.{ArrayRefs}
use Rattle.manifest_file.specs.Manifests.{refs_limit}
use Rattle.manifest_file.specs.Layout.{file_bytes}
use Rattle.held_manifest.specs.LookUp.{Listed}
use Rattle.manifest_index.specs.Merging.{merged_array, ids_within}
use Rattle.snapshot_file.specs.declared.nodes.ManifestRef.{ManifestRef}
use Rattle.snapshot_file.specs.declared.nodes.NodeRow.{NodeRow}
use Rattle.txn_file.specs.Layout.{log_file}
use Rattle.changed_snapshot.specs.declared.new_snapshot.NewList.{NewList}
use Rattle.changed_snapshot.specs.Rows.{own_manifests}
use Rattle.store_api.specs.declared.machines.Refusal.{Refusal}
use Rattle.store_api.specs.declared.machines.Refusal.TheVariants as R
use Rattle.store_api.specs.Program.{Done, Ask, is_fault}
use Rattle.store_api.specs.Running.{Program, ◌>>=◌}
use Rattle.session.specs.Sessions.{SessionState, writes, base_nodes, nodes_seen}
use Rattle.session.specs.Editing.{refusal_of_edit}
use Rattle.session.specs.Chunks.{set_program, put_chunk, put_object, unless_fault, most_inline, get_program, read_listed, read_own, read_at, read_found}
use Rattle.commit_path.specs.Committing.{Written, manifest_for, is_long, put_manifest, write_array, old_program, array_program, arrays_program, put_log, after_arrays, log_for, unwritten, commit_program}
use Rattle.play_tasks.specs.inside.Working.{EndsCalmly}

pub edit_fault : (fault : EditFault) → is_fault (refusal_of_edit fault) ≡ false
edit_fault E.NodeExists = refl
edit_fault E.NoParent = refl
edit_fault E.Full = refl
edit_fault E.NoNode = refl
edit_fault (E.FrozenField part) = refl
edit_fault E.NotArray = refl
edit_fault E.OutOfGrid = refl
edit_fault (E.ChunkLength want got) = refl
edit_fault E.NoMemory = refl

pub ends-refused : {A : Type 0} (own : Refusal) → is_fault own ≡ false → EndsCalmly {A = A} (Done (Err own))
ends-refused own calm why e = let x : own ≡ why = cc in sym (ap is_fault x) ∙ calm

pub ends-behind : {A B : Type 0} (p : Program A) (f : A → Program B) → EndsCalmly p → ((a : A) → EndsCalmly (f a)) → EndsCalmly (p >>= f)
ends-behind (Done (Ok a)) f c g why e = g a why e
ends-behind (Done (Err own)) f c g why e = ends-refused own (c own refl) why e
ends-behind (Ask op k) f c g why e = absurd (cc)

either : {A : Type 0} (b : Bool) (p q : Program A) → EndsCalmly p → EndsCalmly q → EndsCalmly (cond b p q)
either true p q c d = c
either false p q c d = d

-- ---- a chunk that is set
object-calm : (s : SessionState) (path index bytes : List ℕ) (o : Option Id12) → EndsCalmly (put_object s path index bytes o)
object-calm s path index bytes None = ends-refused R.IdsSpent refl
object-calm s path index bytes (Some id) = λ why e. absurd (cc)

chunk-calm : (s : SessionState) (path index bytes : List ℕ) → EndsCalmly (put_chunk s path index bytes)
chunk-calm s path index bytes = either (nat_le (length bytes) most_inline) _ _ (λ why e. absurd (cc)) (object-calm s path index bytes (drawn12 s.ids))

fault-calm : {A : Type 0} (o : Option EditFault) (p : Program A) → EndsCalmly p → EndsCalmly (unless_fault o p)
fault-calm None p c = c
fault-calm (Some fault) p c = ends-refused (refusal_of_edit fault) (edit_fault fault)

pub set-calm : (s : SessionState) (path index bytes : List ℕ) → EndsCalmly (set_program s path index bytes)
unfolding set_program
set-calm s path index bytes = either (writes s) _ _ (fault-calm (set_refusal (nodes_seen s) path index (length bytes)) _ (chunk-calm s path index bytes)) (ends-refused R.ReadOnly refl)

-- ---- a chunk that is read
listed-calm : (want : ℕ) (node : Id8) (index : List ℕ) (ids : List Id12) → EndsCalmly (read_listed want node index ids)
unfolding read_listed
listed-calm want node index [] why e = absurd (cc)
listed-calm want node index (id ∷ more) why e = absurd (cc)

own-calm : (want : ℕ) (place : Place) → EndsCalmly (read_own want place)
own-calm want (Inline bytes) why e = absurd (cc)
own-calm want (Object id offset size) why e = absurd (cc)

at-calm : (s : SessionState) (path index : List ℕ) (at : ChunkAt) (entry : Option (Option Place)) → EndsCalmly (read_at s path index at entry)
at-calm s path index at (Some (Some place)) = own-calm at.bytes place
at-calm s path index at (Some None) = λ why e. absurd (cc)
at-calm s path index at None = listed-calm at.bytes at.node index (ids_within index (own_manifests s.rows path at.node))

found-calm : (s : SessionState) (path index : List ℕ) (found : Result ChunkAt EditFault) → EndsCalmly (read_found s path index found)
found-calm s path index (Err fault) = ends-refused (refusal_of_edit fault) (edit_fault fault)
found-calm s path index (Ok at) = at-calm s path index at (entry_in s.held.chunks at.node index)

pub get-calm : (s : SessionState) (path index : List ℕ) → EndsCalmly (get_program s path index)
unfolding get_program
get-calm s path index = found-calm s path index (chunk_found (nodes_seen s) path index)

-- ---- a commit
old-calm : (manifests : List ManifestRef) (seen : List Listed) → EndsCalmly (old_program manifests seen)
unfolding old_program
old-calm [] seen why e = absurd (cc)
old-calm (m ∷ more) seen why e = absurd (cc)

manifest-calm : (w : Written) (a : ChangedArray) (array : ArrayRefs) (o : Option Id12) → EndsCalmly (put_manifest w a array o)
manifest-calm w a array None = ends-refused R.IdsSpent refl
manifest-calm w a array (Some id) = either (is_long (file_bytes (manifest_for id array))) _ _ (ends-refused (R.TooLarge kinds.Manifest) refl) (λ why e. absurd (cc))

write-calm : (w : Written) (a : ChangedArray) (refs : Option ArrayRefs) → EndsCalmly (write_array w a refs)
write-calm w a None = λ why e. absurd (cc)
write-calm w a (Some array) = either (nat_lt refs_limit (length array.refs)) _ _ (ends-refused (R.TooLarge kinds.Manifest) refl) (manifest-calm w a array (drawn12 w.ids))

array-calm : (rows : List NodeRow) (entries : List (HeldEntry Place)) (w : Written) (a : ChangedArray) → EndsCalmly (array_program rows entries w a)
array-calm rows entries w a = ends-behind (old_program (own_manifests rows a.path a.node) []) _ (old-calm (own_manifests rows a.path a.node) []) (λ old. write-calm w a (merged_array a.rank a.node old (chunks_of entries a.node)))

arrays-calm : (rows : List NodeRow) (entries : List (HeldEntry Place)) (arrays : List ChangedArray) (w : Written) → EndsCalmly (arrays_program rows entries arrays w)
unfolding arrays_program
arrays-calm rows entries [] w = λ why e. absurd (cc)
arrays-calm rows entries (a ∷ more) w = ends-behind (array_program rows entries w a) _ (array-calm rows entries w a) (λ v. arrays-calm rows entries more v)

log-calm : (s : SessionState) (message : List ℕ) (news : List NewList) (o : Option Id12) (next : AnyIds) → EndsCalmly (put_log s message news o next)
log-calm s message news None next = ends-refused R.IdsSpent refl
log-calm s message news (Some id) next = either (is_long (log_file (log_for s id))) _ _ (ends-refused (R.TooLarge kinds.Log) refl) (λ why e. absurd (cc))

pub commit-calm : (s : SessionState) (message : List ℕ) → EndsCalmly (commit_program s message)
unfolding commit_program
commit-calm s message =
    either (writes s) _ _
    (either (is_untouched (touched s.held (base_nodes s))) _ _ (ends-refused R.NothingToCommit refl)
    (ends-behind (arrays_program s.rows s.held.chunks (changed_arrays s.held (base_nodes s)) (unwritten s)) (after_arrays s message) (arrays-calm s.rows s.held.chunks (changed_arrays s.held (base_nodes s)) (unwritten s)) (λ w. log-calm s message w.news (drawn12 w.ids) (after12 w.ids))))
    (ends-refused R.ReadOnly refl)
